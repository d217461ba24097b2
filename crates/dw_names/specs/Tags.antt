-- Names of tags (DWARF 5 section 7.5.3, table 7.3), without `DW_TAG_`.
use Rattle.std.specs.Prelude.{ℕ, ◌/◌, Option, None, if◌then◌else◌, ◌==◌, List, [], ◌∷◌, codes}
use Rattle.dw_names.specs.Named.{named}

unfoldable pub tags_00 : List (ℕ × List ℕ)
tags_00 =
    (0x01, codes "array_type") ∷
    (0x02, codes "class_type") ∷
    (0x03, codes "entry_point") ∷
    (0x04, codes "enumeration_type") ∷
    (0x05, codes "formal_parameter") ∷
    (0x08, codes "imported_declaration") ∷
    (0x0a, codes "label") ∷
    (0x0b, codes "lexical_block") ∷
    (0x0d, codes "member") ∷
    (0x0f, codes "pointer_type") ∷ []

unfoldable pub tags_10 : List (ℕ × List ℕ)
tags_10 =
    (0x10, codes "reference_type") ∷
    (0x11, codes "compile_unit") ∷
    (0x12, codes "string_type") ∷
    (0x13, codes "structure_type") ∷
    (0x15, codes "subroutine_type") ∷
    (0x16, codes "typedef") ∷
    (0x17, codes "union_type") ∷
    (0x18, codes "unspecified_parameters") ∷
    (0x19, codes "variant") ∷
    (0x1a, codes "common_block") ∷
    (0x1b, codes "common_inclusion") ∷
    (0x1c, codes "inheritance") ∷
    (0x1d, codes "inlined_subroutine") ∷
    (0x1e, codes "module") ∷
    (0x1f, codes "ptr_to_member_type") ∷ []

unfoldable pub tags_20 : List (ℕ × List ℕ)
tags_20 =
    (0x20, codes "set_type") ∷
    (0x21, codes "subrange_type") ∷
    (0x22, codes "with_stmt") ∷
    (0x23, codes "access_declaration") ∷
    (0x24, codes "base_type") ∷
    (0x25, codes "catch_block") ∷
    (0x26, codes "const_type") ∷
    (0x27, codes "constant") ∷
    (0x28, codes "enumerator") ∷
    (0x29, codes "file_type") ∷
    (0x2a, codes "friend") ∷
    (0x2b, codes "namelist") ∷
    (0x2c, codes "namelist_item") ∷
    (0x2d, codes "packed_type") ∷
    (0x2e, codes "subprogram") ∷
    (0x2f, codes "template_type_parameter") ∷ []

unfoldable pub tags_30 : List (ℕ × List ℕ)
tags_30 =
    (0x30, codes "template_value_parameter") ∷
    (0x31, codes "thrown_type") ∷
    (0x32, codes "try_block") ∷
    (0x33, codes "variant_part") ∷
    (0x34, codes "variable") ∷
    (0x35, codes "volatile_type") ∷
    (0x36, codes "dwarf_procedure") ∷
    (0x37, codes "restrict_type") ∷
    (0x38, codes "interface_type") ∷
    (0x39, codes "namespace") ∷
    (0x3a, codes "imported_module") ∷
    (0x3b, codes "unspecified_type") ∷
    (0x3c, codes "partial_unit") ∷
    (0x3d, codes "imported_unit") ∷
    (0x3f, codes "condition") ∷ []

unfoldable pub tags_40 : List (ℕ × List ℕ)
tags_40 =
    (0x40, codes "shared_type") ∷
    (0x41, codes "type_unit") ∷
    (0x42, codes "rvalue_reference_type") ∷
    (0x43, codes "template_alias") ∷
    (0x44, codes "coarray_type") ∷
    (0x45, codes "generic_subrange") ∷
    (0x46, codes "dynamic_type") ∷
    (0x47, codes "atomic_type") ∷
    (0x48, codes "call_site") ∷
    (0x49, codes "call_site_parameter") ∷
    (0x4a, codes "skeleton_unit") ∷
    (0x4b, codes "immutable_type") ∷ []

-- The name of a tag, by the sixteen numbers among which it stands; none where the standard gives it none (DWARF 5 section 7.5.3).
unfoldable pub tag_name : ℕ → Option (List ℕ)
tag_name n =
    if n / 16 == 0 then named tags_00 n else (
    if n / 16 == 1 then named tags_10 n else (
    if n / 16 == 2 then named tags_20 n else (
    if n / 16 == 3 then named tags_30 n else (
    if n / 16 == 4 then named tags_40 n else None))))
