-- Names of attributes (DWARF 5 section 7.5.4, table 7.5), without `DW_AT_`.
use Rattle.std.specs.Prelude.{ℕ, ◌/◌, Option, None, if◌then◌else◌, ◌==◌, List, [], ◌∷◌, codes}
use Rattle.dw_names.specs.Named.{named}

unfoldable pub attributes_00 : List (ℕ × List ℕ)
attributes_00 =
    (0x01, codes "sibling") ∷
    (0x02, codes "location") ∷
    (0x03, codes "name") ∷
    (0x09, codes "ordering") ∷
    (0x0b, codes "byte_size") ∷
    (0x0d, codes "bit_size") ∷ []

unfoldable pub attributes_10 : List (ℕ × List ℕ)
attributes_10 =
    (0x10, codes "stmt_list") ∷
    (0x11, codes "low_pc") ∷
    (0x12, codes "high_pc") ∷
    (0x13, codes "language") ∷
    (0x15, codes "discr") ∷
    (0x16, codes "discr_value") ∷
    (0x17, codes "visibility") ∷
    (0x18, codes "import") ∷
    (0x19, codes "string_length") ∷
    (0x1a, codes "common_reference") ∷
    (0x1b, codes "comp_dir") ∷
    (0x1c, codes "const_value") ∷
    (0x1d, codes "containing_type") ∷
    (0x1e, codes "default_value") ∷ []

unfoldable pub attributes_20 : List (ℕ × List ℕ)
attributes_20 =
    (0x20, codes "inline") ∷
    (0x21, codes "is_optional") ∷
    (0x22, codes "lower_bound") ∷
    (0x25, codes "producer") ∷
    (0x27, codes "prototyped") ∷
    (0x2a, codes "return_addr") ∷
    (0x2c, codes "start_scope") ∷
    (0x2e, codes "bit_stride") ∷
    (0x2f, codes "upper_bound") ∷ []

unfoldable pub attributes_30 : List (ℕ × List ℕ)
attributes_30 =
    (0x31, codes "abstract_origin") ∷
    (0x32, codes "accessibility") ∷
    (0x33, codes "address_class") ∷
    (0x34, codes "artificial") ∷
    (0x35, codes "base_types") ∷
    (0x36, codes "calling_convention") ∷
    (0x37, codes "count") ∷
    (0x38, codes "data_member_location") ∷
    (0x39, codes "decl_column") ∷
    (0x3a, codes "decl_file") ∷
    (0x3b, codes "decl_line") ∷
    (0x3c, codes "declaration") ∷
    (0x3d, codes "discr_list") ∷
    (0x3e, codes "encoding") ∷
    (0x3f, codes "external") ∷ []

unfoldable pub attributes_40 : List (ℕ × List ℕ)
attributes_40 =
    (0x40, codes "frame_base") ∷
    (0x41, codes "friend") ∷
    (0x42, codes "identifier_case") ∷
    (0x44, codes "namelist_item") ∷
    (0x45, codes "priority") ∷
    (0x46, codes "segment") ∷
    (0x47, codes "specification") ∷
    (0x48, codes "static_link") ∷
    (0x49, codes "type") ∷
    (0x4a, codes "use_location") ∷
    (0x4b, codes "variable_parameter") ∷
    (0x4c, codes "virtuality") ∷
    (0x4d, codes "vtable_elem_location") ∷
    (0x4e, codes "allocated") ∷
    (0x4f, codes "associated") ∷ []

unfoldable pub attributes_50 : List (ℕ × List ℕ)
attributes_50 =
    (0x50, codes "data_location") ∷
    (0x51, codes "byte_stride") ∷
    (0x52, codes "entry_pc") ∷
    (0x53, codes "use_UTF8") ∷
    (0x54, codes "extension") ∷
    (0x55, codes "ranges") ∷
    (0x56, codes "trampoline") ∷
    (0x57, codes "call_column") ∷
    (0x58, codes "call_file") ∷
    (0x59, codes "call_line") ∷
    (0x5a, codes "description") ∷
    (0x5b, codes "binary_scale") ∷
    (0x5c, codes "decimal_scale") ∷
    (0x5d, codes "small") ∷
    (0x5e, codes "decimal_sign") ∷
    (0x5f, codes "digit_count") ∷ []

unfoldable pub attributes_60 : List (ℕ × List ℕ)
attributes_60 =
    (0x60, codes "picture_string") ∷
    (0x61, codes "mutable") ∷
    (0x62, codes "threads_scaled") ∷
    (0x63, codes "explicit") ∷
    (0x64, codes "object_pointer") ∷
    (0x65, codes "endianity") ∷
    (0x66, codes "elemental") ∷
    (0x67, codes "pure") ∷
    (0x68, codes "recursive") ∷
    (0x69, codes "signature") ∷
    (0x6a, codes "main_subprogram") ∷
    (0x6b, codes "data_bit_offset") ∷
    (0x6c, codes "const_expr") ∷
    (0x6d, codes "enum_class") ∷
    (0x6e, codes "linkage_name") ∷
    (0x6f, codes "string_length_bit_size") ∷ []

unfoldable pub attributes_70 : List (ℕ × List ℕ)
attributes_70 =
    (0x70, codes "string_length_byte_size") ∷
    (0x71, codes "rank") ∷
    (0x72, codes "str_offsets_base") ∷
    (0x73, codes "addr_base") ∷
    (0x74, codes "rnglists_base") ∷
    (0x76, codes "dwo_name") ∷
    (0x77, codes "reference") ∷
    (0x78, codes "rvalue_reference") ∷
    (0x79, codes "macros") ∷
    (0x7a, codes "call_all_calls") ∷
    (0x7b, codes "call_all_source_calls") ∷
    (0x7c, codes "call_all_tail_calls") ∷
    (0x7d, codes "call_return_pc") ∷
    (0x7e, codes "call_value") ∷
    (0x7f, codes "call_origin") ∷ []

unfoldable pub attributes_80 : List (ℕ × List ℕ)
attributes_80 =
    (0x80, codes "call_parameter") ∷
    (0x81, codes "call_pc") ∷
    (0x82, codes "call_tail_call") ∷
    (0x83, codes "call_target") ∷
    (0x84, codes "call_target_clobbered") ∷
    (0x85, codes "call_data_location") ∷
    (0x86, codes "call_data_value") ∷
    (0x87, codes "noreturn") ∷
    (0x88, codes "alignment") ∷
    (0x89, codes "export_symbols") ∷
    (0x8a, codes "deleted") ∷
    (0x8b, codes "defaulted") ∷
    (0x8c, codes "loclists_base") ∷ []

-- The name of an attribute, by the sixteen numbers among which it stands; none where the standard gives it none (DWARF 5 section 7.5.4).
unfoldable pub attribute_name : ℕ → Option (List ℕ)
attribute_name n =
    if n / 16 == 0 then named attributes_00 n else (
    if n / 16 == 1 then named attributes_10 n else (
    if n / 16 == 2 then named attributes_20 n else (
    if n / 16 == 3 then named attributes_30 n else (
    if n / 16 == 4 then named attributes_40 n else (
    if n / 16 == 5 then named attributes_50 n else (
    if n / 16 == 6 then named attributes_60 n else (
    if n / 16 == 7 then named attributes_70 n else (
    if n / 16 == 8 then named attributes_80 n else None))))))))
