-- Names of forms (DWARF 5 section 7.5.6, table 7.6), without `DW_FORM_`.
use Rattle.std.specs.Prelude.{ℕ, ◌/◌, Option, None, if◌then◌else◌, ◌==◌, List, [], ◌∷◌, codes}
use Rattle.dw_names.specs.Named.{named}

unfoldable pub forms_00 : List (ℕ × List ℕ)
forms_00 =
    (0x01, codes "addr") ∷
    (0x03, codes "block2") ∷
    (0x04, codes "block4") ∷
    (0x05, codes "data2") ∷
    (0x06, codes "data4") ∷
    (0x07, codes "data8") ∷
    (0x08, codes "string") ∷
    (0x09, codes "block") ∷
    (0x0a, codes "block1") ∷
    (0x0b, codes "data1") ∷
    (0x0c, codes "flag") ∷
    (0x0d, codes "sdata") ∷
    (0x0e, codes "strp") ∷
    (0x0f, codes "udata") ∷ []

unfoldable pub forms_10 : List (ℕ × List ℕ)
forms_10 =
    (0x10, codes "ref_addr") ∷
    (0x11, codes "ref1") ∷
    (0x12, codes "ref2") ∷
    (0x13, codes "ref4") ∷
    (0x14, codes "ref8") ∷
    (0x15, codes "ref_udata") ∷
    (0x16, codes "indirect") ∷
    (0x17, codes "sec_offset") ∷
    (0x18, codes "exprloc") ∷
    (0x19, codes "flag_present") ∷
    (0x1a, codes "strx") ∷
    (0x1b, codes "addrx") ∷
    (0x1c, codes "ref_sup4") ∷
    (0x1d, codes "strp_sup") ∷
    (0x1e, codes "data16") ∷
    (0x1f, codes "line_strp") ∷ []

unfoldable pub forms_20 : List (ℕ × List ℕ)
forms_20 =
    (0x20, codes "ref_sig8") ∷
    (0x21, codes "implicit_const") ∷
    (0x22, codes "loclistx") ∷
    (0x23, codes "rnglistx") ∷
    (0x24, codes "ref_sup8") ∷
    (0x25, codes "strx1") ∷
    (0x26, codes "strx2") ∷
    (0x27, codes "strx3") ∷
    (0x28, codes "strx4") ∷
    (0x29, codes "addrx1") ∷
    (0x2a, codes "addrx2") ∷
    (0x2b, codes "addrx3") ∷
    (0x2c, codes "addrx4") ∷ []

-- The name of a form, by the sixteen numbers among which it stands; none where the standard gives it none (DWARF 5 section 7.5.6).
unfoldable pub form_name : ℕ → Option (List ℕ)
form_name n =
    if n / 16 == 0 then named forms_00 n else (
    if n / 16 == 1 then named forms_10 n else (
    if n / 16 == 2 then named forms_20 n else None))
