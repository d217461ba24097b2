-- The line of a unit, as our text format has it: what its header says (DWARF 5 section 7.5.1.1).
use Rattle.std.specs.Prelude.{ℕ, Bool, if◌then◌else◌, List, [], ◌∷◌, ◌++◌, codes}
use Rattle.dw_text.specs.Added.{labelled}
use Rattle.dw_text.specs.Numbers.{decimal, hex, sixteen}
use Rattle.unit_headers.specs.declared.header.UnitHeader.{UnitHeader}
use Rattle.unit_headers.specs.declared.kind.Extra.{Extra}
use Rattle.unit_headers.specs.declared.kind.Extra.TheVariants.{Nothing, Id, Signature}
use Rattle.unit_headers.specs.declared.kind.UnitKind.{UnitKind}
use Rattle.unit_headers.specs.declared.kind.UnitKind.TheVariants.{Compile, TypeUnit, Partial, Skeleton, SplitCompile, SplitType}

-- the names of the unit types (DWARF 5 section 7.5.1, table 7.2)
unfoldable pub kind_text : UnitKind → List ℕ
kind_text Compile = codes "compile"
kind_text TypeUnit = codes "type"
kind_text Partial = codes "partial"
kind_text Skeleton = codes "skeleton"
kind_text SplitCompile = codes "split_compile"
kind_text SplitType = codes "split_type"

-- the bits of the format (DWARF 5 section 7.4)
unfoldable pub format_text : Bool → List ℕ
format_text wide = if wide then codes "64" else codes "32"

-- what the unit types beside compile and partial add
unfoldable pub extra_text : Extra → List ℕ
extra_text Nothing = []
extra_text (Id id) = labelled (codes " id 0x") (sixteen id)
extra_text (Signature signature type_offset) =
    labelled (codes " signature 0x") (sixteen signature)
    ++ labelled (codes " type 0x") (hex type_offset)

-- where the unit is and of what kind
unfoldable pub unit_start : UnitHeader → List ℕ
unit_start h =
    labelled (codes "unit ") (decimal h.number)
    ++ labelled (codes " at 0x") (hex h.place)
    ++ labelled (codes " format ") (format_text h.wide)
    ++ labelled (codes " version ") (decimal h.version)
    ++ labelled (codes " type ") (kind_text h.kind)

-- the address size and the places that the header names
unfoldable pub unit_bounds : UnitHeader → List ℕ
unit_bounds h =
    labelled (codes " address ") (decimal h.address_size)
    ++ labelled (codes " abbrev 0x") (hex h.«abbrev»)
    ++ labelled (codes " entries 0x") (hex h.entries)
    ++ labelled (codes " end 0x") (hex h.end)

unfoldable pub unit_line : UnitHeader → List ℕ
unit_line h = unit_start h ++ unit_bounds h ++ extra_text h.extra ++ (10 ∷ [])
