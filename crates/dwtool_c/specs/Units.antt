-- The units of a file as rows.
use Rattle.std.specs.Prelude.{ℕ, zero, suc, ◌+◌, Bool, if◌then◌else◌, List, [], ◌∷◌, Result, Ok, Err}
use Rattle.dw_fields.specs.declared.fault_code.Fault.{Fault}
use Rattle.elf_sections.specs.Names.{elf_of}
use Rattle.elf_sections.specs.Rows.{ElfView}
use Rattle.elf_sections.specs.Shapes.{SectionsView, sections_of}
use Rattle.entry_tree.specs.Units.{units_of}
use Rattle.unit_headers.specs.declared.header.UnitHeader.{UnitHeader}
use Rattle.unit_headers.specs.declared.kind.Extra.{Extra}
use Rattle.unit_headers.specs.declared.kind.Extra.TheVariants.{Nothing, Id, Signature}
use Rattle.unit_headers.specs.declared.kind.UnitKind.{UnitKind}
use Rattle.unit_headers.specs.declared.kind.UnitKind.TheVariants as kinds
use Rattle.unit_headers.specs.Headers.{header_at, unit_count}
use Rattle.unit_headers.specs.Units.{Units}
use Rattle.dwtool_c.specs.declared.units.DwtoolUnit.{DwtoolUnit}
use Rattle.dwtool_c.specs.Answers.{Answer, done, refused_behind, on_elf}
use Rattle.dwtool_c.specs.Refusals.{unit_refusal}

-- the number of a unit type (DWARF 5 table 7.2)
abbrev pub kind_number : UnitKind → ℕ
kind_number kinds.Compile = 1
kind_number kinds.TypeUnit = 2
kind_number kinds.Partial = 3
kind_number kinds.Skeleton = 4
kind_number kinds.SplitCompile = 5
kind_number kinds.SplitType = 6

-- the bytes of an offset (DWARF 5 section 7.4)
abbrev pub offset_size : Bool → ℕ
offset_size wide = if wide then 8 else 4

-- the identifier of a skeleton or split unit, or the signature of a type unit; else 0
abbrev pub id_of : Extra → ℕ
id_of Nothing = 0
id_of (Id id) = id
id_of (Signature signature type_offset) = signature

-- where a type unit's type stands, from the unit's first byte; else 0
abbrev pub type_offset_of : Extra → ℕ
type_offset_of Nothing = 0
type_offset_of (Id id) = 0
type_offset_of (Signature signature type_offset) = type_offset

abbrev pub unit_row : UnitHeader → DwtoolUnit
unit_row header = record {
  place = header.place;
  end = header.end;
  entries = header.entries;
  id = id_of header.extra;
  type_offset = type_offset_of header.extra;
  number = header.number;
  «abbrev» = header.«abbrev»;
  version = header.version;
  kind = kind_number header.kind;
  address_size = header.address_size;
  offset_size = offset_size header.wide;
}

-- a row, and what is told of the units behind it
abbrev pub row_before : DwtoolUnit → Answer DwtoolUnit → Answer DwtoolUnit
row_before row others = record { status = others.status; items = row ∷ others.items; refusal = others.refusal }

-- the row of a unit and those of the units behind it, or its refusal alone
abbrev pub unit_told : ℕ → Result UnitHeader Fault → Answer DwtoolUnit → Answer DwtoolUnit
unit_told unit (Ok header) others = row_before (unit_row header) others
unit_told unit (Err f) others = refused_behind [] (unit_refusal unit f)

-- the rows of so many units from one on, up to the first that is refused; its refusal ends them
unfoldable pub units_told : (ℕ → Result UnitHeader Fault) → ℕ → ℕ → Answer DwtoolUnit
units_told header unit zero = done []
units_told header unit (suc n) = unit_told unit (header unit) (units_told header (unit + 1) n)

-- the rows of the units of an index
abbrev pub units_in : Units → Answer DwtoolUnit
units_in u = units_told (header_at u.info u.order u.abbrev_length) 0 (unit_count u.info u.order)

-- the rows of the units of some sections
abbrev pub units_of_sections : SectionsView → Answer DwtoolUnit
units_of_sections s = units_in (units_of s)

abbrev pub units_of_elf : ElfView → Answer DwtoolUnit
units_of_elf elf = units_of_sections (sections_of elf)

unfoldable pub units_answer : List ℕ → Answer DwtoolUnit
units_answer file = on_elf units_of_elf (elf_of file)
