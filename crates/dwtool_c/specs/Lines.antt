-- The rows of a unit's line table (DWARF 5 section 6.2) as a C caller sees them.
use Rattle.std.specs.Prelude.{ℕ, Bool, if◌then◌else◌, List, [], Option, Some, None, Result, Ok}
use Rattle.dw_fields.specs.declared.fault_code.Fault.{Fault}
use Rattle.dw_fields.specs.Reading.{◌>>=◌}
use Rattle.elf_sections.specs.Names.{elf_of}
use Rattle.elf_sections.specs.Rows.{ElfView}
use Rattle.elf_sections.specs.Shapes.{SectionsView, sections_of}
use Rattle.entry_tree.specs.Units.{facts_of, unit_header}
use Rattle.line_machine.specs.declared.registers.Row.{Row}
use Rattle.line_machine.specs.Running.{kept_rows}
use Rattle.line_programs.specs.LineTables.{table_of}
use Rattle.unit_headers.specs.declared.header.UnitHeader.{UnitHeader}
use Rattle.dwtool_c.specs.declared.lines.DwtoolLine.{DwtoolLine}
use Rattle.dwtool_c.specs.Answers.{Answer, on_elf, on_unit_numbered}

-- 1 where the flag holds
abbrev pub flag_number : Bool → ℕ
flag_number flag = if flag then 1 else 0

unfoldable pub line_row : Row → DwtoolLine
line_row row = record {
  address = row.address;
  op_index = row.op_index;
  file = row.file;
  line = row.line;
  column = row.column;
  isa = row.isa;
  discriminator = row.discriminator;
  stmt = flag_number row.stmt;
  block = flag_number row.block;
  prologue_end = flag_number row.prologue_end;
  epilogue_begin = flag_number row.epilogue_begin;
  end = flag_number row.end;
}

-- the rows of the program at an offset
unfoldable pub rows_at : SectionsView → ℕ → ℕ → Result (List Row) Fault
rows_at s size offset = do
  table ← table_of s size offset
  Ok table.1

-- the rows of the program that a unit names; a unit without a line offset has none
abbrev pub rows_named : SectionsView → UnitHeader → Option ℕ → Result (List Row) Fault
rows_named s header None = Ok []
rows_named s header (Some offset) = rows_at s header.address_size offset

-- the rows of a unit, or the refusal of its header, its first entry or its line program
unfoldable pub unit_rows : SectionsView → ℕ → Result (List Row) Fault
unit_rows s unit = do
  header ← unit_header s unit
  facts ← facts_of s header
  rows_named s header facts.line

abbrev pub unit_lines : SectionsView → ℕ → Result (List DwtoolLine) Fault
unit_lines s unit = kept_rows line_row (unit_rows s unit)

abbrev pub lines_of_elf : ℕ → ElfView → Answer DwtoolLine
lines_of_elf unit elf = on_unit_numbered unit_lines unit (sections_of elf)

unfoldable pub lines_answer : ℕ → List ℕ → Answer DwtoolLine
lines_answer unit file = on_elf (lines_of_elf unit) (elf_of file)
