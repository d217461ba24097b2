-- The line table of a unit (DWARF 5 section 6.2): the header of its program, and the rows.
use Rattle.std.specs.Prelude.{ℕ, List, Result, Ok}
use Rattle.dw_fields.specs.declared.fault_code.Fault.{Fault}
use Rattle.dw_fields.specs.Reading.{◌>>=◌}
use Rattle.elf_sections.specs.Shapes.{SectionsView}
use Rattle.line_machine.specs.declared.registers.Row.{Row}
use Rattle.line_machine.specs.Running.{line_rows}
use Rattle.line_programs.specs.Headers.{line_header_of}
use Rattle.line_programs.specs.Shapes.{LineView}

-- a program's header and its rows
abbrev pub TableView : Type 0
TableView = LineView × List Row

-- the header and the rows of the program at an offset, whose addresses have `size` bytes
unfoldable pub table_of : SectionsView → ℕ → ℕ → Result TableView Fault
table_of s size offset = do
  program ← line_header_of s size offset
  rows ← line_rows program.program program.lengths program.code
  Ok (program, rows)
