-- The text of a unit's line table, or the first refusal of its line program.
use Rattle.std.specs.Prelude.{ℕ, List, [], ◌∷◌, ◌++◌, Option, Some, None, Result, Ok, codes}
use Rattle.dw_fields.specs.declared.fault_code.Fault.{Fault}
use Rattle.dw_fields.specs.Reading.{◌>>=◌}
use Rattle.dw_text.specs.Added.{labelled}
use Rattle.dw_text.specs.Numbers.{decimal, hex}
use Rattle.elf_sections.specs.Shapes.{SectionsView}
use Rattle.line_machine.specs.declared.registers.Row.{Row}
use Rattle.line_programs.specs.LineTables.{table_of}
use Rattle.line_programs.specs.Shapes.{LineView}
use Rattle.unit_headers.specs.declared.header.UnitHeader.{UnitHeader}
use Rattle.unit_text.specs.Pieces.{Text}
use Rattle.line_text.specs.Names.{directories_text, files_text, first_number}
use Rattle.line_text.specs.Rows.{rows_text}

-- the head of the table of a unit, at an offset of `.debug_line`
unfoldable pub head_line : ℕ → ℕ → List ℕ
head_line unit offset =
    labelled (codes "lines of unit ") (decimal unit) ++ labelled (codes " at 0x") (hex offset)
    ++ 10 ∷ []

-- the directories and the files of a program
unfoldable pub names_text : LineView → List ℕ
names_text program =
    directories_text (first_number program.program.version) program.directories
    ++ files_text (first_number program.program.version) program.files

unfoldable pub table_text : ℕ → ℕ → LineView → List Row → List ℕ
table_text unit offset program rows =
    head_line unit offset ++ names_text program ++ rows_text rows

-- the table at an offset
unfoldable pub line_table_text : SectionsView → UnitHeader → ℕ → Text
line_table_text s header offset = do
  table ← table_of s header.address_size offset
  Ok (table_text header.number offset table.0 table.1)

-- the table of a unit, where it has a line offset
abbrev pub lines_text : SectionsView → UnitHeader → Option ℕ → Text
lines_text s header None = Ok []
lines_text s header (Some offset) = line_table_text s header offset
