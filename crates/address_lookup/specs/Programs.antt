-- The line tables of units: DWARF 5, sections 3.1.1 and 6.2.
use Rattle.std.specs.Prelude.{ℕ, Option, None, Result, Ok, Err, option_map, option_and_then}
use Rattle.std.specs.Result.{result_ok}
use Rattle.dw_fields.specs.declared.fault_code.Fault.{Fault}
use Rattle.dw_fields.specs.Reading.{◌>>=◌}
use Rattle.elf_sections.specs.Shapes.{SectionsView}
use Rattle.form_values.specs.declared.raw.UnitFacts.{UnitFacts}
use Rattle.unit_headers.specs.declared.header.UnitHeader.{UnitHeader}
use Rattle.entry_tree.specs.Units.{facts_of, unit_header}
use Rattle.line_programs.specs.LineTables.{TableView, table_of}
use Rattle.address_lookup.specs.declared.programs.ProgramKey.{ProgramKey}
use Rattle.address_lookup.specs.declared.programs.UnitProgram.{UnitProgram}

-- The program that the first entry of a unit with this header names, if it names one.
abbrev pub program_of : UnitHeader → UnitFacts → Option UnitProgram
program_of header facts =
    option_map (λ offset. record { header = header; offset = offset }) facts.line

-- The same, refused where the unit's header or its first entry is.
unfoldable pub program_read : SectionsView → ℕ → Result (Option UnitProgram) Fault
program_read s unit = do
  header ← unit_header s unit
  facts ← facts_of s header
  Ok (program_of header facts)

abbrev pub program_if_read : Result (Option UnitProgram) Fault → Option UnitProgram
program_if_read (Ok program) = program
program_if_read (Err f) = None

-- The line program of a unit: none where its header or its first entry is refused, and where that names
-- none.
unfoldable pub unit_program : SectionsView → ℕ → Option UnitProgram
unit_program s unit = program_if_read (program_read s unit)

-- what the table of a program depends on besides the sections
abbrev pub key_of : UnitProgram → ProgramKey
key_of program =
    record { offset = program.offset; address_size = program.header.address_size }

-- The line table of a program, if the program isn't refused.
abbrev pub table_at : SectionsView → ProgramKey → Option TableView
table_at s key = result_ok (table_of s key.address_size key.offset)

-- The line table of a unit, if it has one that isn't refused.
abbrev pub unit_table : SectionsView → ℕ → Option TableView
unit_table s unit = option_and_then (λ program. table_at s (key_of program)) (unit_program s unit)
