-- The texts of units and of whole files, by the numbers of commands.
use Rattle.std.specs.Prelude.{ℕ, ◌==◌, if◌then◌else◌, List, Option, Some, None}
use Rattle.dump_workers.specs.UnitDumps.{unit_dump}
use Rattle.elf_sections.specs.Names.{elf_of}
use Rattle.elf_sections.specs.Rows.{ElfView}
use Rattle.elf_sections.specs.Shapes.{SectionsView, sections_of}
use Rattle.unit_text.specs.Pieces.{Text}
use Rattle.dw_run.specs.declared.parts.Part.TheVariants as parts
use Rattle.dw_run.specs.Parts.{unit_part}
use Rattle.dwtool_c.specs.declared.commands.UnitCommand.{UnitCommand}
use Rattle.dwtool_c.specs.declared.commands.UnitCommand.TheVariants as commands
use Rattle.dwtool_c.specs.declared.commands.TheConstants.{UNITS, DUMP, LINES, RANGES}
use Rattle.dwtool_c.specs.Answers.{Answer, none_such, on_elf, on_unit_numbered}

-- the command of this number, if it tells something of each unit
abbrev pub unit_command : ℕ → Option UnitCommand
unit_command number =
    if number == UNITS then Some commands.Units
    else if number == DUMP then Some commands.Dump
    else if number == LINES then Some commands.Lines
    else if number == RANGES then Some commands.Ranges
    else None

-- what a command prints of a unit, or the unit's refusal
abbrev pub unit_text : UnitCommand → SectionsView → ℕ → Text
unit_text commands.Units s unit = unit_part parts.Line s unit
unit_text commands.Dump s unit = unit_dump s unit
unit_text commands.Lines s unit = unit_part parts.LineTable s unit
unit_text commands.Ranges s unit = unit_part parts.Lists s unit

abbrev pub text_of_elf : UnitCommand → ℕ → ElfView → Answer ℕ
text_of_elf command unit elf = on_unit_numbered (unit_text command) unit (sections_of elf)

unfoldable pub unit_text_of_file : UnitCommand → ℕ → List ℕ → Answer ℕ
unit_text_of_file command unit file = on_elf (text_of_elf command unit) (elf_of file)

-- what the command of this number prints of the unit of this number
abbrev pub unit_text_by : Option UnitCommand → ℕ → List ℕ → Answer ℕ
unit_text_by (Some command) unit file = unit_text_of_file command unit file
unit_text_by None unit file = none_such

abbrev pub unit_text_answer : ℕ → ℕ → List ℕ → Answer ℕ
unit_text_answer number unit file = unit_text_by (unit_command number) unit file
