-- The texts of commands over a whole file.
use Rattle.std.specs.Prelude.{◌≡◌, ℕ, ◌==◌, if◌then◌else◌, List, Option, Some, None, Result, Ok, Err}
use Rattle.dump_workers.specs.UnitDumps.{unit_dump}
use Rattle.elf_sections.specs.Rows.{ElfView}
use Rattle.elf_sections.specs.Shapes.{SectionsView, sections_of}
use Rattle.unit_headers.specs.Headers.{unit_count}
use Rattle.dw_words.specs.declared.command.Command.TheVariants as file_commands
use Rattle.dw_run.specs.declared.parts.Part.TheVariants as parts
use Rattle.dw_run.specs.declared.refusals.Refusal.{Refusal}
use Rattle.dw_run.specs.Commands.{text_of_command}
use Rattle.dw_run.specs.CommandTexts.{CommandText, units_printed}
use Rattle.dw_run.specs.Output.{text_of_file}
use Rattle.dw_run.specs.Parts.{part_of_units}
use Rattle.dwtool_c.specs.declared.answers.TheConstants.{DONE, REFUSED, NO_MEMORY}
use Rattle.dwtool_c.specs.declared.commands.FileCommand.{FileCommand}
use Rattle.dwtool_c.specs.declared.commands.FileCommand.TheVariants.{Sections, Abbrev, Each}
use Rattle.dwtool_c.specs.declared.commands.TheConstants.{SECTIONS, ABBREV}
use Rattle.dwtool_c.specs.declared.commands.UnitCommand.{UnitCommand}
use Rattle.dwtool_c.specs.declared.commands.UnitCommand.TheVariants as commands
use Rattle.dwtool_c.specs.declared.front.Put.{Put}
use Rattle.dwtool_c.specs.declared.refusal.DwtoolRefusal.{DwtoolRefusal}
use Rattle.dwtool_c.specs.Answers.{Answer, done, none_such, refused_behind}
use Rattle.dwtool_c.specs.Refusals.{no_refusal, refusal_row}
use Rattle.dwtool_c.specs.Texts.{unit_command}

-- the command that prints something of each unit, if it is one
abbrev pub each_unit : Option UnitCommand → Option FileCommand
each_unit (Some command) = Some (Each command)
each_unit None = None

-- the command of this number
abbrev pub file_command : ℕ → Option FileCommand
file_command number =
    if number == SECTIONS then Some Sections
    else if number == ABBREV then Some Abbrev
    else each_unit (unit_command number)

-- what a command prints of all units, up to the first that is refused
abbrev pub unit_texts : UnitCommand → SectionsView → CommandText
unit_texts commands.Units s = part_of_units parts.Line s
unit_texts commands.Dump s = units_printed (unit_dump s) 0 (unit_count s.info s.order)
unit_texts commands.Lines s = part_of_units parts.LineTable s
unit_texts commands.Ranges s = part_of_units parts.Lists s

-- what a command prints of a file: what the program prints
abbrev pub printed_of_elf : FileCommand → ElfView → CommandText
printed_of_elf Sections elf = text_of_command file_commands.Sections elf
printed_of_elf Abbrev elf = text_of_command file_commands.Abbrev elf
printed_of_elf (Each command) elf = unit_texts command (sections_of elf)

unfoldable pub file_text : FileCommand → List ℕ → CommandText
file_text command file = text_of_file (printed_of_elf command) file

-- a text, and the refusal that ends it
abbrev pub ended : List ℕ → Option Refusal → Answer ℕ
ended text None = done text
ended text (Some refusal) = refused_behind text (refusal_row refusal)

abbrev pub answer_of : CommandText → Answer ℕ
answer_of printed = ended printed.text printed.refusal

abbrev pub text_by : Option FileCommand → List ℕ → Answer ℕ
text_by (Some command) file = answer_of (file_text command file)
text_by None file = none_such

-- what the command of this number prints of a file
abbrev pub text_answer : ℕ → List ℕ → Answer ℕ
text_answer number file = text_by (file_command number) file

-- the status, the length and the refusal of a text that was put
abbrev pub status_of_put : Option DwtoolRefusal → ℕ
status_of_put None = DONE
status_of_put (Some refusal) = REFUSED

abbrev pub refusal_of_put : Option DwtoolRefusal → DwtoolRefusal
refusal_of_put None = no_refusal
refusal_of_put (Some refusal) = refusal

abbrev pub EndsText : {E : Type 0} → Result Put E → ℕ → ℕ → DwtoolRefusal → Type 0
EndsText (Ok put) status size refusal =
    (status ≡ status_of_put put.refusal) × (size ≡ put.size) × (refusal ≡ refusal_of_put put.refusal)
EndsText (Err e) status size refusal = (status ≡ NO_MEMORY) × (size ≡ 0) × (refusal ≡ no_refusal)
