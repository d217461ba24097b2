-- What each command prints of the sections of a file.
use Rattle.std.specs.Prelude.{ℕ, ◌+◌, List, [], ◌∷◌, ◌++◌, Option, Some, None}
use Rattle.dw_fields.specs.declared.fault_code.Fault.{Fault}
use Rattle.elf_sections.specs.Rows.{ElfView, SectionRow}
use Rattle.elf_sections.specs.Shapes.{SectionsView, sections_of}
use Rattle.unit_text.specs.SectionLine.{section_line}
use Rattle.unit_text.specs.Tables.{tables_text}
use Rattle.dw_words.specs.declared.command.Command.{Command}
use Rattle.dw_words.specs.declared.command.Command.TheVariants as commands
use Rattle.dw_run.specs.declared.commands.TableCommand.{TableCommand}
use Rattle.dw_run.specs.declared.commands.TableCommand.TheVariants as table_commands
use Rattle.dw_run.specs.declared.refusals.Refusal.{Refusal}
use Rattle.dw_run.specs.declared.refusals.Refusal.TheVariants as refusals
use Rattle.dw_run.specs.declared.parts.Part.{Part}
use Rattle.dw_run.specs.declared.parts.Part.TheVariants as parts
use Rattle.dw_run.specs.CommandTexts.{CommandText, whole}
use Rattle.dw_run.specs.Parts.{part_of_units}

-- the lines of sections, the first of which has this number
unfoldable pub sections_text : ℕ → List SectionRow → List ℕ
sections_text number [] = []
sections_text number (row ∷ rows) = section_line number row ++ sections_text (number + 1) rows

-- the tables up to the first fault, which refuses them
abbrev pub tables_end : Option Fault → Option Refusal
tables_end None = None
tables_end (Some fault) = Some (refusals.Tables fault)

unfoldable pub tables_printed : List ℕ → CommandText
tables_printed section = record { text = (tables_text section).0; refusal = tables_end (tables_text section).1 }

-- what is printed of the sections with debugging data
abbrev pub text_of_sections : (SectionsView → CommandText) → ElfView → CommandText
text_of_sections text elf = text (sections_of elf)

-- a part of each unit
abbrev pub part_of_elf : Part → ElfView → CommandText
part_of_elf part = text_of_sections (part_of_units part)

abbrev pub text_of_command : Command → ElfView → CommandText
text_of_command commands.Units elf = part_of_elf parts.Line elf
text_of_command commands.Sections elf = whole (sections_text 0 elf.sections)
text_of_command commands.Abbrev elf = tables_printed (sections_of elf).«abbrev»
text_of_command commands.Lines elf = part_of_elf parts.LineTable elf
text_of_command commands.Ranges elf = part_of_elf parts.Lists elf

-- the command that goes over a table of the file
abbrev pub command_of : TableCommand → Command
command_of table_commands.Units = commands.Units
command_of table_commands.Sections = commands.Sections
command_of table_commands.Abbrev = commands.Abbrev
