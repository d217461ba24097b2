-- The sections of a file as rows, and their names.
use Rattle.std.specs.Prelude.{ℕ, List, length, map, slice_get, Option, Some, None}
use Rattle.elf_sections.specs.Names.{elf_of}
use Rattle.elf_sections.specs.Rows.{ElfView, SectionRow}
use Rattle.dwtool_c.specs.declared.sections.DwtoolSection.{DwtoolSection}
use Rattle.dwtool_c.specs.Answers.{Answer, done, none_such, on_elf}

abbrev pub section_row : SectionRow → DwtoolSection
section_row row = record {
  flags = row.flags;
  size = row.size;
  bytes = length row.bytes;
  name_size = length row.name;
  kind = row.kind;
}

-- the rows of all sections
abbrev pub sections_of_elf : ElfView → Answer DwtoolSection
sections_of_elf elf = done (map section_row elf.sections)

unfoldable pub sections_answer : List ℕ → Answer DwtoolSection
sections_answer file = on_elf sections_of_elf (elf_of file)

-- the name of a section, if there is one of this number
abbrev pub name_of_row : Option SectionRow → Answer ℕ
name_of_row (Some row) = done row.name
name_of_row None = none_such

abbrev pub section_name_in : ℕ → ElfView → Answer ℕ
section_name_in number elf = name_of_row (slice_get elf.sections number)

unfoldable pub section_name_answer : ℕ → List ℕ → Answer ℕ
section_name_answer number file = on_elf (section_name_in number) (elf_of file)
