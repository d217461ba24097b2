-- The section table of a built file.
use Rattle.std.specs.Prelude.{◌≡◌, ℕ, ◌<◌, ◌≤◌, nat_eq, ◌==◌, Bool, not, ◌&&◌, true, List, [], ◌∷◌, ◌++◌, length, map, codes}
use Rattle.std.specs.List.{starts_with, list_any}
use Rattle.elf_sections.specs.declared.class_layout.TheConstants.{FILE_LIMIT}
use Rattle.elf_sections.specs.Names.{null_row}
use Rattle.elf_sections.specs.Rows.{SectionRow, ElfView}
use Rattle.elf_builder.specs.Given.{Given, GivenFile}
use Rattle.elf_builder.specs.File.{all_names, elf_file_of}

-- a name that a file can hold, and that isn't one of compressed debugging data: no byte of it is zero, and it
-- doesn't begin with `.zdebug_`
abbrev pub is_plain_name : List ℕ → Bool
is_plain_name name = not (list_any (λ b. b == 0) name) && not (starts_with nat_eq name (codes ".zdebug_"))

abbrev pub HavePlainNames : List Given → Type 0
HavePlainNames [] = Unit {0}
HavePlainNames (s ∷ sections) = (is_plain_name s.name ≡ true) × HavePlainNames sections

-- What can be built and read back: the file isn't longer than files that are read, its sections are few enough
-- for a field of 16 bits, and their names are such names.
pub record IsBuildable (file : GivenFile) : Type 0 where
  pub fits : length (elf_file_of file) ≤ FILE_LIMIT
  pub few : length file.sections < 65000
  pub names : HavePlainNames file.sections

-- a given section: its type is 1 (SHT_PROGBITS), and it has no flags
abbrev pub row_of_given : Given → SectionRow
row_of_given s = record { name = s.name; kind = 1; flags = 0; size = length s.bytes; bytes = s.bytes }

-- the section of the names, of type 3 (SHT_STRTAB)
abbrev pub row_of_names : List Given → SectionRow
row_of_names sections = record {
  name = codes ".shstrtab";
  kind = 3;
  flags = 0;
  size = length (all_names sections);
  bytes = all_names sections;
}

-- the empty section 0, the given sections in their order, and the section of the names
unfoldable pub table_of_given : GivenFile → ElfView
table_of_given file = record {
  order = file.layout.order;
  sections = null_row ∷ (map row_of_given file.sections ++ row_of_names file.sections ∷ []);
}
