-- The ELF header and the section headers (gABI chapter 4, "ELF Header" and "Section Header"). Each place
-- is the sum of the fields before it.
use Rattle.std.specs.Prelude.{ℕ, ◌+◌, ◌*◌, ◌-◌, ◌≤◌, ◌<◌, ◌==◌, nat_lt, nat_le, not, if◌then◌else◌, List, length, map, Result, Ok}
use Rattle.std.specs.List.{range_with_len}
use Rattle.elf_sections.specs.declared.class_layout.ClassLayout.{ClassLayout}
use Rattle.elf_sections.specs.declared.headers.FileHeader.{FileHeader}
use Rattle.elf_sections.specs.declared.headers.SectionHeader.{SectionHeader}
use Rattle.elf_sections.specs.declared.section_table.SectionTable.{SectionTable}
use Rattle.elf_sections.specs.declared.refusals.ElfRefusal.{ElfRefusal}
use Rattle.elf_sections.specs.declared.refusals.ElfRefusal.TheVariants as refusals
use Rattle.dw_fields.specs.Reading.{◌>>=◌, ◌>>◌, refuse}
use Rattle.elf_sections.specs.Layouts.{field, word, word_size}

-- the bytes of the ELF header: 40 and three words
abbrev pub file_header_size : ClassLayout → ℕ
file_header_size layout = 40 + 3 * word_size layout

-- the bytes of a section header: four fields of four bytes, and six words
abbrev pub section_header_size : ClassLayout → ℕ
section_header_size layout = 16 + 6 * word_size layout

-- e_type, e_shoff, e_shentsize, e_shnum and e_shstrndx
unfoldable pub file_header : ClassLayout → List ℕ → FileHeader
file_header layout file = record {
  kind = field layout.order 2 16 file;
  table = word layout (24 + 2 * word_size layout) file;
  entry_size = field layout.order 2 (34 + 3 * word_size layout) file;
  count = field layout.order 2 (36 + 3 * word_size layout) file;
  names = field layout.order 2 (38 + 3 * word_size layout) file;
}

-- sh_name, sh_type, sh_flags, sh_offset, sh_size and sh_link of the section header at a place
unfoldable pub section_header_at : ClassLayout → List ℕ → ℕ → SectionHeader
section_header_at layout file place = record {
  name = field layout.order 4 place file;
  kind = field layout.order 4 (place + 4) file;
  flags = word layout (place + 8) file;
  offset = word layout (place + (8 + 2 * word_size layout)) file;
  size = word layout (place + (8 + 3 * word_size layout)) file;
  link = field layout.order 4 (place + (8 + 4 * word_size layout)) file;
}

-- Where e_shnum is 0, the size field of section header 0 is the number of section headers.
unfoldable pub count_of : ClassLayout → FileHeader → List ℕ → Result ℕ ElfRefusal
count_of layout header file =
    if header.count == 0 then (do
      refuse (nat_lt (length file) (header.table + section_header_size layout)) refusals.SectionTable
      Ok (section_header_at layout file header.table).size)
    else Ok header.count

-- Where e_shstrndx is 0xffff, the link field of section header 0 is the number of the names' section.
unfoldable pub names_of : ClassLayout → FileHeader → List ℕ → ℕ
names_of layout header file =
    if header.names == 0xffff then (section_header_at layout file header.table).link else header.names

-- a file without sections
abbrev pub no_table : SectionTable
no_table = record { place = 0; count = 0; names = 0 }

-- the section headers behind a table offset that isn't 0
unfoldable pub table_at : ClassLayout → FileHeader → List ℕ → Result SectionTable ElfRefusal
table_at layout header file = do
  refuse (not (header.entry_size == section_header_size layout)) refusals.SectionTable
  count ← count_of layout header file
  refuse (nat_lt (length file) (header.table + count * section_header_size layout)) refusals.SectionTable
  (if count == 0 then Ok no_table else (do
    refuse (nat_le count (names_of layout header file)) refusals.SectionTable
    Ok (record { place = header.table; count = count; names = names_of layout header file })))

-- where the section headers stand
unfoldable pub table_of : ClassLayout → List ℕ → Result SectionTable ElfRefusal
table_of layout file = do
  refuse (nat_lt (length file) (file_header_size layout)) refusals.HeaderShort
  refuse ((file_header layout file).kind == 1) refusals.Relocatable
  (if (file_header layout file).table == 0 then Ok no_table else table_at layout (file_header layout file) file)

-- the section header of that number
abbrev pub section_header_of : ClassLayout → SectionTable → List ℕ → ℕ → SectionHeader
section_header_of layout table file number = section_header_at layout file (table.place + number * section_header_size layout)

-- the section headers from number 1 on
abbrev pub section_headers_of : ClassLayout → SectionTable → List ℕ → List SectionHeader
section_headers_of layout table file = map (section_header_of layout table file) (range_with_len 1 (table.count - 1))

-- each section header is wholly in the file, and the names' section is one of them
pub record IsInside (layout : ClassLayout) (table : SectionTable) (file : List ℕ) : Type 0 where
  pub headers : (number : ℕ) → number < table.count → table.place + number * section_header_size layout + section_header_size layout ≤ length file
  pub names : 0 < table.count → table.names < table.count
