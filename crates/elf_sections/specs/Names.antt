-- What a section header stands for: the section's bytes and name, and when they are refused.
use Rattle.std.specs.Prelude.{◌≡◌, ℕ, ◌+◌, ◌==◌, nat_eq, nat_lt, bit_and, Bool, not, ◌&&◌, ◌||◌, if◌then◌else◌, List, [], ◌∷◌, length, take, drop, codes, map, Option, Some, None, is_none, unwrap_or, Result, Ok}
use Rattle.std.specs.List.{starts_with}
use Rattle.string_tables.specs.StringTables.{text_in_table}
use Rattle.elf_sections.specs.declared.headers.SectionHeader.{SectionHeader}
use Rattle.elf_sections.specs.declared.class_layout.ClassLayout.{ClassLayout}
use Rattle.elf_sections.specs.declared.section_table.SectionTable.{SectionTable}
use Rattle.elf_sections.specs.declared.refusals.ElfRefusal.{ElfRefusal}
use Rattle.elf_sections.specs.declared.refusals.ElfRefusal.TheVariants.{SectionBounds, NameOutside, Compressed}
use Rattle.dw_fields.specs.Reading.{◌>>=◌, ◌>>◌}
use Rattle.elf_sections.specs.Refusals.{refuse_at, first_in}
use Rattle.elf_sections.specs.Headers.{section_header_of, section_headers_of}
use Rattle.elf_sections.specs.Layouts.{layout_of}
use Rattle.elf_sections.specs.Headers.{table_of}
use Rattle.elf_sections.specs.Rows.{SectionRow, ElfView}

-- sections of the types 0 (SHT_NULL) and 8 (SHT_NOBITS) have no bytes in the file
abbrev pub has_bytes : ℕ → Bool
has_bytes kind = not (kind == 0) && not (kind == 8)

-- the section has bytes, and they aren't wholly in the file
unfoldable pub is_out_of_bounds : List ℕ → SectionHeader → Bool
is_out_of_bounds file header = has_bytes header.kind && nat_lt (length file) (header.offset + header.size)

-- each section that has bytes has them wholly in the file
abbrev pub AreInBounds : ClassLayout → SectionTable → List ℕ → Type 0
AreInBounds layout table file =
    first_in (is_out_of_bounds file) 1 (section_headers_of layout table file) ≡ None

-- the section's bytes
unfoldable pub contents_of : List ℕ → SectionHeader → List ℕ
contents_of file header = if has_bytes header.kind then take header.size (drop header.offset file) else []

-- The bytes of the names' section, which is none where its number is 0.
unfoldable pub name_bytes : ClassLayout → SectionTable → List ℕ → Option (List ℕ)
name_bytes layout table file =
    if table.names == 0 then None else Some (contents_of file (section_header_of layout table file table.names))

-- The name that begins at the header's name offset (gABI chapter 4, "String Table"): none where that
-- is at or past the end of the names' bytes, or no zero byte follows. Without a names' section every
-- name is empty.
unfoldable pub name_of : Option (List ℕ) → SectionHeader → Option (List ℕ)
name_of None header = Some []
name_of (Some names) header = text_in_table names header.name

abbrev pub has_no_name : Option (List ℕ) → SectionHeader → Bool
has_no_name names header = is_none (name_of names header)

abbrev pub row_of : List ℕ → Option (List ℕ) → SectionHeader → SectionRow
row_of file names header = record {
  name = unwrap_or (name_of names header) [];
  kind = header.kind;
  flags = header.flags;
  size = header.size;
  bytes = contents_of file header;
}

-- section 0, whatever its header holds
abbrev pub null_row : SectionRow
null_row = record { name = []; kind = 0; flags = 0; size = 0; bytes = [] }

-- Debugging data is compressed by the flag SHF_COMPRESSED (0x800), or in the older form that the name
-- .zdebug_ tells.
unfoldable pub is_compressed : SectionRow → Bool
is_compressed row = starts_with nat_eq row.name (codes ".zdebug_")
    || (starts_with nat_eq row.name (codes ".debug_") && not (bit_and row.flags 0x800 == 0))

-- section 0 and the named sections, or the first that has no name
unfoldable pub named_rows : ClassLayout → SectionTable → List ℕ → Option (List ℕ) → Result (List SectionRow) ElfRefusal
named_rows layout table file names = do
  refuse_at NameOutside (first_in (has_no_name names) 1 (section_headers_of layout table file))
  Ok (null_row ∷ map (row_of file names) (section_headers_of layout table file))

-- The sections of a table that isn't empty. First every section's bounds are looked at, then every
-- name, then every section's compression, each in the order of the sections.
unfoldable pub rows_of : ClassLayout → SectionTable → List ℕ → Result (List SectionRow) ElfRefusal
rows_of layout table file = do
  refuse_at SectionBounds (first_in (is_out_of_bounds file) 1 (section_headers_of layout table file))
  rows ← named_rows layout table file (name_bytes layout table file)
  refuse_at Compressed (first_in is_compressed 0 rows)
  Ok rows

-- the sections of a file, or its first refusal
unfoldable pub elf_of : List ℕ → Result ElfView ElfRefusal
elf_of file = do
  layout ← layout_of file
  table ← table_of layout file
  (if table.count == 0 then Ok (record { order = layout.order; sections = [] }) else (do
    rows ← rows_of layout table file
    Ok (record { order = layout.order; sections = rows })))
