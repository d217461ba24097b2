-- How a contract sees sections and the bytes behind their references.
use Rattle.std.specs.Prelude.{ℕ, ◌<◌, ◌^◌, List, [], Option, None, length, codes, unwrap_or, option_map, IfSome}
use Rattle.dw_fields.specs.declared.byte_order.Order.{Order}
use Rattle.elf_sections.specs.declared.section.Section.{Section}
use Rattle.elf_sections.specs.declared.debug.Sections.{Sections}
use Rattle.elf_sections.specs.Rows.{SectionRow, ElfView, bytes_named}

-- a section, without where its name and bytes lie
abbrev pub row : Section → SectionRow
row s = record { name = s.name.now; kind = s.kind; flags = s.flags; size = s.size; bytes = s.bytes.now }

-- the sections with debugging data: `None` is an absent one
pub record SectionsView : Type 0 where
  pub order : Order
  pub info : List ℕ
  pub «abbrev» : List ℕ
  pub text : Option (List ℕ)
  pub line_text : Option (List ℕ)
  pub text_offsets : Option (List ℕ)
  pub address : Option (List ℕ)
  pub range_lists : Option (List ℕ)
  pub location_lists : Option (List ℕ)
  pub line : Option (List ℕ)
  pub ranges : Option (List ℕ)
  pub locations : Option (List ℕ)
  pub frame : Option (List ℕ)

abbrev pub sections_view : Sections → SectionsView
sections_view s = record {
  order = s.order;
  info = s.info.now;
  «abbrev» = s.«abbrev».now;
  text = option_map (λ b. b.now) s.text;
  line_text = option_map (λ b. b.now) s.line_text;
  text_offsets = option_map (λ b. b.now) s.text_offsets;
  address = option_map (λ b. b.now) s.address;
  range_lists = option_map (λ b. b.now) s.range_lists;
  location_lists = option_map (λ b. b.now) s.location_lists;
  line = option_map (λ b. b.now) s.line;
  ranges = option_map (λ b. b.now) s.ranges;
  locations = option_map (λ b. b.now) s.locations;
  frame = option_map (λ b. b.now) s.frame;
}

-- no section with debugging data
abbrev pub no_sections : Order → SectionsView
no_sections order = record {
  order = order;
  info = [];
  «abbrev» = [];
  text = None;
  line_text = None;
  text_offsets = None;
  address = None;
  range_lists = None;
  location_lists = None;
  line = None;
  ranges = None;
  locations = None;
  frame = None;
}

-- the debugging sections of a file by their names (DWARF 5 appendix B): the first of each name. Absent
-- .debug_info and .debug_abbrev are empty.
unfoldable pub sections_of : ElfView → SectionsView
sections_of elf = record {
  order = elf.order;
  info = unwrap_or (bytes_named (codes ".debug_info") elf.sections) [];
  «abbrev» = unwrap_or (bytes_named (codes ".debug_abbrev") elf.sections) [];
  text = bytes_named (codes ".debug_str") elf.sections;
  line_text = bytes_named (codes ".debug_line_str") elf.sections;
  text_offsets = bytes_named (codes ".debug_str_offsets") elf.sections;
  address = bytes_named (codes ".debug_addr") elf.sections;
  range_lists = bytes_named (codes ".debug_rnglists") elf.sections;
  location_lists = bytes_named (codes ".debug_loclists") elf.sections;
  line = bytes_named (codes ".debug_line") elf.sections;
  ranges = bytes_named (codes ".debug_ranges") elf.sections;
  locations = bytes_named (codes ".debug_loc") elf.sections;
  frame = bytes_named (codes ".debug_frame") elf.sections;
}

-- each section's bytes are few enough for 32-bit places
pub record AreShort (s : SectionsView) : Type 0 where
  pub info : length s.info < 2 ^ 32
  pub «abbrev» : length s.«abbrev» < 2 ^ 32
  pub text : IfSome s.text (λ b. length b < 2 ^ 32)
  pub line_text : IfSome s.line_text (λ b. length b < 2 ^ 32)
  pub text_offsets : IfSome s.text_offsets (λ b. length b < 2 ^ 32)
  pub address : IfSome s.address (λ b. length b < 2 ^ 32)
  pub range_lists : IfSome s.range_lists (λ b. length b < 2 ^ 32)
  pub location_lists : IfSome s.location_lists (λ b. length b < 2 ^ 32)
  pub line : IfSome s.line (λ b. length b < 2 ^ 32)
  pub ranges : IfSome s.ranges (λ b. length b < 2 ^ 32)
  pub locations : IfSome s.locations (λ b. length b < 2 ^ 32)
  pub frame : IfSome s.frame (λ b. length b < 2 ^ 32)
