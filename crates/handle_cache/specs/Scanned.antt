-- What scanning a file gives as the value of each key that the table of its handle may have. Keys and
-- values are a form of our own.
use Rattle.std.specs.Prelude.{◌≡◌, ℕ, ◌+◌, ◌-◌, ◌*◌, ◌/◌, ◌%◌, ◌^◌, nat_lt, min, List, length, slice_get, Option, Some, None, Result, Ok, Err, if◌then◌else◌}
use Rattle.dw_fields.specs.declared.fault_code.Fault.{Fault}
use Rattle.abbrev_decl.specs.declared.lookup.FindFault.{FindFault}
use Rattle.abbrev_decl.specs.Shapes.{DeclView}
use Rattle.abbrev_decl.specs.Lookup.{first_declaration}
use Rattle.elf_sections.specs.declared.refusals.ElfRefusal.{ElfRefusal}
use Rattle.elf_sections.specs.Names.{elf_of}
use Rattle.elf_sections.specs.Rows.{ElfView}
use Rattle.elf_sections.specs.Shapes.{SectionsView, sections_of}
use Rattle.form_values.specs.declared.raw.UnitFacts.{UnitFacts}
use Rattle.unit_headers.specs.Headers.{unit_count}
use Rattle.entry_tree.specs.Units.{unit_facts}
use Rattle.map_core.specs.declared.layout.TheConstants.{MOST_ENTRIES}
use Rattle.handle_cache.specs.Words.{words_of_facts, has_64_bits}

-- The key of a unit's word. The key of a declaration is `key` of `abbrev_decl`, and is below 2^63.
abbrev pub word_key : ℕ → ℕ → ℕ
word_key unit word = 2 ^ 63 + (unit * 8 + word)

-- the value of a declaration's key: its place plus 1
abbrev pub place_value : Result DeclView FindFault → Option ℕ
place_value (Ok declaration) = Some (declaration.place + 1)
place_value (Err e) = None

-- the value of a word's key
abbrev pub word_value : Result UnitFacts Fault → ℕ → Option ℕ
word_value (Ok facts) word =
    if has_64_bits facts.low_pc then slice_get (words_of_facts facts) word else None
word_value (Err f) word = None

-- the value that scanning these sections gives to a key
unfoldable pub scanned_in : SectionsView → ℕ → Option ℕ
scanned_in s key =
    if nat_lt key (2 ^ 63)
    then place_value (first_declaration s.«abbrev» (key / 2 ^ 32) (key % 2 ^ 32))
    else word_value (unit_facts s ((key - 2 ^ 63) / 8)) ((key - 2 ^ 63) % 8)

abbrev pub scanned_in_elf : Result ElfView ElfRefusal → ℕ → Option ℕ
scanned_in_elf (Ok elf) key = scanned_in (sections_of elf) key
scanned_in_elf (Err e) key = None

-- the value that scanning a file gives to a key
unfoldable pub scanned : List ℕ → ℕ → Option ℕ
scanned file key = scanned_in_elf (elf_of file) key

-- a pair that scanning the file gives
abbrev pub FitsFile : List ℕ → ℕ → ℕ → Type 0
FitsFile file key value = scanned file key ≡ Some value

-- How many entries the table of a file has room for: a declaration takes five bytes at least, and a unit
-- has eight words.
abbrev pub room_for : SectionsView → ℕ
room_for s = min (length s.«abbrev» / 5 + 8 * unit_count s.info s.order + 64) MOST_ENTRIES
