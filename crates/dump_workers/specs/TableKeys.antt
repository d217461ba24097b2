-- All keys that a file uses in the table of its handle, as a list in which each stands once. Its length is how many they are.
use Rattle.std.specs.Prelude.{ℕ, zero, suc, ◌+◌, ◌^◌, nat_lt, min, List, [], ◌∷◌, ◌++◌, length, Contains, Result, Ok, Err, if◌then◌else◌}
use Rattle.dw_fields.specs.declared.fault_code.Fault.{Fault}
use Rattle.abbrev_decl.specs.Lookup.{Notes, key}
use Rattle.elf_sections.specs.Shapes.{SectionsView}
use Rattle.unit_headers.specs.declared.header.UnitHeader.{UnitHeader}
use Rattle.unit_headers.specs.Headers.{unit_count}
use Rattle.entry_tree.specs.Units.{unit_header, entries_of}
use Rattle.entry_tree.specs.Views.{EntryView}
use Rattle.map_core.specs.History.{is_in}
use Rattle.map_cells.specs.Seen.{PassView}
use Rattle.handle_cache.specs.Handles.{front_keys, is_spent, own_keys}
use Rattle.handle_cache.specs.Scanned.{room_for, word_key}
use Rattle.dump_workers.specs.FileKeys.{IsFileKey}

-- # The keys of a file

-- each number of a list, where it stands last
abbrev pub once : List ℕ → List ℕ
once [] = []
once (n ∷ ns) = if is_in n ns then once ns else n ∷ once ns

-- the keys of a unit's eight words
abbrev pub word_keys : ℕ → List ℕ
word_keys unit =
    word_key unit 0 ∷ word_key unit 1 ∷ word_key unit 2 ∷ word_key unit 3
    ∷ word_key unit 4 ∷ word_key unit 5 ∷ word_key unit 6 ∷ word_key unit 7 ∷ []

-- the keys of the declarations of these entries, of those whose code is below 2^32
abbrev pub small_keys : ℕ → List EntryView → List ℕ
small_keys table [] = []
small_keys table (entry ∷ entries) =
    if nat_lt entry.code (2 ^ 32) then key table entry.code ∷ small_keys table entries
    else small_keys table entries

abbrev pub keys_of_entries : ℕ → Result (List EntryView) Fault → List ℕ
keys_of_entries table (Ok entries) = small_keys table entries
keys_of_entries table (Err f) = []

abbrev pub keys_of_header : SectionsView → Result UnitHeader Fault → List ℕ
keys_of_header s (Ok header) = keys_of_entries header.«abbrev» (entries_of s header)
keys_of_header s (Err f) = []

-- the keys of a unit: of its words, and of its entries' declarations
unfoldable pub unit_keys : SectionsView → ℕ → List ℕ
unit_keys s unit = word_keys unit ++ keys_of_header s (unit_header s unit)

-- the keys of so many units, from one on
abbrev pub keys_from : SectionsView → ℕ → ℕ → List ℕ
keys_from s unit zero = []
keys_from s unit (suc n) = unit_keys s unit ++ keys_from s (unit + 1) n

-- the keys of a file: of all its units, each key once
unfoldable pub table_keys : SectionsView → List ℕ
table_keys s = once (keys_from s 0 (unit_count s.info s.order))

-- # A pass that has them

-- what the pass, and those joined into it, have placed are keys of the file alone
abbrev pub OwnsOnly : SectionsView → PassView → Type 0
OwnsOnly s p = (k : ℕ) → Contains (own_keys p) k → IsFileKey s k

-- and the pass has seen each key of the file, or as many entries as the table has room for
pub record HoldsFile (s : SectionsView) (p : PassView) : Type 0 where
  pub only : OwnsOnly s p
  pub each : (k : ℕ) → IsFileKey s k → Notes (front_keys p) (is_spent p) k

-- how many keys of the file its table has then: all, or as many as it has room for
abbrev pub published_count : SectionsView → ℕ
published_count s = min (length (table_keys s)) (room_for s)
