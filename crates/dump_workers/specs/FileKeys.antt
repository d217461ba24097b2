-- The keys that the units of a file use in the table of its handle, and what reading units leaves of a pass.
use Rattle.std.specs.Prelude.{◌≡◌, ◌⊎◌, ℕ, ◌<◌, ◌^◌, List, [], ◌∷◌, Contains, Ok, IsOk}
use Rattle.abbrev_decl.specs.Lookup.{Notes}
use Rattle.elf_sections.specs.Shapes.{SectionsView}
use Rattle.unit_headers.specs.declared.header.UnitHeader.{UnitHeader}
use Rattle.unit_headers.specs.Headers.{unit_count}
use Rattle.entry_tree.specs.Keys.{GainsOnly, IsKeyAmong}
use Rattle.entry_tree.specs.Units.{unit_header, entries_of}
use Rattle.entry_tree.specs.Views.{EntryView}
use Rattle.map_cells.specs.Seen.{PassView}
use Rattle.handle_cache.specs.Handles.{IsWordKey, front_keys, is_spent, own_keys}
use Rattle.dump_workers.specs.UnitDumps.{unit_dump}

-- no unit of the file is refused
abbrev pub RefusesNone : SectionsView → Type 0
RefusesNone s = (unit : ℕ) → unit < unit_count s.info s.order → IsOk (unit_dump s unit)

-- the key of the declaration of one of a unit's entries, whose code is below 2^32
pub record IsEntryKey (s : SectionsView) (unit k : ℕ) : Type 0 where
  pub header : UnitHeader
  pub entries : List EntryView
  pub header_is : unit_header s unit ≡ Ok header
  pub entries_are : entries_of s header ≡ Ok entries
  pub among : IsKeyAmong header.«abbrev» entries k

-- a key that a unit uses: of one of its eight words, or of the declaration of an entry
abbrev pub IsUnitKey : SectionsView → ℕ → ℕ → Type 0
IsUnitKey s unit k = IsWordKey unit k ⊎ IsEntryKey s unit k

-- a key that some unit of the file uses
pub record IsFileKey (s : SectionsView) (k : ℕ) : Type 0 where
  pub unit : ℕ
  pub counted : unit < unit_count s.info s.order
  pub uses : IsUnitKey s unit k

-- the codes of these entries are below 2^32
abbrev pub AreSmallCodes : List EntryView → Type 0
AreSmallCodes [] = Unit {0}
AreSmallCodes (entry ∷ entries) = (entry.code < 2 ^ 32) × AreSmallCodes entries

-- no entry of the file has a code of 2^32 or more, which is never put into the table
abbrev pub HasSmallCodes : SectionsView → Type 0
HasSmallCodes s = (unit : ℕ) (header : UnitHeader) (entries : List EntryView) → unit < unit_count s.info s.order
    → unit_header s unit ≡ Ok header → entries_of s header ≡ Ok entries → AreSmallCodes entries

-- all that the file's units use is among these keys
pub record KnowsFile (s : SectionsView) (known : List ℕ) : Type 0 where
  pub keys : (k : ℕ) → IsFileKey s k → Contains known k
  pub codes : HasSmallCodes s

-- the pass has seen each key that the unit uses, or the table had no room for it
abbrev pub NotesUnit : SectionsView → ℕ → PassView → Type 0
NotesUnit s unit p = (k : ℕ) → IsUnitKey s unit k → Notes (front_keys p) (is_spent p) k

-- the same of all units of a file
abbrev pub NotesUnits : SectionsView → PassView → Type 0
NotesUnits s p = (unit : ℕ) → unit < unit_count s.info s.order → NotesUnit s unit p

-- What reading units of a file, of which none is refused, makes of a pass: its own entries gain keys that the file uses.
pub record GainsUnits (s : SectionsView) (p q : PassView) : Type 0 where
  pub gains : RefusesNone s → GainsOnly (IsFileKey s) (own_keys p) (own_keys q)

-- What reading them makes of the pass's counter: where the pass knew all that they use nothing is counted.
pub record CountsUnits (s : SectionsView) (p : PassView) (before after : ℕ) : Type 0 where
  pub counts : RefusesNone s → KnowsFile s (front_keys p) → after ≡ before
