-- How an index is built: the tables that were gathered from the units so far. These are rules of our
-- own.
use Rattle.std.specs.Prelude.{◌≡◌, ◌⊎◌, ℕ, Bool, true, not, length, map, Option}
use Rattle.std.specs.declared.cmp.Ordering.{Ordering}
use Rattle.std.specs.Option.{option_or}
use Rattle.std.specs.Ordering.{nat_cmp, ordering_then}
use Rattle.std.specs.BTreeSet.{BTreeSet, contains}
use Rattle.elf_sections.specs.Shapes.{SectionsView}
use Rattle.address_lookup.specs.declared.programs.ProgramKey.{ProgramKey}
use Rattle.address_lookup.specs.declared.programs.UnitProgram.{UnitProgram}
use Rattle.address_lookup.specs.declared.tables.Tables.{Tables}
use Rattle.address_lookup.specs.Kept.{kept_place_of}
use Rattle.address_lookup.specs.Places.{PlaceView, place_in_unit, place_of}
use Rattle.address_lookup.specs.Programs.{key_of, table_at}

-- the order of keys
abbrev pub key_cmp : ProgramKey → ProgramKey → Ordering
key_cmp a b = ordering_then (nat_cmp a.offset b.offset) (nat_cmp a.address_size b.address_size)

-- whether the program of a key was run
abbrev pub was_run : BTreeSet ProgramKey → ProgramKey → Bool
was_run programs key = contains key_cmp programs key

-- A key is noted; it is new, or was noted before.
pub record NotesProgram (old new : BTreeSet ProgramKey) (key : ProgramKey) (is_new : Bool) : Type 0 where
  pub first : is_new ≡ not (was_run old key)
  pub others : (k : ProgramKey) → was_run new k ≡ true → (was_run old k ≡ true) ⊎ (k ≡ key)

-- what the tables so far tell of an address
abbrev pub kept_answer : Tables → ℕ → Option PlaceView
kept_answer tables a = kept_place_of tables.units.items (map (λ v. v.items) tables.rows.items) a

-- The table of a program tells nothing new: whatever unit has it, its places stand behind those that
-- are told.
abbrev pub TellsNothing : SectionsView → (ℕ → Option PlaceView) → ProgramKey → Type 0
TellsNothing s known key = (unit a : ℕ) (x : Option PlaceView)
    → option_or (known a) (option_or (place_in_unit unit (table_at s key) a) x)
    ≡ option_or (known a) x

-- what is true of tables that are gathered
pub record IsGathered (s : SectionsView) (tables : Tables) : Type 0 where
  pub texts : tables.texts ≡ s
  pub sizes : length tables.units.items ≡ length tables.rows.items
  pub run : (key : ProgramKey) → was_run tables.programs key ≡ true
      → TellsNothing s (kept_answer tables) key

-- the table of a unit's program was added behind the others
abbrev pub AddsTable : ℕ → UnitProgram → Tables → Tables → Type 0
AddsTable unit program old new = (a : ℕ) (x : Option PlaceView) → option_or (kept_answer new a) x
    ≡ option_or (kept_answer old a)
    (option_or (place_in_unit unit (table_at old.texts (key_of program)) a) x)

-- the tables of all units
pub record IsWhole (s : SectionsView) (tables : Tables) : Type 0 where
  pub sizes : length tables.units.items ≡ length tables.rows.items
  pub tells : (a : ℕ) → kept_answer tables a ≡ place_of s a
