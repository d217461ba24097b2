-- What contracts see of a handle, of the passes that belong to it, and of what its calls leave.
use Rattle.std.specs.Prelude.{◌≡◌, ◌⊎◌, ℕ, ◌-◌, ◌<◌, ◌^◌, Bool, nat_le, List, [], ◌∷◌, Contains, length, map, Ok}
use Rattle.abbrev_decl.specs.Counting.{ticked_by}
use Rattle.abbrev_decl.specs.Lookup.{declarations_walked}
use Rattle.elf_sections.specs.Names.{elf_of}
use Rattle.elf_sections.specs.Rows.{ElfView}
use Rattle.elf_sections.specs.Shapes.{SectionsView, sections_of}
use Rattle.unit_headers.specs.declared.header.UnitHeader.{UnitHeader}
use Rattle.entry_tree.specs.Keys.{IsRootKeyOf}
use Rattle.entry_tree.specs.Units.{root_code_of, unit_header}
use Rattle.map_core.specs.declared.entry.Entry.{Entry}
use Rattle.map_core.specs.Calls.{own}
use Rattle.map_core.specs.Passes.{AtRest}
use Rattle.map_cells.specs.Seen.{CellsView, PassView, IsOf}
use Rattle.handle_cache.specs.Scanned.{room_for, word_key}

-- the bytes of the file, its sections, and the table that readers share
pub record HandleView : Type 0 where
  pub file : List ℕ
  pub elf : ElfView
  pub table : CellsView

-- the sections with debugging data of the file
abbrev pub sections_in : HandleView → SectionsView
sections_in h = sections_of h.elf

-- what is true of every handle
pub record IsOpened (h : HandleView) : Type 0 where
  pub elf : elf_of h.file ≡ Ok h.elf
  pub declarations : length (sections_in h).«abbrev» < 2 ^ 31
  pub room : h.table.layout.capacity ≡ room_for (sections_in h)
  pub tag : h.table.tag ≡ h.file

-- the pass is of the handle's table, and rests between two calls
pub record Belongs (h : HandleView) (p : PassView) : Type 0 where
  pub of_table : IsOf h.table p
  pub rest : AtRest p.knows

-- A handle that was just opened on a file, and its first pass: the table is empty.
pub record IsOpenedOn (file : List ℕ) (passes : ℕ) (h : HandleView) (p : PassView) : Type 0 where
  pub file_is : h.file ≡ file
  pub passes_are : h.table.layout.passes ≡ passes
  pub belongs : Belongs h p
  pub number : p.knows.number ≡ 0
  pub numbers : p.knows.numbers ≡ 0 ∷ []
  pub spare : p.knows.spare ≡ passes - 1
  pub front : p.knows.front ≡ []

-- the keys that a pass has seen, and those of its own entries
abbrev pub front_keys : PassView → List ℕ
front_keys p = map (λ (e : Entry). e.key) p.knows.front

abbrev pub own_keys : PassView → List ℕ
own_keys p = map (λ (e : Entry). e.key) (own p.knows)

-- the pass has seen as many entries as the table has room for
abbrev pub is_spent : PassView → Bool
is_spent p = nat_le p.knows.layout.capacity (length p.knows.front)

-- the keys of the first words of a unit are among these
abbrev pub HasWords : List ℕ → ℕ → ℕ → Type 0
HasWords keys unit count = (word : ℕ) → word < count → Contains keys (word_key unit word)

-- the key of one of a unit's words
pub record IsWordKey (unit k : ℕ) : Type 0 where
  pub word : ℕ
  pub inside : word < 8
  pub is : k ≡ word_key unit word

-- the key of the declaration of a unit's root, whose code is below 2^32
pub record IsRootKey (s : SectionsView) (unit k : ℕ) : Type 0 where
  pub header : UnitHeader
  pub header_is : unit_header s unit ≡ Ok header
  pub root : IsRootKeyOf header.«abbrev» (root_code_of s header) k

-- what asking for the facts of a unit may put into the table
abbrev pub IsFactKey : SectionsView → ℕ → ℕ → Type 0
IsFactKey s unit k = IsWordKey unit k ⊎ IsRootKey s unit k

-- what asking for a declaration makes of a counter: nothing where it was met in the table, else what the
-- walk from the table's start makes of it
abbrev pub CountsWalk : List ℕ → ℕ → ℕ → ℕ → ℕ → Type 0
CountsWalk section table code old new =
    (new ≡ old) ⊎ (new ≡ ticked_by (declarations_walked section table code) old)
