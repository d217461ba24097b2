-- The keys of entries, by which a source of declarations knows what it was asked for.
use Rattle.std.specs.Prelude.{◌≡◌, ℕ, ◌<◌, ◌^◌, ◌++◌, ◌⊎◌, Bool, List, [], ◌∷◌, All, Contains, Option, Some, None, Result, Ok, Err, IsOk}
use Rattle.dw_fields.specs.declared.fault_code.Fault.{Fault}
use Rattle.abbrev_decl.specs.Lookup.{IsSmallFound, key, Notes, PlacesAtMost, first_declaration}
use Rattle.entry_tree.specs.declared.first.RootCode.{RootCode}
use Rattle.entry_tree.specs.Views.{EntryView}

-- each key of an entry whose code is below 2^32 is among those seen, or there was no room for it
abbrev pub KeysNoted : List ℕ → Bool → ℕ → List EntryView → Type 0
KeysNoted seen spent table [] = Unit {0}
KeysNoted seen spent table (e ∷ es) =
    (e.code < 2 ^ 32 → Notes seen spent (key table e.code)) × KeysNoted seen spent table es

-- every entry's code is below 2^32, and its key is among those seen
abbrev pub KeysKnown : List ℕ → ℕ → List EntryView → Type 0
KeysKnown seen table [] = Unit {0}
KeysKnown seen table (e ∷ es) =
    (e.code < 2 ^ 32) × Contains seen (key table e.code) × KeysKnown seen table es

-- the key of a code below 2^32
abbrev pub IsKeyOf : ℕ → ℕ → ℕ → Type 0
IsKeyOf table code k = (code < 2 ^ 32) × (k ≡ key table code)

-- the key of one of the entries whose code is below 2^32
abbrev pub IsKeyAmong : ℕ → List EntryView → ℕ → Type 0
IsKeyAmong table [] k = ⊥
IsKeyAmong table (e ∷ es) k = IsKeyOf table e.code k ⊎ IsKeyAmong table es k

-- the key of a code below 2^32 that has a declaration
pub record IsFoundKey (section : List ℕ) (table k : ℕ) : Type 0 where
  pub code : ℕ
  pub small : code < 2 ^ 32
  pub is : k ≡ key table code
  pub found : IsOk (first_declaration section table code)

-- the key of a code below 2^32 that has a declaration in one of the tables
pub record IsDeclaredKey (section : List ℕ) (k : ℕ) : Type 0 where
  pub table : ℕ
  pub found : IsFoundKey section table k

-- a list that only grew at its end, by such keys
pub record GainsOnly (P : ℕ → Type 0) (old new : List ℕ) : Type 0 where
  pub more : List ℕ
  pub is : new ≡ old ++ more
  pub each : All P more

-- the code of a root, where there is one
abbrev pub RootPlaces : List ℕ → ℕ → List ℕ → List ℕ → Result (Option RootCode) Fault → Type 0
RootPlaces section table old new (Ok (Some root)) =
    PlacesAtMost old new (key table root.code)
    (IsSmallFound root.code (first_declaration section table root.code))
RootPlaces section table old new (Ok None) = new ≡ old
RootPlaces section table old new (Err f) = new ≡ old

-- a root's code is below 2^32, and its key is among those seen; or there is no root
abbrev pub RootKnown : List ℕ → ℕ → Result (Option RootCode) Fault → Type 0
RootKnown seen table (Ok (Some root)) = (root.code < 2 ^ 32) × Contains seen (key table root.code)
RootKnown seen table (Ok None) = Unit {0}
RootKnown seen table (Err f) = Unit {0}

-- the key of a root whose code is below 2^32 is among those seen, or there was no room for it
abbrev pub RootNoted : List ℕ → Bool → ℕ → Result (Option RootCode) Fault → Type 0
RootNoted seen spent table (Ok (Some root)) =
    root.code < 2 ^ 32 → Notes seen spent (key table root.code)
RootNoted seen spent table (Ok None) = Unit {0}
RootNoted seen spent table (Err f) = Unit {0}

-- what reading a root makes of a counter, besides the step of its own: what asking for its declaration
-- does, or nothing where there is no root
abbrev pub RootCounts : (ℕ → ℕ → ℕ → ℕ → Type 0) → ℕ → Result (Option RootCode) Fault → ℕ → ℕ
    → Type 0
RootCounts counts table (Ok (Some root)) old new = counts table root.code old new
RootCounts counts table (Ok None) old new = new ≡ old
RootCounts counts table (Err f) old new = new ≡ old

-- there is a root, and this is its code
abbrev pub HasRootCode : Result (Option RootCode) Fault → ℕ → Type 0
HasRootCode (Ok (Some root)) code = root.code ≡ code
HasRootCode (Ok None) code = ⊥
HasRootCode (Err f) code = ⊥

-- the key of a root whose code is below 2^32
pub record IsRootKeyOf (table : ℕ) (root : Result (Option RootCode) Fault) (k : ℕ) : Type 0 where
  pub code : ℕ
  pub has : HasRootCode root code
  pub small : code < 2 ^ 32
  pub is : k ≡ key table code
