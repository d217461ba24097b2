-- The first declaration of a code: DWARF 5, sections 7.5.2 and 7.5.3. Where a table repeats a code,
-- its first declaration is the one that counts; that is a choice of our own.
use Rattle.std.specs.Prelude.{Contains, IsOk, ℕ, zero, suc, ◌+◌, ◌*◌, ◌^◌, ◌<◌, refl, ◌≡◌, ◌==◌, ◌≢◌, Bool, true, ◌⊎◌, List, [], ◌∷◌, ◌++◌, length, Result, Ok, Err, Option, Some, None, if◌then◌else◌}
use Rattle.std.proofs.Common.{sym}
use Rattle.dw_fields.specs.declared.fault_code.Fault.{Fault}
use Rattle.dw_fields.specs.declared.fault_code.Code.TheVariants.{DeclTruncated}
use Rattle.dw_fields.specs.Codes.{fault}
use Rattle.abbrev_decl.specs.declared.lookup.FindFault.{FindFault}
use Rattle.abbrev_decl.specs.declared.lookup.FindFault.TheVariants as faults
use Rattle.abbrev_decl.specs.Shapes.{DeclView}
use Rattle.abbrev_decl.specs.Declarations.{declaration_at}

-- The walk at what stands at a place: on behind a declaration of another code.
abbrev pub first_on : Result (Option (DeclView × ℕ)) Fault → ℕ → (ℕ → Result DeclView FindFault)
    → Result DeclView FindFault
first_on (Err f) code others = Err (faults.Broken f)
first_on (Ok None) code others = Err faults.CodeMissing
first_on (Ok (Some (declaration, next))) code others =
    if declaration.code == code then Ok declaration else others next

-- The walk over at most `most` declarations. At the section's end no declaration stands.
abbrev pub first_from : ℕ → List ℕ → ℕ → ℕ → Result DeclView FindFault
first_from zero section place code = Err (faults.Broken (fault DeclTruncated place))
first_from (suc most) section place code =
    first_on (declaration_at section place) code (λ next. first_from most section next code)

-- The first declaration with a code, walking from a table's start. The walk ends at a code 0, where
-- the code is missing, or at a fault. A section has fewer declarations than bytes.
unfoldable pub first_declaration : List ℕ → ℕ → ℕ → Result DeclView FindFault
first_declaration section table code = first_from (length section + 1) section table code

-- How many declarations the walk reads, with the one that can't be read and with the code 0 that ends
-- a table.
abbrev pub walked_on : Result (Option (DeclView × ℕ)) Fault → ℕ → (ℕ → ℕ) → ℕ
walked_on (Err f) code others = 1
walked_on (Ok None) code others = 1
walked_on (Ok (Some (declaration, next))) code others =
    if declaration.code == code then 1 else others next + 1

abbrev pub walked_from : ℕ → List ℕ → ℕ → ℕ → ℕ
walked_from zero section place code = 1
walked_from (suc most) section place code =
    walked_on (declaration_at section place) code (λ next. walked_from most section next code)

unfoldable pub declarations_walked : List ℕ → ℕ → ℕ → ℕ
declarations_walked section table code = walked_from (length section + 1) section table code

-- The same in the words of the format: from `place` to `last` stand declarations of other codes.
abbrev pub OthersStand : List ℕ → ℕ → ℕ → List DeclView → ℕ → Type 0
OthersStand section place code [] last = place ≡ last
OthersStand section place code (other ∷ others) last =
    (next : ℕ) × (declaration_at section place ≡ Ok (Some (other, next))) × (other.code ≢ code)
    × OthersStand section next code others last

-- What ends them: a declaration of the code, a code 0, or a fault.
abbrev pub WalkEnds : List ℕ → ℕ → ℕ → Result DeclView FindFault → Type 0
WalkEnds section last code (Ok declaration) =
    (declaration.code ≡ code) × (next : ℕ)
    × (declaration_at section last ≡ Ok (Some (declaration, next)))
WalkEnds section last code (Err faults.CodeMissing) = declaration_at section last ≡ Ok None
WalkEnds section last code (Err (faults.Broken f)) = declaration_at section last ≡ Err f

-- The walk's answer, and how many declarations it reads: the others, and what ends them.
pub record IsFirst (section : List ℕ) (table code walked : ℕ)
    (answer : Result DeclView FindFault) : Type 0 where
  pub others : List DeclView
  pub last : ℕ
  pub stand : OthersStand section table code others last
  pub end : WalkEnds section last code answer
  pub counted : walked ≡ length others + 1

-- The key of a declaration, by which tables of declarations know it.
abbrev pub key : ℕ → ℕ → ℕ
key table code = table * 2 ^ 32 + code

-- A list that only grew at its end.
pub record Extends (old new : List ℕ) : Type 0 where
  pub more : List ℕ
  pub is : new ≡ old ++ more

-- A list that stayed, or gained one key at its end where something was found.
abbrev pub PlacesAtMost : List ℕ → List ℕ → ℕ → Type 0 → Type 0
PlacesAtMost old new asked found = (new ≡ old) ⊎ ((new ≡ old ++ asked ∷ []) × found)

-- A key is among those seen, or there was no room for it.
abbrev pub Notes : List ℕ → Bool → ℕ → Type 0
Notes seen spent asked = Contains seen asked ⊎ (spent ≡ true)

-- A source of declarations between two states: its section is kept, what was seen stays seen, and a
-- source that had no room left has none.
pub record LeavesSource (section later known grown : List ℕ) (full now : Bool) : Type 0 where
  pub kept : later ≡ section
  pub seen : Extends known grown
  pub spent : full ≡ true → now ≡ true

-- So does a source that stays as it is and remembers nothing.
pub left_alone : (section later : List ℕ) → section ≡ later
    → LeavesSource section later [] [] true true
left_alone section later same = record {
  kept = sym same;
  seen = record { more = []; is = refl };
  spent = λ full. full;
}

-- A declaration was found, and its code is below 2^32.
abbrev pub IsSmallFound : {X E : Type 0} → ℕ → Result X E → Type 0
IsSmallFound code answer = (code < 2 ^ 32) × IsOk answer
