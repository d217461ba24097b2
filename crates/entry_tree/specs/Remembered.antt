-- Declarations that a reader of a unit remembers.
use Rattle.std.specs.Prelude.{ℕ, ◌≡◌, ◌<◌, ◌^◌, Bool, List, All, length, slice_index_or, Ok, Option, Some, None, IfSome, set, ◌⊎◌}
use Rattle.abbrev_decl.specs.Shapes.{DeclView}
use Rattle.abbrev_decl.specs.Lookup.{Notes, first_declaration, key}

-- the first declaration of its code, whose key was noted when it was found
pub record IsRemembered (section : List ℕ) (table : ℕ) (seen : List ℕ) (spent : Bool)
    (declaration : DeclView) : Type 0 where
  pub first : first_declaration section table declaration.code ≡ Ok declaration
  pub noted : declaration.code < 2 ^ 32 → Notes seen spent (key table declaration.code)

-- each declaration in the slots is such a one
abbrev pub Remembers : List ℕ → ℕ → List ℕ → Bool → List (Option DeclView) → Type 0
Remembers section table seen spent slots =
    All (λ slot. IfSome slot (IsRemembered section table seen spent)) slots

-- a declaration of a code stands in a slot
pub record IsInSlot (slots : List (Option DeclView)) (code : ℕ) (declaration : DeclView)
    : Type 0 where
  pub slot : ℕ
  pub inside : slot < length slots
  pub at : slice_index_or slots slot None ≡ Some declaration
  pub same : declaration.code ≡ code

-- no slot has a declaration
abbrev pub AreBlank : List (Option DeclView) → Type 0
AreBlank slots = All (λ slot. slot ≡ None) slots

-- slots that stayed, or one of which was given the declaration
abbrev pub SetsAtMost : List (Option DeclView) → List (Option DeclView) → DeclView → Type 0
SetsAtMost old new declaration =
    (new ≡ old) ⊎ ((slot : ℕ) × (new ≡ set old slot (Some declaration)))
