-- How far a table of declarations was walked. These are rules of our own.
use Rattle.std.specs.Prelude.{◌≡◌, ◌+◌, ◌<◌, ◌≤◌, ◌^◌, ℕ, List, get_or, length, Some, Ok}
use Rattle.abbrev_decl.specs.Declarations.{declaration_at}
use Rattle.abbrev_decl.specs.Lookup.{first_declaration}
use Rattle.abbrev_decl.specs.Shapes.{DeclView}

-- The first declaration of a code stands at a place.
pub record IsFirstAt (section : List ℕ) (table code place : ℕ) : Type 0 where
  pub declaration : DeclView
  pub next : ℕ
  pub stands : declaration_at section place ≡ Ok (Some (declaration, next))
  pub first : first_declaration section table code ≡ Ok declaration

-- The declarations of the codes from 1 on stand at these places, and of any other code the walk goes on behind them.
pub record IsWalked (section : List ℕ) (table : ℕ) (places : List ℕ) (next : ℕ) : Type 0 where
  pub short : length section < 2 ^ 32
  pub inside : next ≤ length section
  pub within : (i : ℕ) → i < length places → get_or places i 0 ≤ length section
  pub stand : (i : ℕ) → i < length places → IsFirstAt section table (i + 1) (get_or places i 0)
  pub others : (code : ℕ) → length places < code
      → first_declaration section table code ≡ first_declaration section next code
