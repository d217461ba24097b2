-- Visitors that have names.
use Rattle.std.specs.Prelude.{ℕ, suc, if◌then◌else◌, List, [], ◌∷◌, Option, Some, None, option_map}
use Rattle.std.specs.List.{find}
use Rattle.std.specs.Str.{bytes_eq}
use Rattle.visit_queries.specs.Seen.{Meanings}

-- a visitor's name and meanings
pub record Named : Type 0 where
  pub name : List ℕ
  pub meanings : Meanings

-- the first visitor of a name
abbrev pub first_named : List ℕ → List Named → Option Named
first_named name visitors = find (λ v. bytes_eq v.name name) visitors

-- the place of the first of these names that is this one
abbrev pub place_named : List ℕ → List (List ℕ) → Option ℕ
place_named name [] = None
place_named name (other ∷ others) =
    if bytes_eq other name then Some 0 else option_map suc (place_named name others)
