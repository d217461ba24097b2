-- Intervals laid out as boundaries in ascending order. These are rules of our own.
use Rattle.std.specs.Prelude.{◌≡◌, ◌≤◌, ℕ, Bool, true, false, List, [], ◌∷◌, Option, None, nat_le, nat_lt, if◌then◌else◌}
use Rattle.interval_index.specs.declared.interval.Interval.{Interval}
use Rattle.interval_index.specs.declared.boundaries.Boundary.{Boundary}
use Rattle.interval_index.specs.Intervals.{lesser, least_with}

-- The owner of a number: that of the last boundary at or below it, where all before the first
-- boundary have the owner given.
abbrev pub owner_at : Option ℕ → List Boundary → ℕ → Option ℕ
owner_at owner [] n = owner
owner_at owner (b ∷ others) n = if nat_lt n b.from then owner else owner_at b.owner others n

-- What an index of such boundaries answers: before the first boundary no interval has a number.
abbrev pub first_covering : List Boundary → ℕ → Option ℕ
first_covering boundaries n = owner_at None boundaries n

-- The elements of a list ascend by a number of each, from a lowest one on.
abbrev pub AscendsBy : {X : Type 0} → (X → ℕ) → ℕ → List X → Type 0
AscendsBy number low [] = Unit
AscendsBy number low (x ∷ others) = (low ≤ number x) × AscendsBy number (number x) others

-- Boundaries lay out the intervals with these numbers.
pub record Lays (intervals : List Interval) (numbers : List ℕ) (boundaries : List Boundary)
    : Type 0 where
  pub ascends : AscendsBy (λ (b : Boundary). b.from) 0 boundaries
  pub first : (n : ℕ) → first_covering boundaries n ≡ least_with intervals numbers n

-- What is left of two lists of boundaries, with the owner on each side before its next boundary.
pub record SidesView : Type 0 where
  pub first : List Boundary
  pub first_owner : Option ℕ
  pub second : List Boundary
  pub second_owner : Option ℕ

-- The first list's next boundary comes before the second's.
abbrev pub comes_first : List Boundary → List Boundary → Bool
comes_first [] second = false
comes_first (b ∷ others) [] = true
comes_first (b ∷ others) (c ∷ rest) = nat_le b.from c.from

-- One list for both sides: of two owners the one with the lower number counts.
pub record Merges (sides : SidesView) (merged : List Boundary) : Type 0 where
  pub owner : (n : ℕ) → owner_at (lesser sides.first_owner sides.second_owner) merged n
      ≡ lesser (owner_at sides.first_owner sides.first n)
      (owner_at sides.second_owner sides.second n)
  pub ascends : (low : ℕ) → AscendsBy (λ (b : Boundary). b.from) low sides.first
      → AscendsBy (λ (b : Boundary). b.from) low sides.second
      → AscendsBy (λ (b : Boundary). b.from) low merged
