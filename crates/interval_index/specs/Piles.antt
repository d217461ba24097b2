-- Intervals that lie one behind the other, and the others. These are rules of our own.
use Rattle.std.specs.Prelude.{◌≡◌, ◌≤◌, ◌<◌, ℕ, List, Some, None, IfSome, length}
use Rattle.std.specs.List.{All}
use Rattle.interval_index.specs.declared.interval.Interval.{Interval}
use Rattle.interval_index.specs.declared.boundaries.Boundary.{Boundary}
use Rattle.interval_index.specs.declared.piles.Pile.{Pile}
use Rattle.interval_index.specs.Intervals.{lesser, if_has, least_with}
use Rattle.interval_index.specs.Boundaries.{AscendsBy, first_covering}

-- A further interval changes nothing.
abbrev pub AddsNothing : List Interval → List ℕ → ℕ → Type 0
AddsNothing intervals numbers k = (n : ℕ) → lesser (least_with intervals numbers n) (if_has intervals k n)
    ≡ least_with intervals numbers n

-- A pile of the intervals with these numbers.
pub record IsPile (intervals : List Interval) (numbers : List ℕ) (pile : Pile) : Type 0 where
  pub ascends : AscendsBy (λ (b : Boundary). b.from) 0 pile.boundaries.items
  pub within : All (λ (b : Boundary). b.from ≤ pile.end) pile.boundaries.items
  pub behind : (n : ℕ) → pile.end ≤ n → first_covering pile.boundaries.items n ≡ None
  pub owned : (n c : ℕ) → first_covering pile.boundaries.items n ≡ Some c → c < length intervals
  pub owners : (n c : ℕ) → first_covering pile.boundaries.items n ≡ Some c
      → AddsNothing intervals numbers c
  pub told : (n : ℕ) → lesser (first_covering pile.boundaries.items n)
      (least_with intervals pile.others.items n) ≡ least_with intervals numbers n
  pub others : All (λ (k : ℕ). k < length intervals) pile.others.items
  pub few : length pile.others.items ≤ length numbers
  pub known : IfSome pile.cover (λ (c : ℕ). c < length intervals)
  pub cover : IfSome pile.cover (λ (c : ℕ). AddsNothing intervals numbers c)
