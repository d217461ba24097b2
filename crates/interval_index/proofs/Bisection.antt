-- Boundaries in ascending order, bisected.
use Rattle.std.proofs.Common.{◌≡◌, ◌-◌, ◌≤◌, ◌<◌, ℕ, zero, suc, Bool, true, false, cond, nat_lt, leb, List, [], ◌∷◌, length, Option, None, refl, sym, ap, ◌∙◌, arith, get_or}
use Rattle.std.specs.List.Sorted.{IsNonDecreasingBy, IsPartitionPoint}
use Rattle.interval_index.specs.declared.boundaries.Boundary.{Boundary}
use Rattle.interval_index.specs.Boundaries.{AscendsBy, owner_at, first_covering}

pub at_least : {X : Type 0} (number : X → ℕ) (low : ℕ) (xs : List X) → AscendsBy number low xs → (j : ℕ) (d : X) → j < length xs → low ≤ number (get_or xs j d)
at_least number low [] h j d within = absurd (omega (arith, within))
at_least number low (x ∷ xs) h zero d within = h.0
at_least number low (x ∷ xs) h (suc j) d within = omega (arith, h.0, at_least number (number x) xs h.1 j d (omega (arith, within)))

pub non_decreasing : {X : Type 0} (number : X → ℕ) (low : ℕ) (xs : List X) → AscendsBy number low xs → IsNonDecreasingBy number xs
non_decreasing number low [] h i j d le within = absurd (omega (arith, within))
non_decreasing number low (x ∷ xs) h zero zero d le within = omega arith
non_decreasing number low (x ∷ xs) h zero (suc j) d le within = at_least number (number x) xs h.1 j d (omega (arith, within))
non_decreasing number low (x ∷ xs) h (suc i) zero d le within = absurd (omega (arith, le))
non_decreasing number low (x ∷ xs) h (suc i) (suc j) d le within = non_decreasing number (number x) xs h.1 i j d (omega (arith, le)) (omega (arith, within))

lower : (n from : ℕ) → leb from n ≡ true → nat_lt n from ≡ false
lower n from e = grind (arith, e)

higher : (n from : ℕ) → leb from n ≡ false → nat_lt n from ≡ true
higher n from e = grind (arith, e)

-- no boundary is at or below the number
pub owner_before : (owner : Option ℕ) (list : List Boundary) (n : ℕ) → ((k : ℕ) (d : Boundary) → k < length list → leb (get_or list k d).from n ≡ false) → owner_at owner list n ≡ owner
owner_before owner [] n high = refl
owner_before owner (b ∷ list) n high = ap (λ (test : Bool). cond test owner (owner_at b.owner list n)) (higher n b.from (high 0 b (omega arith)))

-- the last boundary at or below the number is the one with the number `m`
pub owner_behind : (owner : Option ℕ) (list : List Boundary) (n m : ℕ) (e : Boundary) → m < length list
    → ((k : ℕ) (d : Boundary) → k ≤ m → leb (get_or list k d).from n ≡ true)
    → ((k : ℕ) (d : Boundary) → m < k → k < length list → leb (get_or list k d).from n ≡ false)
    → owner_at owner list n ≡ (get_or list m e).owner
owner_behind owner [] n m e within low high = absurd (omega (arith, within))
owner_behind owner (b ∷ list) n zero e within low high =
    ap (λ (test : Bool). cond test owner (owner_at b.owner list n)) (lower n b.from (low 0 b (omega arith)))
    ∙ owner_before b.owner list n (λ k d inside. high (suc k) d (omega arith) (omega (arith, inside)))
owner_behind owner (b ∷ list) n (suc m) e within low high =
    ap (λ (test : Bool). cond test owner (owner_at b.owner list n)) (lower n b.from (low 0 b (omega arith)))
    ∙ owner_behind b.owner list n m e (omega (arith, within)) (λ k d le. low (suc k) d (omega (arith, le))) (λ k d lt inside. high (suc k) d (omega (arith, lt)) (omega (arith, inside)))

-- the same from what `partition_point` answers
pub told_at : (list : List Boundary) (n count : ℕ) (e : Boundary) → 0 < count → count ≤ length list
    → IsPartitionPoint (λ (b : Boundary). leb b.from n ≡ true) (λ (b : Boundary). leb b.from n ≡ false) list count
    → (get_or list (count - 1) e).owner ≡ first_covering list n
told_at list n count e some within point =
    sym (owner_behind None list n (count - 1) e (omega (arith, some, within)) (λ k d le. point.0 k d (omega arith) (omega (arith, le, some))) (λ k d lt inside. point.1 k d (omega (arith, lt, some)) inside))

pub told_nothing : (list : List Boundary) (n count : ℕ) → count ≡ 0
    → IsPartitionPoint (λ (b : Boundary). leb b.from n ≡ true) (λ (b : Boundary). leb b.from n ≡ false) list count
    → None ≡ first_covering list n
told_nothing list n count none point = sym (owner_before None list n (λ k d inside. point.1 k d (omega (arith, none)) inside))
