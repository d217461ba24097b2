-- Lists of numbers that rise, so that none stands twice; and what lists in a row have.
use Rattle.std.specs.Prelude.{◌≡◌, ◌⊎◌, ℕ, zero, suc, ◌+◌, ◌<◌, ◌≤◌, ◌==◌, true, false, List, [], ◌∷◌, ◌++◌}
use Rattle.std.specs.List.{flat_map, range_with_len}
use Rattle.std.proofs.Common.{arith, ap, sym, subst, ◌∙◌, inl, inr, ⊎_elim, true≢false}
use Rattle.std.proofs.lemmas.Bool.{or_right}
use mathlib.Core.Logic.{dite}
use native.Mathlib.Decide.{ℕ_discrete}
use Rattle.map_core.specs.History.{is_in}
use Rattle.map_core.specs.Passes.{Distinct}
use Rattle.map_core.proofs.CountLemmas.{in_hit, in_miss}
use Rattle.map_core.proofs.HistoryLemmas.{test_cases}
use Rattle.map_core.proofs.JoinLemmas.{in_parts}
use Rattle.map_core.proofs.PassLemmas.{in_first, in_second}

-- each number is above the one before it; they begin at `low` or above it, and end below `high`
abbrev pub RisesTo : ℕ → List ℕ → ℕ → Type 0
RisesTo low [] high = low ≤ high
RisesTo low (n ∷ ns) high = (low ≤ n) × RisesTo (n + 1) ns high

pub rises_lower : (low start high : ℕ) (ns : List ℕ) → low ≤ start → RisesTo start ns high → RisesTo low ns high
rises_lower low start high [] lower r = omega arith
rises_lower low start high (n ∷ ns) lower r = (omega (arith, r.0), r.1)

pub rises_then : (low mid high : ℕ) (ns ms : List ℕ) → RisesTo low ns mid → RisesTo mid ms high → RisesTo low (ns ++ ms) high
rises_then low mid high [] ms r t = rises_lower low mid high ms r t
rises_then low mid high (n ∷ ns) ms r t = (r.0, rises_then (n + 1) mid high ns ms r.1 t)

-- which number it is
pub which : (n m : ℕ) (ms : List ℕ) → is_in n (m ∷ ms) ≡ true → (n ≡ m) ⊎ (is_in n ms ≡ true)
which n m ms h = dite (ℕ_discrete n m) (λ same. inl same) (λ isnt. inr (sym (in_miss n m ms isnt) ∙ h))

-- it is one of them
abbrev pub IsOneOf : ℕ → List ℕ → Type 0
IsOneOf n [] = ⊥
IsOneOf n (m ∷ ms) = (n ≡ m) ⊎ IsOneOf n ms

pub one_of_in : (n : ℕ) (ms : List ℕ) → IsOneOf n ms → is_in n ms ≡ true
one_of_in n [] is = absurd is
one_of_in n (m ∷ ms) is = ⊎_elim (λ same. in_hit n m ms same) (λ there. or_right (n == m) (is_in n ms) (one_of_in n ms there)) is

pub in_one_of : (n : ℕ) (ms : List ℕ) → is_in n ms ≡ true → IsOneOf n ms
in_one_of n [] h = absurd (true≢false (sym h))
in_one_of n (m ∷ ms) h = ⊎_elim (λ same. inl same) (λ there. inr (in_one_of n ms there)) (which n m ms h)

rises_above : (low high n : ℕ) (ns : List ℕ) → RisesTo low ns high → is_in n ns ≡ true → low ≤ n
rises_above low high n [] r h = absurd (true≢false (sym h))
rises_above low high n (m ∷ ms) r h =
    ⊎_elim (λ same. omega (arith, r.0)) (λ there. let above = rises_above (m + 1) high n ms r.1 there in omega (arith, r.0)) (which n m ms h)

pub rises_distinct : (low high : ℕ) (ns : List ℕ) → RisesTo low ns high → Distinct ns
rises_distinct low high [] r = tt
rises_distinct low high (n ∷ ns) r =
    (⊎_elim {C = is_in n ns ≡ false} (λ there. let above = rises_above (n + 1) high n ns r.1 there in absurd (omega arith)) (λ none. none) (test_cases (is_in n ns)), rises_distinct (n + 1) high ns r.1)

module _ (f : ℕ → List ℕ) where
  -- lists in a row rise, where each rises to where the next one begins
  pub pieces_rise : (low : ℕ → ℕ) → ((i : ℕ) → RisesTo (low i) (f i) (low (i + 1))) → (a n : ℕ) → RisesTo (low a) (flat_map f (range_with_len a n)) (low (a + n))
  pieces_rise low each a zero = let same : a ≡ a + 0 = omega arith in subst (λ k. low a ≤ low k) same (omega arith)
  pieces_rise low each a (suc n) =
      let same : a + 1 + n ≡ a + suc n = omega arith in
      subst (λ k. RisesTo (low a) (flat_map f (range_with_len a (suc n))) (low k)) same
      (rises_then (low a) (low (a + 1)) (low (a + 1 + n)) (f a) (flat_map f (range_with_len (a + 1) n)) (each a) (pieces_rise low each (a + 1) n))

  in_from : (a n i k : ℕ) → i < n → is_in k (f (a + i)) ≡ true → is_in k (flat_map f (range_with_len a n)) ≡ true
  in_from a zero i k inside h = absurd (omega arith)
  in_from a (suc n) zero k inside h =
      let same : a + 0 ≡ a = omega arith in in_first k (f a) (flat_map f (range_with_len (a + 1) n)) (ap (λ j. is_in k (f j)) (sym same) ∙ h)
  in_from a (suc n) (suc i) k inside h =
      let same : a + 1 + i ≡ a + suc i = omega arith in
      in_second k (f a) (flat_map f (range_with_len (a + 1) n)) (in_from (a + 1) n i k (omega arith) (ap (λ j. is_in k (f j)) same ∙ h))

  -- what one of them has, they have together
  pub in_pieces : (n i k : ℕ) → i < n → is_in k (f i) ≡ true → is_in k (flat_map f (range_with_len 0 n)) ≡ true
  in_pieces n i k inside h = let same : 0 + i ≡ i = omega arith in in_from 0 n i k inside (ap (λ j. is_in k (f j)) same ∙ h)

  out_from : (a n k : ℕ) → is_in k (flat_map f (range_with_len a n)) ≡ true → (i : ℕ) × (i < n) × (is_in k (f (a + i)) ≡ true)
  out_from a zero k h = absurd (true≢false (sym h))
  out_from a (suc n) k h =
      let start : a ≡ a + 0 = omega arith in
      ⊎_elim {C = (i : ℕ) × (i < suc n) × (is_in k (f (a + i)) ≡ true)}
      (λ here. (0, omega arith, ap (λ j. is_in k (f j)) (sym start) ∙ here))
      (λ there. let found = out_from (a + 1) n k there in
      let same : a + suc found.0 ≡ a + 1 + found.0 = omega arith in
      (suc found.0, (let low = found.1 in omega arith), ap (λ j. is_in k (f j)) same ∙ found.2))
      (in_parts k (f a) (flat_map f (range_with_len (a + 1) n)) h)

  -- what they have together, one of them has
  pub out_pieces : (n k : ℕ) → is_in k (flat_map f (range_with_len 0 n)) ≡ true → (i : ℕ) × (i < n) × (is_in k (f i) ≡ true)
  out_pieces n k h = let found = out_from 0 n k h in let same : found.0 ≡ 0 + found.0 = omega arith in (found.0, found.1, ap (λ j. is_in k (f j)) same ∙ found.2)
