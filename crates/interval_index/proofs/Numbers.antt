-- The numbers of all intervals, in their order.
use Rattle.std.proofs.Common.{◌≡◌, ◌+◌, ◌≤◌, ◌<◌, ◌∙◌, ℕ, zero, suc, Bool, true, false, cond, List, [], ◌∷◌, ◌++◌, length, Option, Some, None, refl, sym, ap, arith, get_or}
use Rattle.std.specs.List.{All, range_with_len}
use Rattle.std.proofs.lemmas.List.FromFn.{length-range_with_len, get_or-range_with_len}
use Rattle.interval_index.specs.declared.interval.Interval.{Interval}
use Rattle.interval_index.specs.Intervals.{lesser, has, interval_at, first_interval_from, first_with, least_with}
use Rattle.interval_index.proofs.Lesser.{lesser_low}

pub range_more : (a n j : ℕ) → a + n ≡ j → range_with_len a (n + 1) ≡ range_with_len a n ++ j ∷ []
range_more a zero j e = let same : a ≡ j = omega (arith, e) in ap (λ (x : ℕ). x ∷ []) same
range_more a (suc n) j e =
    let size : suc n + 1 ≡ suc (n + 1) = omega arith in
    ap (range_with_len a) size ∙ ap (λ (l : List ℕ). a ∷ l) (range_more (a + 1) n j (omega (arith, e)))

pub range_below : (m : ℕ) → All (λ (k : ℕ). k < m) (range_with_len 0 m)
range_below m = λ k d within.
    let inside : k < m = omega (arith, within, length-range_with_len 0 m) in
    let at = get_or-range_with_len 0 m k d inside in omega (arith, at, inside)

later_by : (j k : ℕ) (test : Bool) (rest : Option ℕ) → j ≤ k → lesser (Some j) rest ≡ Some j → lesser (Some j) (cond test (Some k) rest) ≡ Some j
later_by j k true rest le e = lesser_low j k le
later_by j k false rest le e = e

-- those behind have higher numbers
first_later : (j k : ℕ) (is : List Interval) (n : ℕ) → j ≤ k → lesser (Some j) (first_interval_from k is n) ≡ Some j
first_later j k [] n le = refl
first_later j k (x ∷ is) n le = later_by j k (has x n) (first_interval_from (suc k) is n) le (first_later j (suc k) is n (omega (arith, le)))

least_by : (k : ℕ) (test : Bool) (rest : Option ℕ) → lesser (Some k) rest ≡ Some k → lesser (cond test (Some k) None) rest ≡ cond test (Some k) rest
least_by k true rest e = e
least_by k false rest e = refl

least_range : (all is : List Interval) (k n : ℕ) → ((i : ℕ) → interval_at all (k + i) ≡ interval_at is i) → least_with all (range_with_len k (length is)) n ≡ first_interval_from k is n
least_range all [] k n same = refl
least_range all (x ∷ is) k n same =
    let here : k + 0 ≡ k = omega arith in
    let next : k + 1 ≡ suc k = omega arith in
    let item : interval_at all k ≡ x = ap (interval_at all) (sym here) ∙ same 0 in
    let rest : least_with all (range_with_len (k + 1) (length is)) n ≡ first_interval_from (suc k) is n =
    least_range all is (k + 1) n (λ i. (let place : k + 1 + i ≡ k + suc i = omega arith in ap (interval_at all) place) ∙ same (suc i))
    ∙ ap (λ (m : ℕ). first_interval_from m is n) next in
    ap (λ (y : Interval). lesser (cond (has y n) (Some k) None) (least_with all (range_with_len (k + 1) (length is)) n)) item
    ∙ ap (lesser (cond (has x n) (Some k) None)) rest
    ∙ least_by k (has x n) (first_interval_from (suc k) is n) (first_later k (suc k) is n (omega arith))

-- the least of all numbers whose interval has `n` is that of the first such interval
pub least_of_all : (is : List Interval) (n : ℕ) → least_with is (range_with_len 0 (length is)) n ≡ first_with is n
least_of_all is n = least_range is is 0 n (λ i. let place : 0 + i ≡ i = omega arith in ap (interval_at is) place)
