-- How often a number stands in a list, and the unit of a number within a window.
use Rattle.std.proofs.Common.{◌≡◌, ◌≢◌, ℕ, ◌+◌, ◌*◌, ◌/◌, ◌%◌, ◌<◌, List, [], ◌∷◌, ◌++◌, Bool, cond, refl, sym, subst, arith, eq-eqb, ne_eqb}
use Rattle.std.proofs.lemmas.List.Sums.{sum_by-append}
use Rattle.unit_draws.specs.Seats.{occurrences}

pub occurrences-nil : (n : ℕ) → occurrences n [] ≡ 0
unfolding occurrences
occurrences-nil n = refl

pub occurrences-append : (n : ℕ) (xs ys : List ℕ) → occurrences n (xs ++ ys) ≡ occurrences n xs + occurrences n ys
unfolding occurrences
occurrences-append n xs ys = sum_by-append (λ m. cond (Rattle.std.specs.Prelude.nat_eq m n) 1 0) xs ys

pub occurrences_same : (n m : ℕ) → m ≡ n → occurrences n (m ∷ []) ≡ 1
unfolding occurrences
occurrences_same n m is = subst (λ (b : Bool). 0 + cond b 1 0 ≡ 1) (sym (eq-eqb m n is)) refl

pub occurrences_other : (n m : ℕ) → m ≢ n → occurrences n (m ∷ []) ≡ 0
unfolding occurrences
occurrences_other n m isnt = subst (λ (b : Bool). 0 + cond b 1 0 ≡ 0) (sym (ne_eqb m n isnt)) refl

pub window_of_unit : (w n : ℕ) → n < 256 → (256 * w + n) / 256 ≡ w
window_of_unit w n small = omega arith

pub number_of_unit : (w n : ℕ) → n < 256 → (256 * w + n) % 256 ≡ n
number_of_unit w n small = omega arith
