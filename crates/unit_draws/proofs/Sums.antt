-- Sums over the views of all seats.
use Rattle.std.proofs.Common.{◌≡◌, ◌≢◌, ℕ, zero, suc, ◌+◌, ◌<◌, ◌≤◌, List, [], ◌∷◌, length, set, sum_by, refl, sym, ap, arith}
use Rattle.std.proofs.lemmas.List.Sums.{sum_by-cons}
use mathlib.Core.Option.{some, some-injective, some-ne-none}
use lib.ListN.{get_elem?}

module _ {A : Type 0} where
  pub below_length : (l : List A) (i : ℕ) (a : A) → get_elem? l i ≡ some a → i < length l
  below_length [] i a at = absurd (some-ne-none a (sym at))
  below_length (x ∷ xs) zero a at = omega arith
  below_length (x ∷ xs) (suc i) a at = let r = below_length xs i a at in omega arith

  -- what a place gains, the sum gains
  pub sum_set : (f : A → ℕ) (l : List A) (i : ℕ) (a b : A) → get_elem? l i ≡ some a → sum_by f (set l i b) + f a ≡ sum_by f l + f b
  sum_set f [] i a b at = absurd (some-ne-none a (sym at))
  sum_set f (x ∷ xs) zero a b at = let e = ap f (some-injective x a at) in omega (arith, sum_by-cons f b xs, sum_by-cons f x xs)
  sum_set f (x ∷ xs) (suc i) a b at = let r = sum_set f xs i a b at in omega (arith, sum_by-cons f x (set xs i b), sum_by-cons f x xs)

  -- each is at most the sum
  pub part_most : (f : A → ℕ) (l : List A) (i : ℕ) (a : A) → get_elem? l i ≡ some a → f a ≤ sum_by f l
  part_most f [] i a at = absurd (some-ne-none a (sym at))
  part_most f (x ∷ xs) zero a at = let e = ap f (some-injective x a at) in omega (arith, sum_by-cons f x xs)
  part_most f (x ∷ xs) (suc i) a at = let r = part_most f xs i a at in omega (arith, sum_by-cons f x xs)

  -- two places' parts are together at most the sum
  pub parts_most : (f : A → ℕ) (l : List A) (i j : ℕ) (a b : A) → i ≢ j → get_elem? l i ≡ some a → get_elem? l j ≡ some b → f a + f b ≤ sum_by f l
  parts_most f [] i j a b apart at there = absurd (some-ne-none a (sym at))
  parts_most f (x ∷ xs) zero zero a b apart at there = absurd (apart refl)
  parts_most f (x ∷ xs) zero (suc j) a b apart at there = let e = ap f (some-injective x a at) in let r = part_most f xs j b there in omega (arith, sum_by-cons f x xs)
  parts_most f (x ∷ xs) (suc i) zero a b apart at there = let e = ap f (some-injective x b there) in let r = part_most f xs i a at in omega (arith, sum_by-cons f x xs)
  parts_most f (x ∷ xs) (suc i) (suc j) a b apart at there = let r = parts_most f xs i j a b (λ e. apart (ap suc e)) at there in omega (arith, sum_by-cons f x xs)

  -- where each f is at most g, so is the sum
  pub sums_most : (f g : A → ℕ) (l : List A) → ((a : A) → f a ≤ g a) → sum_by f l ≤ sum_by g l
  sums_most f g [] each = omega arith
  sums_most f g (x ∷ xs) each = let e = each x in let r = sums_most f g xs each in omega (arith, sum_by-cons f x xs, sum_by-cons g x xs)

  -- where f is nothing at each place, the sum is nothing
  pub sum_nothing : (f : A → ℕ) (l : List A) → ((i : ℕ) (a : A) → get_elem? l i ≡ some a → f a ≡ 0) → sum_by f l ≡ 0
  sum_nothing f [] each = refl
  sum_nothing f (x ∷ xs) each = let e = each 0 x refl in let r = sum_nothing f xs (λ i a at. each (suc i) a at) in omega (arith, sum_by-cons f x xs)

  -- where one place has all of g, and f is nothing where g is, it has all of f
  pub sum_alone : (f g : A → ℕ) (l : List A) (i : ℕ) (a : A) → get_elem? l i ≡ some a → sum_by g l ≡ g a → ((j : ℕ) (b : A) → get_elem? l j ≡ some b → g b ≡ 0 → f b ≡ 0) → sum_by f l ≡ f a
  sum_alone f g [] i a at all each = absurd (some-ne-none a (sym at))
  sum_alone f g (x ∷ xs) zero a at all each =
      let e = ap f (some-injective x a at) in
      let d = ap g (some-injective x a at) in
      let rest : sum_by g xs ≡ 0 = omega (arith, sum_by-cons g x xs) in
      let r = sum_nothing f xs (λ j b there. each (suc j) b there (let m = part_most g xs j b there in omega arith)) in omega (arith, sum_by-cons f x xs)
  sum_alone f g (x ∷ xs) (suc i) a at all each =
      let m = part_most g xs i a at in
      let first : g x ≡ 0 = omega (arith, sum_by-cons g x xs) in
      let e = each 0 x refl first in
      let rest : sum_by g xs ≡ g a = omega (arith, sum_by-cons g x xs) in
      let r = sum_alone f g xs i a at rest (λ j b there. each (suc j) b there) in omega (arith, sum_by-cons f x xs)
