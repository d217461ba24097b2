-- The first of a row of numbers whose value passes a test, as a loop finds it.
use Rattle.std.proofs.Common.{◌≡◌, ◌+◌, ◌-◌, ◌<◌, ◌≤◌, ℕ, zero, suc, Bool, true, false, if◌then◌else◌, map, Option, Some, None, refl, add-zero, arith}
use Rattle.std.specs.List.{range_with_len}
use Rattle.elf_sections.specs.Refusals.{first_in}

pub first_next : {X : Type 0} → (test : X → Bool) (f : ℕ → X) (i m n : ℕ) → m ≡ suc n → test (f i) ≡ false
    → first_in test (i + 1) (map f (range_with_len (i + 1) n)) ≡ first_in test i (map f (range_with_len i m))
first_next test f i m n more fails = rw (more, fails) refl

pub first_here : {X : Type 0} → (test : X → Bool) (f : ℕ → X) (i m n : ℕ) → m ≡ suc n → test (f i) ≡ true
    → first_in test i (map f (range_with_len i m)) ≡ Some i
first_here test f i m n more passes = rw (more, passes) refl

pub first_none : {X : Type 0} → (test : X → Bool) (f : ℕ → X) (i m : ℕ) → m ≡ 0 → first_in test i (map f (range_with_len i m)) ≡ None
first_none test f i m empty = rw empty refl

none_yet : (b : Bool) (i : ℕ) (rest : Option ℕ) → (if b then Some i else rest) ≡ None → (b ≡ false) × (rest ≡ None)
none_yet true i rest e = cc
none_yet false i rest e = (refl, e)

none_from : {X : Type 0} → (test : X → Bool) (f : ℕ → X) (n a k : ℕ) → first_in test a (map f (range_with_len a n)) ≡ None → k < n → test (f (a + k)) ≡ false
none_from test f zero a k none below = absurd (omega arith)
none_from test f (suc n) a zero none below = rw add-zero (none_yet (test (f a)) a _ none).0
none_from test f (suc n) a (suc k) none below =
    let e : a + 1 + k ≡ a + suc k = omega arith in
    rw (← e) (none_from test f n (a + 1) k (none_yet (test (f a)) a _ none).1 (omega arith))

-- where none passes, each doesn't
pub none_inside : {X : Type 0} → (test : X → Bool) (f : ℕ → X) (n a i : ℕ) → first_in test a (map f (range_with_len a n)) ≡ None → a ≤ i → i < a + n → test (f i) ≡ false
none_inside test f n a i none low high =
    let e : a + (i - a) ≡ i = omega arith in
    let h : test (f (a + (i - a))) ≡ false = none_from test f n a (i - a) none (omega arith) in
    rw e at h
