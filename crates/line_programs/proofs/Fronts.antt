-- What is found in the front of a list stands at the same place in all of it.
use Rattle.std.proofs.Common.{◌≡◌, ℕ, zero, suc, ◌+◌, ◌-◌, ◌<◌, ◌≤◌, ◌==◌, min, Bool, true, false, not, cond, nat_lt, List, [], ◌∷◌, length, take, drop, length-drop, Option, Some, None, refl, sym, ◌∙◌, ap, arith}
use Rattle.std.specs.List.{position, position_or_len}
use Rattle.std.proofs.lemmas.Bool.{ltb-true, lt-leb, lt-ltb}
use Rattle.std.proofs.lemmas.List.{length-take, take_all}
use Rattle.string_tables.specs.StringTables.{before_zero, text_in_table}

-- how many bytes stand before the first zero byte
abbrev run : List ℕ → ℕ
run xs = position_or_len (λ b. b == 0) xs

front_by : (ends : Bool) (m front all : ℕ) → front ≡ min m all → cond (not ends) (1 + front) 0 ≡ min (suc m) (cond (not ends) (1 + all) 0)
front_by true m front all e = omega arith
front_by false m front all e = omega arith

run_front : (m : ℕ) (xs : List ℕ) → run (take m xs) ≡ min m (run xs)
run_front zero xs = omega arith
run_front (suc m) [] = omega arith
run_front (suc m) (x ∷ xs) = front_by (x == 0) m (run (take m xs)) (run xs) (run_front m xs)

record Found (xs : List ℕ) (place : ℕ) : Type 0 where
  here : run xs ≡ place
  within : place < length xs

found_by : (test : Bool) (xs : List ℕ) (place : ℕ) → nat_lt (run xs) (length xs) ≡ test → cond test (Some (run xs)) None ≡ Some place → Found xs place
found_by true xs place within e =
    let here : run xs ≡ place = cc in
    record { here = here; within = omega (arith, here, ltb-true (run xs) (length xs) within) }
found_by false xs place within e = cc

-- a byte that is found in the front
pub front_found : (xs : List ℕ) (m place : ℕ) → position (λ b. b == 0) (take m xs) ≡ Some place → position (λ b. b == 0) xs ≡ Some place
front_found xs m place e =
    let near : Found (take m xs) place = found_by (nat_lt (run (take m xs)) (length (take m xs))) (take m xs) place refl e in
    let here : run xs ≡ place = omega (arith, near.here, near.within, run_front m xs, length-take m xs) in
    let within : run xs < length xs = omega (arith, here, near.within, length-take m xs) in
    rw (lt-ltb (run xs) (length xs) within, here) refl

-- none is found in a front that is all of it
pub front_missed : (xs : List ℕ) (m : ℕ) → length xs ≤ m → position (λ b. b == 0) (take m xs) ≡ None → position (λ b. b == 0) xs ≡ None
front_missed xs m all e = ap (position (λ b. b == 0)) (sym (take_all m xs all)) ∙ e

-- the text whose end was found in the front of what stands from its place on
pub text_near : (table : List ℕ) (place m count : ℕ) → place < length table
    → position (λ b. b == 0) (take m (take (length table - place) (drop place table))) ≡ Some count
    → Some (take count (take (length table - place) (drop place table))) ≡ text_in_table table place
unfolding text_in_table before_zero
text_near table place m count inside e =
    let whole : take (length table - place) (drop place table) ≡ drop place table
    = take_all (length table - place) (drop place table) (omega (arith, length-drop place table)) in
    let found : position (λ b. b == 0) (drop place table) ≡ Some count
    = ap (position (λ b. b == 0)) (sym whole) ∙ front_found (take (length table - place) (drop place table)) m count e in
    ap (λ xs. Some (take count xs)) whole ∙ sym (rw (lt-leb (length table) place inside, found) refl)
