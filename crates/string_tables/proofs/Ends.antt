-- Where the texts of a string table end, from one place to another.
use Rattle.std.proofs.Common.{◌≡◌, ◌+◌, ◌-◌, ◌*◌, ◌/◌, ◌%◌, ◌≤◌, ◌<◌, ◌==◌, ℕ, zero, suc, min, Bool, true, false, not, cond, nat_lt, get_or, List, [], ◌∷◌, ◌++◌, map, length, take, drop, Option, Some, None, refl, sym, ◌∙◌, ap, arith, length-drop}
use Rattle.std.specs.List.{position, position_or_len, range_with_len}
use Rattle.std.proofs.lemmas.Bool.{ltb-true, ltb-false, lt-ltb, le-ltb, lt-leb}
use Rattle.std.proofs.lemmas.List.{length-take, drop-drop}
use Rattle.std.proofs.lemmas.List.FromFn.{map-range_with_len_more, length-map-range_with_len, get_or-map-range_with_len}
use Rattle.std.proofs.lemmas.List.Sums.{prefix_len-le-length}
use Rattle.string_tables.specs.StringTables.{before_zero, end_from, ends_of, text_in_table}

-- how many bytes stand before the first zero byte
abbrev run : List ℕ → ℕ
run xs = position_or_len (λ b. b == 0) xs

run_within : (xs : List ℕ) → run xs ≤ length xs
run_within xs = prefix_len-le-length (λ b. not (b == 0)) xs

-- one byte more, which is a zero byte or none
later_by : (ends : Bool) (n more all : ℕ) → (n ≤ all → n + more ≡ all) → suc n ≤ cond (not ends) (1 + all) 0 → suc n + more ≡ cond (not ends) (1 + all) 0
later_by true n more all rest h = absurd (omega arith)
later_by false n more all rest h = omega (arith, rest (omega arith))

run_later : (n : ℕ) (xs : List ℕ) → n ≤ run xs → n + run (drop n xs) ≡ run xs
run_later zero xs h = omega arith
run_later (suc n) [] h = absurd (omega arith)
run_later (suc n) (x ∷ xs) h = later_by (x == 0) n (run (drop n xs)) (run xs) (run_later n xs) h

front_by : (ends : Bool) (m front all : ℕ) → front ≡ min m all → cond (not ends) (1 + front) 0 ≡ min (suc m) (cond (not ends) (1 + all) 0)
front_by true m front all e = omega arith
front_by false m front all e = omega arith

run_front : (m : ℕ) (xs : List ℕ) → run (take m xs) ≡ min m (run xs)
run_front zero xs = omega arith
run_front (suc m) [] = omega arith
run_front (suc m) (x ∷ xs) = front_by (x == 0) m (run (take m xs)) (run xs) (run_front m xs)

-- what is found in the first bytes, and what isn't
record Found (xs : List ℕ) (place : ℕ) : Type 0 where
  here : run xs ≡ place
  within : place < length xs

found_by : (test : Bool) (xs : List ℕ) (place : ℕ) → nat_lt (run xs) (length xs) ≡ test → cond test (Some (run xs)) None ≡ Some place → Found xs place
found_by true xs place within e =
    let here : run xs ≡ place = cc in
    record { here = here; within = omega (arith, here, ltb-true (run xs) (length xs) within) }
found_by false xs place within e = cc

found : (xs : List ℕ) (place : ℕ) → position (λ b. b == 0) xs ≡ Some place → Found xs place
found xs place e = found_by (nat_lt (run xs) (length xs)) xs place refl e

missed_by : (test : Bool) (xs : List ℕ) → nat_lt (run xs) (length xs) ≡ test → ◌≡◌ {A = Option ℕ} (cond test (Some (run xs)) None) None → length xs ≤ run xs
missed_by true xs within e = cc
missed_by false xs within e = ltb-false (run xs) (length xs) within

missed : (xs : List ℕ) → position (λ b. b == 0) xs ≡ None → length xs ≤ run xs
missed xs e = missed_by (nat_lt (run xs) (length xs)) xs refl e

pub end_within : (table : List ℕ) (place : ℕ) → place ≤ length table → end_from table place ≤ length table
unfolding end_from
end_within table place inside = omega (arith, run_within (drop place table), length-drop place table)

-- the text that a walk found the end of
pub end_found : (table : List ℕ) (place m count : ℕ) → position (λ b. b == 0) (take m (drop place table)) ≡ Some count → end_from table place ≡ place + count
unfolding end_from
end_found table place m count e =
    let near = found (take m (drop place table)) count e in
    omega (arith, near.here, near.within, run_front m (drop place table), length-take m (drop place table))

-- the text that goes on behind the bytes of a walk
far : (table : List ℕ) (place m : ℕ) → m ≤ length (drop place table) → position (λ b. b == 0) (take m (drop place table)) ≡ None → m ≤ run (drop place table)
far table place m room e = omega (arith, missed (take m (drop place table)) e, run_front m (drop place table), length-take m (drop place table))

-- a text that goes on at a later place ends where it ends there
pub end_later : (table : List ℕ) (start place : ℕ) → start ≤ place → place ≤ end_from table start → end_from table place ≡ end_from table start
unfolding end_from
end_later table start place behind inside =
    let n : start + (place - start) ≡ place = omega arith in
    let same : drop (place - start) (drop start table) ≡ drop place table = drop-drop (place - start) start table ∙ ap (λ k. drop k table) n in
    let rest : place - start + run (drop place table) ≡ run (drop start table) = rw (← same) (run_later (place - start) (drop start table) (omega arith)) in
    omega (arith, rest)

-- no zero byte in the bytes of a walk: the text ends where it ends behind them
pub end_behind : (table : List ℕ) (place m next : ℕ) → place + m ≡ next → m ≤ length (drop place table) → position (λ b. b == 0) (take m (drop place table)) ≡ None → end_from table next ≡ end_from table place
unfolding end_from
end_behind table place m next e room none =
    end_later table place next (omega arith) (omega (arith, far table place m room none))

-- no zero byte to the table's end
pub end_missed : (table : List ℕ) (place m : ℕ) → length table ≤ place + m → place ≤ length table → m ≤ length (drop place table) → position (λ b. b == 0) (take m (drop place table)) ≡ None → end_from table place ≡ length table
unfolding end_from
end_missed table place m all inside room none =
    omega (arith, far table place m room none, run_within (drop place table), length-drop place table)

pub text_none : (table : List ℕ) (place : ℕ) → place < length table → end_from table place ≡ length table → None ≡ text_in_table table place
unfolding end_from before_zero text_in_table
text_none table place inside ends =
    rw (lt-leb (length table) place inside, le-ltb (run (drop place table)) (length (drop place table)) (omega (arith, length-drop place table))) refl

pub text_some : (table text : List ℕ) (place : ℕ) → place < length table → end_from table place < length table → text ≡ take (end_from table place - place) (drop place table) → Some text ≡ text_in_table table place
unfolding end_from before_zero text_in_table
text_some table text place inside ends is =
    let n : place + run (drop place table) - place ≡ run (drop place table) = omega arith in
    rw (lt-leb (length table) place inside, lt-ltb (run (drop place table)) (length (drop place table)) (omega (arith, length-drop place table)), is, n) refl

-- the end of one more block
pub ends_more : (f : ℕ → ℕ) (i : ℕ) (ends more : List ℕ) (last : ℕ) → 1 ≤ i → ends ≡ map f (range_with_len 1 (i - 1)) → more ≡ ends ++ last ∷ [] → last ≡ f i
    → more ≡ map f (range_with_len 1 (i + 1 - 1))
ends_more f i ends more last some e added is =
    let n : i + 1 - 1 ≡ i - 1 + 1 = omega arith in
    rw (n, added, e, is, map-range_with_len_more f 1 (i - 1) i (omega arith)) refl

pub end_least : (table : List ℕ) (place : ℕ) → place ≤ end_from table place
unfolding end_from
end_least table place = omega arith

-- The place's block ends within the table, and its text goes on behind the block.
pub end_of_block : (table ends : List ℕ) (place edge end : ℕ) → ends ≡ ends_of table → place < length table → edge ≡ place + min (length table - place) (128 - place % 128)
    → position (λ b. b == 0) (take (edge - place) (drop place table)) ≡ None → place / 128 < length ends → end ≡ get_or ends (place / 128) end → end ≡ end_from table place
unfolding ends_of
end_of_block table ends place edge end kept inside size none block is =
    let count : length ends ≡ length table / 128 = ap length kept ∙ length-map-range_with_len (λ k. end_from table (k * 128)) 1 (length table / 128) in
    let rest : length (drop place table) ≡ length table - place = length-drop place table in
    let behind : place + (edge - place) ≡ (place / 128 + 1) * 128 = omega arith in
    let there : get_or (map (λ k. end_from table (k * 128)) (range_with_len 1 (length table / 128))) (place / 128) end ≡ end_from table ((place / 128 + 1) * 128)
    = get_or-map-range_with_len (λ k. end_from table (k * 128)) 1 (length table / 128) (place / 128) (place / 128 + 1) end (omega arith) (omega arith) in
    is ∙ ap (λ l. get_or l (place / 128) end) kept ∙ there ∙ end_behind table place (edge - place) ((place / 128 + 1) * 128) behind (omega arith) none

-- The place's block is the last one, and no zero byte stands in it.
pub end_of_table : (table ends : List ℕ) (place edge : ℕ) → ends ≡ ends_of table → place < length table → edge ≡ place + min (length table - place) (128 - place % 128)
    → position (λ b. b == 0) (take (edge - place) (drop place table)) ≡ None → length ends ≤ place / 128 → length table ≡ end_from table place
unfolding ends_of
end_of_table table ends place edge kept inside size none block =
    let count : length ends ≡ length table / 128 = ap length kept ∙ length-map-range_with_len (λ k. end_from table (k * 128)) 1 (length table / 128) in
    let rest : length (drop place table) ≡ length table - place = length-drop place table in
    sym (end_missed table place (edge - place) (omega arith) (omega arith) (omega arith) none)
