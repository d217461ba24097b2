-- The rows of a run, bisected, and its addresses.
use Rattle.std.proofs.Common.{◌≡◌, ◌-◌, ◌≤◌, ◌<◌, ◌∙◌, ◌&&◌, ℕ, zero, suc, Bool, true, false, not, cond, leb, nat_le, nat_lt, List, [], ◌∷◌, length, get_or, Option, Some, None, refl, sym, ap, arith}
use Rattle.std.specs.List.Sorted.{IsNonDecreasingBy, IsPartitionPoint}
use Rattle.interval_index.specs.declared.interval.Interval.{Interval}
use Rattle.interval_index.specs.Intervals.{has}
use Rattle.interval_index.specs.Boundaries.{AscendsBy}
use Rattle.interval_index.proofs.Bisection.{non_decreasing}
use Rattle.row_index.specs.declared.rows.KeptRow.{KeptRow}
use Rattle.row_index.specs.Rows.{covers, row_behind, row_at}
use Rattle.row_index.specs.Runs.{RisesBehind, Rises, last_behind, interval_of}
use Rattle.row_index.proofs.Cuts.{goes_on, no_lower}

ascends_behind : (row : KeptRow) (rest : List KeptRow) → RisesBehind row rest → AscendsBy (λ (r : KeptRow). r.address) row.address rest
ascends_behind row [] h = tt
ascends_behind row (next ∷ rest) h = (no_lower row next h.0, ascends_behind next rest h.1)

rows_ascend : (rows : List KeptRow) → Rises rows → AscendsBy (λ (r : KeptRow). r.address) 0 rows
rows_ascend [] h = tt
rows_ascend (row ∷ rest) h = (omega arith, ascends_behind row rest h)

pub rows_in_order : (rows : List KeptRow) → Rises rows → IsNonDecreasingBy (λ (r : KeptRow). r.address) rows
rows_in_order rows h = non_decreasing (λ (r : KeptRow). r.address) 0 rows (rows_ascend rows h)

under : (end : Bool) (low high a : ℕ) → leb low a ≡ false → (not end && (nat_le low a && nat_lt a high)) ≡ false
under true low high a e = refl
under false low high a e = grind (arith, e)

over : (end : Bool) (low high a : ℕ) → leb high a ≡ true → (not end && (nat_le low a && nat_lt a high)) ≡ false
over true low high a e = refl
over false low high a e = grind (arith, e)

between : (end : Bool) (low high a : ℕ) → end ≡ false → leb low a ≡ true → leb high a ≡ false → (not end && (nat_le low a && nat_lt a high)) ≡ true
between true low high a ongoing e f = absurd (grind (arith, ongoing))
between false low high a ongoing e f = grind (arith, e, f)

-- no row is at or below the address
under_all : (row : KeptRow) (rest : List KeptRow) (a : ℕ) → ((k : ℕ) (d : KeptRow) → k < length (row ∷ rest) → leb (get_or (row ∷ rest) k d).address a ≡ false) → row_behind row rest a ≡ None
under_all row [] a high = refl
under_all row (next ∷ rest) a high =
    ap (λ (test : Bool). cond test (Some row) (row_behind next rest a)) (under row.end row.address next.address a (high 0 row (omega arith)))
    ∙ under_all next rest a (λ k d inside. high (suc k) d (omega (arith, inside)))

-- all rows are
over_all : (row : KeptRow) (rest : List KeptRow) (a : ℕ) → ((k : ℕ) (d : KeptRow) → k < length (row ∷ rest) → leb (get_or (row ∷ rest) k d).address a ≡ true) → row_behind row rest a ≡ None
over_all row [] a low = refl
over_all row (next ∷ rest) a low =
    ap (λ (test : Bool). cond test (Some row) (row_behind next rest a)) (over row.end row.address next.address a (low 1 row (omega arith)))
    ∙ over_all next rest a (λ k d inside. low (suc k) d (omega (arith, inside)))

-- the last one at or below it has the number `m`, and is not the last of all
row_between : (row : KeptRow) (rest : List KeptRow) (a m : ℕ) (e : KeptRow) → RisesBehind row rest → m < length rest
    → ((k : ℕ) (d : KeptRow) → k ≤ m → leb (get_or (row ∷ rest) k d).address a ≡ true)
    → ((k : ℕ) (d : KeptRow) → m < k → k < length (row ∷ rest) → leb (get_or (row ∷ rest) k d).address a ≡ false)
    → row_behind row rest a ≡ Some (get_or (row ∷ rest) m e)
row_between row [] a m e h within low high = absurd (omega (arith, within))
row_between row (next ∷ rest) a zero e h within low high =
    ap (λ (test : Bool). cond test (Some row) (row_behind next rest a)) (between row.end row.address next.address a (goes_on row next h.0) (low 0 row (omega arith)) (high 1 row (omega arith) (omega arith)))
row_between row (next ∷ rest) a (suc m) e h within low high =
    ap (λ (test : Bool). cond test (Some row) (row_behind next rest a)) (over row.end row.address next.address a (low 1 row (omega arith)))
    ∙ row_between next rest a m e h.1 (omega (arith, within)) (λ k d le. low (suc k) d (omega (arith, le))) (λ k d lt inside. high (suc k) d (omega (arith, lt)) (omega (arith, inside)))

abbrev pub IsPoint : List KeptRow → ℕ → ℕ → Type 0
IsPoint rows a count = IsPartitionPoint (λ (r : KeptRow). leb r.address a ≡ true) (λ (r : KeptRow). leb r.address a ≡ false) rows count

pub none_under : (rows : List KeptRow) (a count : ℕ) → count ≡ 0 → IsPoint rows a count → None ≡ row_at rows a
none_under [] a count is point = refl
none_under (row ∷ rest) a count is point = sym (under_all row rest a (λ k d inside. point.1 k d (omega (arith, is)) inside))

pub none_over : (rows : List KeptRow) (a count : ℕ) → count ≡ length rows → IsPoint rows a count → None ≡ row_at rows a
none_over [] a count is point = refl
none_over (row ∷ rest) a count is point = sym (over_all row rest a (λ k d inside. point.0 k d (omega arith) (omega (arith, is, inside))))

pub some_between : (rows : List KeptRow) (a count : ℕ) (e : KeptRow) → Rises rows → 0 < count → count < length rows → IsPoint rows a count → Some (get_or rows (count - 1) e) ≡ row_at rows a
some_between [] a count e h some within point = absurd (omega (arith, within))
some_between (row ∷ rest) a count e h some within point =
    sym (row_between row rest a (count - 1) e h (omega (arith, some, within)) (λ k d le. point.0 k d (omega arith) (omega (arith, le, some))) (λ k d lt inside. point.1 k d (omega (arith, lt, some)) inside))

-- a run has a row for each of its addresses, and for no other
last_no_lower : (row : KeptRow) (rest : List KeptRow) → RisesBehind row rest → row.address ≤ last_behind row rest
last_no_lower row [] h = omega arith
last_no_lower row (next ∷ rest) h = omega (arith, no_lower row next h.0, last_no_lower next rest h.1)

record Has (first behind a : ℕ) : Type 0 where
  low : first ≤ a
  high : a < behind

covered : (end : Bool) (low high a : ℕ) → (not end && (nat_le low a && nat_lt a high)) ≡ true → Has low high a
covered true low high a e = absurd (grind (arith, e))
covered false low high a e = record { low = grind (arith, e); high = grind (arith, e) }

not_covered : (end : Bool) (low high a : ℕ) → end ≡ false → low ≤ a → (not end && (nat_le low a && nat_lt a high)) ≡ false → high ≤ a
not_covered true low high a ongoing le e = absurd (grind (arith, ongoing))
not_covered false low high a ongoing le e = grind (arith, e, le)

outside_by : (test : Bool) (row next : KeptRow) (rest : List KeptRow) (a : ℕ) → covers row next a ≡ test → RisesBehind row (next ∷ rest)
    → ((Has next.address (last_behind next rest) a → ⊥) → row_behind next rest a ≡ None)
    → (Has row.address (last_behind next rest) a → ⊥) → cond test (Some row) (row_behind next rest a) ≡ None
outside_by true row next rest a e h later out =
    let here = covered row.end row.address next.address a e in
    absurd (out (record { low = here.low; high = omega (arith, here.high, last_no_lower next rest h.1) }))
outside_by false row next rest a e h later out =
    later (λ here. out (record { low = omega (arith, here.low, no_lower row next h.0); high = here.high }))

outside_behind : (row : KeptRow) (rest : List KeptRow) (a : ℕ) → RisesBehind row rest → (Has row.address (last_behind row rest) a → ⊥) → row_behind row rest a ≡ None
outside_behind row [] a h out = refl
outside_behind row (next ∷ rest) a h out = outside_by (covers row next a) row next rest a refl h (outside_behind next rest a h.1) out

pub record IsSomeRow (found : Option KeptRow) : Type 0 where
  pub row : KeptRow
  pub is : found ≡ Some row

inside_by : (test : Bool) (row next : KeptRow) (rest : List KeptRow) (a : ℕ) → covers row next a ≡ test → RisesBehind row (next ∷ rest)
    → (Has next.address (last_behind next rest) a → IsSomeRow (row_behind next rest a))
    → Has row.address (last_behind next rest) a → IsSomeRow (cond test (Some row) (row_behind next rest a))
inside_by true row next rest a e h later here = record { row = row; is = refl }
inside_by false row next rest a e h later here =
    later (record { low = not_covered row.end row.address next.address a (goes_on row next h.0) here.low e; high = here.high })

inside_behind : (row : KeptRow) (rest : List KeptRow) (a : ℕ) → RisesBehind row rest → Has row.address (last_behind row rest) a → IsSomeRow (row_behind row rest a)
inside_behind row [] a h here = absurd (omega (arith, here.low, here.high))
inside_behind row (next ∷ rest) a h here = inside_by (covers row next a) row next rest a refl h (inside_behind next rest a h.1) here

had : (low high a : ℕ) → (nat_le low a && nat_lt a high) ≡ true → Has low high a
had low high a e = record { low = grind (arith, e); high = grind (arith, e) }

had_not : (low high a : ℕ) → (nat_le low a && nat_lt a high) ≡ false → Has low high a → ⊥
had_not low high a e here = grind (arith, e, here.low, here.high)

pub outside : (rows : List KeptRow) (a : ℕ) → Rises rows → has (interval_of rows) a ≡ false → row_at rows a ≡ None
outside [] a h e = refl
outside (row ∷ rest) a h e = outside_behind row rest a h (had_not row.address (last_behind row rest) a e)

pub inside : (rows : List KeptRow) (a : ℕ) → Rises rows → has (interval_of rows) a ≡ true → IsSomeRow (row_at rows a)
inside [] a h e = absurd (let here = had 0 0 a e in omega (arith, here.high))
inside (row ∷ rest) a h e = inside_behind row rest a h (had row.address (last_behind row rest) a e)

abbrev interval : ℕ → ℕ → Interval
interval low high = record { low = low; high = high }

-- the interval, read off the first row and the last
last_is : (row : KeptRow) (rest : List KeptRow) (d : KeptRow) → (get_or (row ∷ rest) (length rest) d).address ≡ last_behind row rest
last_is row [] d = refl
last_is row (next ∷ rest) d = last_is next rest d

pub interval_is : (rows : List KeptRow) (d e : KeptRow) → 0 < length rows → record { low = (get_or rows 0 d).address; high = (get_or rows (length rows - 1) e).address } ≡ interval_of rows
interval_is [] d e some = absurd (omega (arith, some))
interval_is (row ∷ rest) d e some =
    let size : length (row ∷ rest) - 1 ≡ length rest = omega arith in
    ap (λ (n : ℕ). interval row.address n) (ap (λ (k : ℕ). (get_or (row ∷ rest) k e).address) size ∙ last_is row rest e)
