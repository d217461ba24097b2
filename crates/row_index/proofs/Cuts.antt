-- Rows cut where a run ends.
use Rattle.std.proofs.Common.{◌≡◌, ◌+◌, ◌-◌, ◌≤◌, ◌<◌, ◌∙◌, ◌&&◌, ◌||◌, ℕ, zero, suc, Bool, true, false, not, cond, nat_le, nat_lt, List, [], ◌∷◌, length, take, drop, get_or, Option, Some, None, refl, sym, ap, subst, arith}
use Rattle.std.specs.Option.{option_or}
use Rattle.std.proofs.Math.Seq.{take-length, drop-length}
use Rattle.row_index.specs.declared.rows.KeptRow.{KeptRow}
use Rattle.row_index.specs.Rows.{covers, row_behind, row_at}
use Rattle.row_index.specs.Runs.{breaks, RisesBehind, Rises}

or_left : (b c : Bool) → (b || c) ≡ false → b ≡ false
or_left true c e = absurd (grind (arith, e))
or_left false c e = refl

or_right : (b c : Bool) → (b || c) ≡ false → c ≡ false
or_right true c e = absurd (grind (arith, e))
or_right false c e = e

-- a row that does not break ends no sequence, and the next one's address is no lower
pub goes_on : (row next : KeptRow) → breaks row next ≡ false → row.end ≡ false
goes_on row next e = or_left row.end (nat_lt next.address row.address) e

pub no_lower : (row next : KeptRow) → breaks row next ≡ false → row.address ≤ next.address
no_lower row next e = let h = or_right row.end (nat_lt next.address row.address) e in grind (arith, h)

falls : (low high a : ℕ) → nat_lt high low ≡ true → (nat_le low a && nat_lt a high) ≡ false
falls low high a e = grind (arith, e)

uncovered_by : (end lower : Bool) (low high a : ℕ) → nat_lt high low ≡ lower → (end || lower) ≡ true → (not end && (nat_le low a && nat_lt a high)) ≡ false
uncovered_by true lower low high a e h = refl
uncovered_by false true low high a e h = falls low high a e
uncovered_by false false low high a e h = absurd (grind (arith, h))

-- no address is between a row and the next one where a run ends
uncovered : (row next : KeptRow) (a : ℕ) → breaks row next ≡ true → covers row next a ≡ false
uncovered row next a e = uncovered_by row.end (nat_lt next.address row.address) row.address next.address a refl e

cut_by : (test : Bool) (row : KeptRow) (all front back : Option KeptRow) → all ≡ option_or front back → cond test (Some row) all ≡ option_or (cond test (Some row) front) back
cut_by true row all front back e = refl
cut_by false row all front back e = e

cut_behind : (row : KeptRow) (rest : List KeptRow) (n : ℕ) (d e : KeptRow) (a : ℕ) → n < length rest → breaks (get_or (row ∷ rest) n d) (get_or rest n e) ≡ true
    → row_behind row rest a ≡ option_or (row_behind row (take n rest) a) (row_at (drop n rest) a)
cut_behind row [] n d e a within b = absurd (omega (arith, within))
cut_behind row (next ∷ rest) zero d e a within b = ap (λ (test : Bool). cond test (Some row) (row_behind next rest a)) (uncovered row next a b)
cut_behind row (next ∷ rest) (suc n) d e a within b =
    cut_by (covers row next a) row (row_behind next rest a) (row_behind next (take n rest) a) (row_at (drop n rest) a) (cut_behind next rest n d e a (omega (arith, within)) b)

cut_from : (rows : List KeptRow) (n place : ℕ) (d e : KeptRow) (a : ℕ) → place ≡ suc n → place < length rows → breaks (get_or rows n d) (get_or rows place e) ≡ true
    → row_at rows a ≡ option_or (row_at (take place rows) a) (row_at (drop place rows) a)
cut_from [] n place d e a is within b = absurd (omega (arith, within))
cut_from (row ∷ rest) n zero d e a is within b = absurd (omega (arith, is))
cut_from (row ∷ rest) n (suc m) d e a is within b =
    let same : n ≡ m = omega (arith, is) in
    cut_behind row rest m d e a (omega (arith, within)) (subst (λ (k : ℕ). breaks (get_or (row ∷ rest) k d) (get_or rest m e) ≡ true) same b)

-- cut at a break nothing is lost
pub cut_at : (rows : List KeptRow) (place : ℕ) (d e : KeptRow) → 0 < place → place < length rows
    → breaks (get_or rows (place - 1) d) (get_or rows place e) ≡ true
    → (a : ℕ) → row_at rows a ≡ option_or (row_at (take place rows) a) (row_at (drop place rows) a)
cut_at rows place d e some within b a = cut_from rows (place - 1) place d e a (omega (arith, some)) within b

or_none : {X : Type 0} (x : Option X) → x ≡ option_or x None
or_none None = refl
or_none (Some x) = refl

pub cut_at_end : (rows : List KeptRow) (place : ℕ) → place ≡ length rows
    → (a : ℕ) → row_at rows a ≡ option_or (row_at (take place rows) a) (row_at (drop place rows) a)
cut_at_end rows place is a =
    or_none (row_at rows a)
    ∙ ap (λ (xs : List KeptRow). option_or (row_at xs a) None) (sym (take-length rows))
    ∙ ap (λ (xs : List KeptRow). option_or (row_at (take (length rows) rows) a) (row_at xs a)) (sym (drop-length rows))
    ∙ ap (λ (n : ℕ). option_or (row_at (take n rows) a) (row_at (drop n rows) a)) (sym is)

-- one row more that does not break
more_behind : (row : KeptRow) (rest : List KeptRow) (n : ℕ) (d e : KeptRow) → n < length rest → breaks (get_or (row ∷ rest) n d) (get_or rest n e) ≡ false
    → RisesBehind row (take n rest) → RisesBehind row (take (suc n) rest)
more_behind row [] n d e within b h = absurd (omega (arith, within))
more_behind row (next ∷ rest) zero d e within b h = (b, tt)
more_behind row (next ∷ rest) (suc n) d e within b h = (h.0, more_behind next rest n d e (omega (arith, within)) b h.1)

more_from : (rows : List KeptRow) (n place : ℕ) (d e : KeptRow) → place ≡ suc n → place < length rows → breaks (get_or rows n d) (get_or rows place e) ≡ false
    → Rises (take place rows) → Rises (take (suc place) rows)
more_from [] n place d e is within b h = absurd (omega (arith, within))
more_from (row ∷ rest) n zero d e is within b h = absurd (omega (arith, is))
more_from (row ∷ rest) n (suc m) d e is within b h =
    let same : n ≡ m = omega (arith, is) in
    more_behind row rest m d e (omega (arith, within)) (subst (λ (k : ℕ). breaks (get_or (row ∷ rest) k d) (get_or rest m e) ≡ false) same b) h

pub rises_more : (rows : List KeptRow) (place : ℕ) (d e : KeptRow) → 0 < place → place < length rows
    → breaks (get_or rows (place - 1) d) (get_or rows place e) ≡ false
    → Rises (take place rows) → Rises (take (place + 1) rows)
rises_more rows place d e some within b h =
    let next : suc place ≡ place + 1 = omega arith in
    subst (λ (k : ℕ). Rises (take k rows)) next (more_from rows (place - 1) place d e (omega (arith, some)) within b h)

-- one row is a run
pub rises_one : (rows : List KeptRow) → Rises (take 1 rows)
rises_one [] = tt
rises_one (row ∷ rest) = tt

pub rises_all : (rows : List KeptRow) (place : ℕ) → place ≡ length rows → Rises (take place rows) → Rises rows
rises_all rows place is h = subst Rises (take-length rows) (subst (λ (n : ℕ). Rises (take n rows)) is h)
