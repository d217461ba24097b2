-- A walk over the rows of a unit, and over units.
use Rattle.std.proofs.Common.{◌≡◌, ◌+◌, ◌-◌, ◌≤◌, ◌<◌, ◌∙◌, ℕ, zero, suc, true, false, cond, List, [], ◌∷◌, length, drop, get_or, Some, None, refl, ap, arith}
use Rattle.std.specs.Option.{option_or}
use Rattle.std.proofs.Math.Seq.{drop-cons}
use Rattle.std.proofs.lemmas.List.{drop_all}
use Rattle.row_index.specs.declared.rows.KeptRow.{KeptRow}
use Rattle.row_index.specs.Rows.{covers, row_at, of_unit, found_from}

pair_from : (rows : List KeptRow) (n : ℕ) (d e : KeptRow) (a : ℕ) → suc n < length rows
    → row_at (drop n rows) a ≡ cond (covers (get_or rows n d) (get_or rows (suc n) e) a) (Some (get_or rows n d)) (row_at (drop (suc n) rows) a)
pair_from [] n d e a within = absurd (omega (arith, within))
pair_from (row ∷ []) zero d e a within = absurd (omega (arith, within))
pair_from (row ∷ next ∷ rest) zero d e a within = refl
pair_from (row ∷ rest) (suc n) d e a within = pair_from rest n d e a (omega (arith, within))

pair_at : (rows : List KeptRow) (n place : ℕ) (d e : KeptRow) (a : ℕ) → place ≡ suc n → place < length rows
    → row_at (drop n rows) a ≡ cond (covers (get_or rows n d) (get_or rows place e) a) (Some (get_or rows n d)) (row_at (drop place rows) a)
pair_at rows n place d e a is within = rw is (pair_from rows n d e a (omega (arith, is, within)))

-- a row that covers the address with the next one
pub pair_covers : (rows : List KeptRow) (place : ℕ) (d e : KeptRow) (a : ℕ) → 0 < place → place < length rows
    → covers (get_or rows (place - 1) d) (get_or rows place e) a ≡ true → row_at (drop (place - 1) rows) a ≡ Some (get_or rows (place - 1) d)
pair_covers rows place d e a some within covered = pair_at rows (place - 1) place d e a (omega (arith, some)) within ∙ rw covered refl

-- one that does not
pub pair_passes : (rows : List KeptRow) (place : ℕ) (d e : KeptRow) (a : ℕ) → 0 < place → place < length rows
    → covers (get_or rows (place - 1) d) (get_or rows place e) a ≡ false → row_at (drop (place - 1) rows) a ≡ row_at (drop place rows) a
pair_passes rows place d e a some within passed = pair_at rows (place - 1) place d e a (omega (arith, some)) within ∙ rw passed refl

-- the last row covers nothing
pub last_passes : (rows : List KeptRow) (n : ℕ) (a : ℕ) → length rows ≤ suc n → row_at (drop n rows) a ≡ None
last_passes [] zero a past = refl
last_passes [] (suc n) a past = refl
last_passes (row ∷ []) zero a past = refl
last_passes (row ∷ next ∷ rest) zero a past = absurd (omega (arith, past))
last_passes (row ∷ rest) (suc n) a past = last_passes rest n a (omega (arith, past))

-- the unit with this number, and those behind it
unit_here : (units : List (List KeptRow)) (unit : ℕ) (a : ℕ) → unit < length units
    → found_from unit (drop unit units) a ≡ option_or (of_unit unit (row_at (get_or units unit []) a)) (found_from (suc unit) (drop (suc unit) units) a)
unit_here units unit a within = ap (λ (xs : List (List KeptRow)). found_from unit xs a) (drop-cons units unit [] within)

pub unit_tells : (units : List (List KeptRow)) (unit : ℕ) (row : KeptRow) (a : ℕ) → unit < length units
    → row_at (get_or units unit []) a ≡ Some row → found_from unit (drop unit units) a ≡ Some (unit, row)
unit_tells units unit row a within tells = unit_here units unit a within ∙ rw tells refl

pub unit_passes : (units : List (List KeptRow)) (unit : ℕ) (a : ℕ) → unit < length units
    → row_at (get_or units unit []) a ≡ None → found_from unit (drop unit units) a ≡ found_from (unit + 1) (drop (unit + 1) units) a
unit_passes units unit a within none =
    let next : suc unit ≡ unit + 1 = omega arith in
    unit_here units unit a within ∙ rw none refl ∙ ap (λ (n : ℕ). found_from n (drop n units) a) next

pub units_end : (units : List (List KeptRow)) (unit : ℕ) (a : ℕ) → length units ≤ unit → found_from unit (drop unit units) a ≡ None
units_end units unit a past = ap (λ (xs : List (List KeptRow)). found_from unit xs a) (drop_all unit units past)
