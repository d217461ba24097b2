-- The runs of a unit, added one behind another.
use Rattle.std.proofs.Common.{◌≡◌, ◌+◌, ◌-◌, ◌≤◌, ◌<◌, ◌∙◌, ◌++◌, ℕ, zero, suc, List, [], ◌∷◌, map, length, take, drop, get_or, Option, Some, None, refl, sym, ap, subst, arith, length-drop}
use Rattle.std.specs.Option.{option_or}
use Rattle.std.proofs.Math.Seq.{take-length}
use Rattle.std.proofs.lemmas.List.{drop-drop, drop_all}
use Rattle.std.proofs.Math.Seq.{drop-cons}
use Rattle.row_index.specs.declared.rows.KeptRow.{KeptRow}
use Rattle.row_index.specs.declared.runs.Run.{Run}
use Rattle.row_index.specs.Rows.{row_at, of_unit, found_from, found_in}
use Rattle.row_index.specs.Runs.{Rises, IsRunOf, AreRunsOf, Splits, rows_of, told_by_run, told_by}

or_associates : {X : Type 0} (x y z : Option X) → option_or (option_or x y) z ≡ option_or x (option_or y z)
or_associates None y z = refl
or_associates (Some x) y z = refl

none_or : {X : Type 0} (x : Option X) → x ≡ option_or x None
none_or None = refl
none_or (Some x) = refl

of_unit_or : (unit : ℕ) (x y : Option KeptRow) → of_unit unit (option_or x y) ≡ option_or (of_unit unit x) (of_unit unit y)
of_unit_or unit None y = refl
of_unit_or unit (Some x) y = refl

told_push : (units : List (List KeptRow)) (runs : List Run) (run : Run) (a : ℕ) → told_by units (runs ++ run ∷ []) a ≡ option_or (told_by units runs a) (told_by_run units run a)
told_push units [] run a = sym (none_or (told_by_run units run a))
told_push units (first ∷ runs) run a =
    ap (option_or (told_by_run units first a)) (told_push units runs run a) ∙ sym (or_associates (told_by_run units first a) (told_by units runs a) (told_by_run units run a))

runs_push : (units : List (List KeptRow)) (runs : List Run) (run : Run) → AreRunsOf units runs → IsRunOf units run → AreRunsOf units (runs ++ run ∷ [])
runs_push units [] run h new = (new, tt)
runs_push units (first ∷ runs) run h new = (h.0, runs_push units runs run h.1 new)

rest_all : {X : Type 0} (m : ℕ) (xs : List X) → take (length xs - m) (drop m xs) ≡ drop m xs
rest_all m xs = ap (λ (n : ℕ). take n (drop m xs)) (sym (length-drop m xs)) ∙ take-length (drop m xs)

-- runs tell what the unit's rows before `start` do, and the rest tells the rest
pub record SplitsTo (units : List (List KeptRow)) (unit start : ℕ) (old now : List Run) : Type 0 where
  pub runs : AreRunsOf units old → AreRunsOf units now
  pub told : (a : ℕ) → option_or (told_by units now a) (of_unit unit (row_at (drop start (get_or units unit [])) a))
      ≡ option_or (told_by units old a) (of_unit unit (row_at (get_or units unit []) a))

pub split_none : (units : List (List KeptRow)) (unit : ℕ) (old : List Run) → SplitsTo units unit 0 old old
split_none units unit old = record { runs = λ h. h; told = λ a. refl }

pub split_all : (units : List (List KeptRow)) (unit start : ℕ) (rows : List KeptRow) (old now : List Run) → get_or units unit [] ≡ rows → length rows ≤ start
    → SplitsTo units unit start old now → Splits units unit old now
split_all units unit start rows old now is done h = record {
  runs = h.runs;
  told = λ a. none_or (told_by units now a)
      ∙ ap (λ (xs : List KeptRow). option_or (told_by units now a) (of_unit unit (row_at xs a))) (sym (drop_all start (get_or units unit []) (omega (arith, ap length is, done))))
      ∙ h.told a;
}

-- the rows of a run, cut off the rest
pub record IsCut (rows : List KeptRow) (n : ℕ) : Type 0 where
  pub within : n ≤ length rows
  pub rises : Rises (take n rows)
  pub told : (a : ℕ) → row_at rows a ≡ option_or (row_at (take n rows) a) (row_at (drop n rows) a)

split_next_at : (units : List (List KeptRow)) (unit start n : ℕ) (old now : List Run) → unit < length units → start ≤ length (get_or units unit [])
    → IsCut (drop start (get_or units unit [])) n → SplitsTo units unit start old now
    → SplitsTo units unit (start + n) old (now ++ record { unit = unit; start = start; stop = start + n } ∷ [])
split_next_at units unit start n old now known within cut h =
    let rows : List KeptRow = get_or units unit [] in
    let run : Run = record { unit = unit; start = start; stop = start + n } in
    let size : n ≡ start + n - start = omega arith in
    let same : take n (drop start rows) ≡ rows_of units run = ap (λ (k : ℕ). take k (drop start rows)) size in
    record {
      runs = λ old_stand. runs_push units now run (h.runs old_stand) (record {
        unit = known;
        start = omega arith;
        stop = omega (arith, cut.within, length-drop start rows, within);
        rises = subst Rises same cut.rises;
      });
      told = λ a.
          ap (λ (x : Option (ℕ × KeptRow)). option_or x (of_unit unit (row_at (drop (start + n) rows) a))) (told_push units now run a)
          ∙ or_associates (told_by units now a) (told_by_run units run a) (of_unit unit (row_at (drop (start + n) rows) a))
          ∙ ap (λ (xs : List KeptRow). option_or (told_by units now a) (option_or (of_unit unit (row_at xs a)) (of_unit unit (row_at (drop (start + n) rows) a)))) (sym same)
          ∙ ap (λ (xs : List KeptRow). option_or (told_by units now a) (option_or (of_unit unit (row_at (take n (drop start rows)) a)) (of_unit unit (row_at xs a)))) (sym (drop-drop n start rows))
          ∙ ap (option_or (told_by units now a)) (sym (of_unit_or unit (row_at (take n (drop start rows)) a) (row_at (drop n (drop start rows)) a)))
          ∙ ap (λ (x : Option KeptRow). option_or (told_by units now a) (of_unit unit x)) (sym (cut.told a))
          ∙ h.told a;
    }

pub cut_within : (rows : List KeptRow) (start n : ℕ) → start ≤ length rows → IsCut (take (length rows - start) (drop start rows)) n → start + n ≤ length rows
cut_within rows start n within cut = omega (arith, within, cut.within, ap length (rest_all start rows), length-drop start rows)

-- the step of the loop, over the slice of what is left
pub split_next : (units : List (List KeptRow)) (unit start n : ℕ) (rows : List KeptRow) (old now new : List Run) → unit < length units → get_or units unit [] ≡ rows → start ≤ length rows
    → IsCut (take (length rows - start) (drop start rows)) n → new ≡ now ++ record { unit = unit; start = start; stop = start + n } ∷ []
    → SplitsTo units unit start old now → SplitsTo units unit (start + n) old new
split_next units unit start n rows old now new known is within cut pushed h =
    let rest : IsCut (drop start rows) n = subst (λ (xs : List KeptRow). IsCut xs n) (rest_all start rows) cut in
    let mine : IsCut (drop start (get_or units unit [])) n = subst (λ (xs : List KeptRow). IsCut (drop start xs) n) (sym is) rest in
    subst (SplitsTo units unit (start + n) old) (sym pushed) (split_next_at units unit start n old now known (omega (arith, ap length is, within)) mine h)

-- the runs of the units before this one, and the units from here on
pub record Told (units : List (List KeptRow)) (unit : ℕ) (runs : List Run) : Type 0 where
  pub stand : AreRunsOf units runs
  pub told : (a : ℕ) → option_or (told_by units runs a) (found_from unit (drop unit units) a) ≡ found_in units a

-- the rows of a unit among those of all
pub unit_is : {V : Type 0} (items : V → List KeptRow) (units : List V) (unit : ℕ) (d : V) → unit < length units → get_or (map items units) unit [] ≡ items (get_or units unit d)
unit_is items [] unit d within = absurd (omega (arith, within))
unit_is items (x ∷ units) zero d within = refl
unit_is items (x ∷ units) (suc unit) d within = unit_is items units unit d (omega (arith, within))

pub told_none : (units : List (List KeptRow)) → Told units 0 []
told_none units = record { stand = tt; told = λ a. refl }

pub told_next : (units : List (List KeptRow)) (unit : ℕ) (old new : List Run) → unit < length units → Splits units unit old new → Told units unit old → Told units (unit + 1) new
told_next units unit old new known splits h =
    let rows : List KeptRow = get_or units unit [] in
    let next : suc unit ≡ unit + 1 = omega arith in
    let rest : drop unit units ≡ rows ∷ drop (unit + 1) units = drop-cons units unit [] known ∙ ap (λ (k : ℕ). rows ∷ drop k units) next in
    record {
      stand = splits.runs h.stand;
      told = λ a.
          ap (λ (x : Option (ℕ × KeptRow)). option_or x (found_from (unit + 1) (drop (unit + 1) units) a)) (splits.told a)
          ∙ or_associates (told_by units old a) (of_unit unit (row_at rows a)) (found_from (unit + 1) (drop (unit + 1) units) a)
          ∙ ap (λ (k : ℕ). option_or (told_by units old a) (option_or (of_unit unit (row_at rows a)) (found_from k (drop (unit + 1) units) a))) (sym next)
          ∙ ap (λ (xs : List (List KeptRow)). option_or (told_by units old a) (found_from unit xs a)) (sym rest)
          ∙ h.told a;
    }

pub told_all : (units : List (List KeptRow)) (unit : ℕ) (runs : List Run) → length units ≤ unit → Told units unit runs → (a : ℕ) → told_by units runs a ≡ found_in units a
told_all units unit runs done h a =
    none_or (told_by units runs a)
    ∙ ap (λ (xs : List (List KeptRow)). option_or (told_by units runs a) (found_from unit xs a)) (sym (drop_all unit units done))
    ∙ h.told a
