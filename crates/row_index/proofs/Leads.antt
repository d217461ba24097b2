-- The first run that has an address tells its row.
use Rattle.std.proofs.Common.{◌≡◌, ◌+◌, ◌<◌, ◌∙◌, ℕ, suc, Bool, true, false, cond, List, [], ◌∷◌, map, length, get_or, Option, Some, None, refl, sym, ap, subst, arith}
use Rattle.std.specs.Option.{option_or}
use Rattle.interval_index.specs.declared.interval.Interval.{Interval}
use Rattle.interval_index.specs.Intervals.{has, first_interval_from}
use Rattle.row_index.specs.declared.rows.KeptRow.{KeptRow}
use Rattle.row_index.specs.declared.runs.Run.{Run}
use Rattle.row_index.specs.Rows.{row_at, of_unit}
use Rattle.row_index.specs.Runs.{IsRunOf, AreRunsOf, interval_of, rows_of, told_by_run, told_by}
use Rattle.row_index.proofs.Bisected.{outside, inside, IsSomeRow}

abbrev pub intervals : List (List KeptRow) → List Run → List Interval
intervals units runs = map (λ run. interval_of (rows_of units run)) runs

-- the run with this number tells what all do
pub record Leads (units : List (List KeptRow)) (runs : List Run) (a k j : ℕ) : Type 0 where
  pub i : ℕ
  pub is : j ≡ k + i
  pub within : i < length runs
  pub run : (d : Run) → IsRunOf units (get_or runs i d)
  pub told : (d : Run) → told_by units runs a ≡ told_by_run units (get_or runs i d) a

-- the same, or no run tells anything
abbrev pub LeadsTo : List (List KeptRow) → List Run → ℕ → ℕ → Option ℕ → Type 0
LeadsTo units runs a k None = told_by units runs a ≡ None
LeadsTo units runs a k (Some j) = Leads units runs a k j

or_some : {X : Type 0} (x y : Option X) (z : X) → x ≡ Some z → option_or x y ≡ x
or_some None y z e = absurd (grind (arith, e))
or_some (Some x) y z e = refl

told_here : (unit : ℕ) (found : Option KeptRow) (others : Option (ℕ × KeptRow)) → IsSomeRow found → option_or (of_unit unit found) others ≡ of_unit unit found
told_here unit found others some = or_some (of_unit unit found) others (unit, some.row) (ap (of_unit unit) some.is)

lead_later : (units : List (List KeptRow)) (run : Run) (others : List Run) (a k : ℕ) (found : Option ℕ) → row_at (rows_of units run) a ≡ None
    → LeadsTo units others a (suc k) found → LeadsTo units (run ∷ others) a k found
lead_later units run others a k None e h = ap (λ (found : Option KeptRow). option_or (of_unit run.unit found) (told_by units others a)) e ∙ h
lead_later units run others a k (Some j) e h = record {
  i = suc h.i;
  is = h.is ∙ omega arith;
  within = omega (arith, h.within);
  run = h.run;
  told = λ d. ap (λ (found : Option KeptRow). option_or (of_unit run.unit found) (told_by units others a)) e ∙ h.told d;
}

lead_by : (test : Bool) (units : List (List KeptRow)) (run : Run) (others : List Run) (a k : ℕ) → has (interval_of (rows_of units run)) a ≡ test → IsRunOf units run
    → LeadsTo units others a (suc k) (first_interval_from (suc k) (intervals units others) a)
    → LeadsTo units (run ∷ others) a k (cond test (Some k) (first_interval_from (suc k) (intervals units others) a))
lead_by true units run others a k e h later = record {
  i = 0;
  is = omega arith;
  within = omega arith;
  run = λ d. h;
  told = λ d. told_here run.unit (row_at (rows_of units run) a) (told_by units others a) (inside (rows_of units run) a h.rises e);
}
lead_by false units run others a k e h later =
    lead_later units run others a k (first_interval_from (suc k) (intervals units others) a) (outside (rows_of units run) a h.rises e) later

lead_from : (units : List (List KeptRow)) (runs : List Run) (a k : ℕ) → AreRunsOf units runs → LeadsTo units runs a k (first_interval_from k (intervals units runs) a)
lead_from units [] a k h = refl
lead_from units (run ∷ others) a k h = lead_by (has (interval_of (rows_of units run)) a) units run others a k refl h.0 (lead_from units others a (suc k) h.1)

-- what an index of the runs' intervals answers
pub leads : (units : List (List KeptRow)) (runs : List Run) (a : ℕ) (found : Option ℕ) → AreRunsOf units runs → found ≡ first_interval_from 0 (intervals units runs) a → LeadsTo units runs a 0 found
leads units runs a found h e = subst (LeadsTo units runs a 0) (sym e) (lead_from units runs a 0 h)

-- the run with the number that was found
pub run_led : (units : List (List KeptRow)) (runs : List Run) (a j : ℕ) (run d : Run) → Leads units runs a 0 j → run ≡ get_or runs j d → IsRunOf units run
run_led units runs a j run d led is =
    let same : led.i ≡ j = omega (arith, led.is) in
    subst (IsRunOf units) (ap (λ (k : ℕ). get_or runs k d) same ∙ sym is) (led.run d)

pub told_led : (units : List (List KeptRow)) (runs : List Run) (a j : ℕ) (run d : Run) → Leads units runs a 0 j → run ≡ get_or runs j d → told_by units runs a ≡ told_by_run units run a
told_led units runs a j run d led is =
    let same : led.i ≡ j = omega (arith, led.is) in
    led.told d ∙ ap (λ (r : Run). told_by_run units r a) (ap (λ (k : ℕ). get_or runs k d) same ∙ sym is)

pub within_led : (units : List (List KeptRow)) (runs : List Run) (a j : ℕ) → Leads units runs a 0 j → j < length runs
within_led units runs a j led = omega (arith, led.is, led.within)
