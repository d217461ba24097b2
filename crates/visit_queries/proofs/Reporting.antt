-- What is reported of what was seen, and what a walk is stopped by.
use Rattle.std.specs.Prelude.{◌≡◌, refl, ℕ, List, [], Ok, Err}
use Rattle.std.proofs.Common.{sym, ap, subst, ◌∙◌, append-nil}
use Rattle.visit_queries.specs.declared.visitor.Turn.{Turn}
use Rattle.visit_queries.specs.declared.visitor.Turn.TheVariants.{More, Enough}
use Rattle.visit_queries.specs.declared.walk_stop.WalkStop.{WalkStop}
use Rattle.visit_queries.specs.declared.walk_stop.WalkStop.TheVariants.{Refused, OutOfMemory}
use Rattle.visit_queries.specs.Shown.{Met, RefusedUnit}
use Rattle.visit_queries.specs.Seen.{Meanings, Step, Shows, Stops, behind_turn, report_on, reported, seen_by}

at_end : (step : Step) (after : List ℕ) (turn : Turn) → behind_turn (after, turn) (seen_by step []) ≡ Ok after
unfolding seen_by
at_end step after More = refl
at_end step after Enough = refl

-- nothing is met behind the last unit
pub report_made : (v : Meanings) (met : List Met) (after : List ℕ) (turn : Turn) (text : List ℕ → List ℕ) → Shows (Ok turn) v.step met v.state after
    → ((s : List ℕ) → text s ≡ v.text s) → report_on v met ≡ Ok (text after)
unfolding report_on
report_made v met after turn text shown same =
    let seen : seen_by v.step met v.state ≡ Ok after =
    subst (λ m. seen_by v.step m v.state ≡ Ok after) (append-nil met) (shown [] ∙ at_end v.step after turn) in
    ap (reported v.text) seen ∙ ap (λ t. Ok t) (sym (same after))

pub report_stopped : (v : Meanings) (met : List Met) (after : List ℕ) (stop : WalkStop) → Shows (Err stop) v.step met v.state after → Stops stop (report_on v met)
unfolding report_on
report_stopped v met after (Refused unit fault) shown =
    let refused : RefusedUnit = record { unit = unit; fault = fault } in
    ap (reported v.text) (subst (λ m. seen_by v.step m v.state ≡ Err refused) (append-nil met) (shown []))
report_stopped v met after OutOfMemory shown = tt
