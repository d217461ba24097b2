-- How the texts of units, one after another, make up what is printed of all of them.
use Rattle.std.proofs.Common.{◌≡◌, ℕ, suc, ◌+◌, List, [], Option, Some, None, Result, Ok, Err, refl, sym, ap, ◌∙◌}
use Rattle.dw_fields.specs.declared.fault_code.Fault.{Fault}
use Rattle.dw_outside.specs.Gains.{Gains, GainsPart}
use Rattle.dw_outside.specs.GainsLaws.{Gains-nothing, Gains-then, GainsPart-then, GainsPart-more}
use Rattle.dw_outside.specs.declared.stops.WriteStop.{WriteStop}
use Rattle.dw_run.specs.declared.refusals.Refusal.{Refusal}
use Rattle.dw_run.specs.declared.refusals.Refusal.TheVariants as refusals
use Rattle.unit_text.specs.Pieces.{Text, Gained}
use Rattle.dw_run.specs.CommandTexts.{Prints, units_printed}

abbrev Answer : Type 0
Answer = Result (Option Refusal) WriteStop

-- a buffer that was empty holds a unit's text
pub gained_is : (cleared t : List ℕ) (text now : Text) → cleared ≡ [] → now ≡ text → Gained cleared t now → text ≡ Ok t
gained_is cleared t text (Ok x) empty same gained = sym same ∙ ap (λ y. Ok y) (rw empty at (sym gained))
gained_is cleared t text (Err f) empty same gained = absurd gained

-- a unit's text went out, and the units behind it are printed
pub printed_next : (text : ℕ → Text) (unit m n : ℕ) (t sent : List ℕ) (old mid : Option (List ℕ)) (r : Result (Option Refusal) WriteStop) (new : Option (List ℕ))
    → m ≡ suc n → text unit ≡ Ok t → sent ≡ t → Gains old mid sent → Prints r (units_printed text (unit + 1) n) mid new → Prints r (units_printed text unit m) old new
unfolding units_printed
printed_next text unit m n t sent old mid (Ok refusal) new fuel is same gains printed = rw (fuel, is, ← same) (printed.0, Gains-then old mid new sent _ gains printed.1)
printed_next text unit m n t sent old mid (Err stop) new fuel is same gains printed = rw (fuel, is, ← same) (GainsPart-then old mid new sent _ gains printed)

-- the sink stopped within a unit's text
pub printed_cut : (text : ℕ → Text) (unit m n : ℕ) (t sent : List ℕ) (old new : Option (List ℕ)) (stop : WriteStop)
    → m ≡ suc n → text unit ≡ Ok t → sent ≡ t → GainsPart old new sent → Prints {E = WriteStop} (Err stop) (units_printed text unit m) old new
unfolding units_printed
printed_cut text unit m n t sent old new stop fuel is same part = rw (fuel, is, ← same) (GainsPart-more old new sent _ part)

-- a unit is refused
pub printed_refused : (text : ℕ → Text) (unit m n : ℕ) (f : Fault) (old : Option (List ℕ))
    → m ≡ suc n → text unit ≡ Err f → Prints {E = WriteStop} (Ok (Some (refusals.Unit unit f))) (units_printed text unit m) old old
unfolding units_printed
printed_refused text unit m n f old fuel is = rw (fuel, is) (refl, Gains-nothing old)

-- no unit is left
pub printed_done : (text : ℕ → Text) (unit m : ℕ) (old : Option (List ℕ))
    → m ≡ 0 → Prints {E = WriteStop} (Ok None) (units_printed text unit m) old old
unfolding units_printed
printed_done text unit m old none = rw none (refl, Gains-nothing old)
