use Rattle.std.proofs.Common.{◌≡◌, ◌≤◌, ℕ, List, Option, Result, ◌-◌}
use Rattle.dw_outside.specs.declared.stops.WriteStop.{WriteStop}
use Rattle.dw_run.specs.declared.refusals.Refusal.{Refusal}
use Rattle.dw_run.specs.CommandTexts.{Prints, units_printed}
use Rattle.dw_run.proofs.unit_texts.print_units.Given as goal

-- what is printed from this unit on makes up what is printed of all units
abbrev pub invariant-units : goal.invariant-units
invariant-units g l = record {
  printed : (r : Result (Option Refusal) WriteStop) (new : Option (List ℕ)) →
      Prints r (units_printed (g.U.UnitTexts.text l.fn.units) l.unit (l.unit-end - l.unit)) (g.O.Sink.held l.out) new →
      Prints r (units_printed (g.U.UnitTexts.text l.fn.units) 0 (g.U.UnitTexts.count l.fn.units)) (g.O.Sink.held l.fn.out) new;
  same_text : (i : ℕ) → g.U.UnitTexts.text l.units i ≡ g.U.UnitTexts.text l.fn.units i;
  same_count : g.U.UnitTexts.count l.units ≡ l.unit-end;
  later : g.O.Sink.faults l.fn.out ≤ g.O.Sink.faults l.out;
}
