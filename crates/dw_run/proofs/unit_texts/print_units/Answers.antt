use Rattle.std.proofs.Common.{arith, Ok, Err, Some, None, ◌+◌, ◌-◌, refl, sym, ◌∙◌}
use Rattle.std.proofs.Math.Nat.{sub-zero}
use Rattle.dw_outside.specs.GainsLaws.{GainsPart-nothing, Gains-nothing}
use Rattle.dw_outside.specs.declared.stops.WriteStop.TheVariants as write_stops
use Rattle.dw_run.specs.declared.refusals.Refusal.TheVariants as refusals
use Rattle.dw_run.proofs.UnitsPrinted.{gained_is, printed_next, printed_cut, printed_refused, printed_done}
use Rattle.dw_run.proofs.unit_texts.print_units.Goals as goal

pub units-init : goal.units-init
units-init g c = record {
  printed = λ r new p. rw (sym c.count-unit-end.ensures) (rw (sub-zero c.count-unit-end.result) at p);
  same_text = λ i. refl;
  same_count = sym c.count-unit-end.ensures;
  later = omega arith;
}

pub append-requires : goal.append-requires
append-requires g c = rw c.units.invariant.same_count c.units-test.true

pub returns-in-Err-Refused-clause-printed : goal.returns-in-Err-Refused-clause-printed
returns-in-Err-Refused-clause-printed g c =
    let is = rw c.in-Err-Refused.field-0-is at c.in-Err-Refused.ensures.text in
    rw c.in-Err-Refused.fault-is
    (c.units.invariant.printed (Ok (Some (refusals.Unit c.units.unit c.in-Err-Refused.fault))) _
    (printed_refused _ c.units.unit _ (c.count-unit-end.result - (c.units.unit + 1)) c.in-Err-Refused.fault _ (omega arith)
    (sym (c.units.invariant.same_text c.units.unit) ∙ is.0)))

pub returns-in-Err-OutOfMemory-clause-printed : goal.returns-in-Err-OutOfMemory-clause-printed
returns-in-Err-OutOfMemory-clause-printed g c = c.units.invariant.printed (Err write_stops.OutOfMemory) _ (GainsPart-nothing _ _ _ (Gains-nothing _))

pub returns-in-Err-clause-printed : goal.returns-in-Err-clause-printed
returns-in-Err-clause-printed g c =
    c.units.invariant.printed (Err c.in-Err.stop) _
    (printed_cut _ c.units.unit _ (c.count-unit-end.result - (c.units.unit + 1)) c.append.new.out.items c.as_slice.result.now _ _ c.in-Err.stop (omega arith)
    (gained_is _ _ _ _ c.clear.ensures.items (c.units.invariant.same_text c.units.unit) c.in-Ok.ensures.text)
    c.as_slice.ensures.value c.in-Err.ensures.part)

pub units-preserved : goal.units-preserved
units-preserved g c = record {
  printed = λ r new p. c.units.invariant.printed r new
      (printed_next _ c.units.unit _ (c.count-unit-end.result - (c.units.unit + 1)) c.append.new.out.items c.as_slice.result.now _ _ r new (omega arith)
      (gained_is _ _ _ _ c.clear.ensures.items (c.units.invariant.same_text c.units.unit) c.in-Ok.ensures.text)
      c.as_slice.ensures.value c.in-Ok-write_all.ensures.whole p);
  same_text = λ i. c.append.ensures.same_text i ∙ c.units.invariant.same_text i;
  same_count = c.append.ensures.same_count ∙ c.units.invariant.same_count;
  later = omega arith;
}

pub returns-clause-printed : goal.returns-clause-printed
returns-clause-printed g c = c.units.invariant.printed (Ok None) _ (printed_done _ _ _ _ (omega arith))
