use Rattle.std.proofs.Common.{◌∙◌, ◌+◌, ◌-◌, Some, None, ap, arith, refl, subst, sym}
use Rattle.std.proofs.Math.Nat.{sub-zero}
use Rattle.unit_headers.specs.Headers.{unit_count}
use Rattle.unit_text.specs.Pieces.{Gained}
use Rattle.dw_run.specs.declared.refusals.Refusal.TheVariants as refusals
use Rattle.dw_run.specs.CommandTexts.{units_printed}
use Rattle.dwtool_c.specs.Refusals.{unit_refusal}
use Rattle.dwtool_c.specs.Texts.{unit_text}
use Rattle.dwtool_c.proofs.SoFar.{SoFar, at_first, put_all, put_next, put_part, unit_next, unit_refused, units_end}
use Rattle.dwtool_c.proofs.texts.put_units.Goals as goal

pub units-init : goal.units-init
units-init c = record {
  same = refl;
  so_far =
      subst (λ left. SoFar (units_printed (unit_text c.args.command c.args.units.now) 0 (unit_count c.args.units.now.info c.args.units.now.order)) left c.args.out.now c.args.out.now 0)
      (ap (λ n. units_printed (unit_text c.args.command c.args.units.now) 0 n) (sym c.count-unit-end.ensures ∙ sym (sub-zero c.count-unit-end.result)))
      (at_first (units_printed (unit_text c.args.command c.args.units.now) 0 (unit_count c.args.units.now.info c.args.units.now.order)) c.args.out.now);
}

pub returns-in-Err-Refused : goal.returns-in-Err-Refused
returns-in-Err-Refused c =
    let is = rw c.in-Err-Refused.field-0-is at c.in-Err-Refused.ensures.text in
    let here = ap (λ u. unit_text c.args.command u c.units.unit) (sym c.units.invariant.same) ∙ is.0 in
    let ends = put_all _ _ _ _ _ (Some (refusals.Unit c.units.unit c.in-Err-Refused.fault)) c.units.invariant.so_far
    (unit_refused _ c.units.unit _ (c.count-unit-end.result - (c.units.unit + 1)) c.in-Err-Refused.fault (omega arith) here) in
    (ends.0, ap (λ r. Some r) c.unit_refusal.ensures ∙ ap (λ f. Some (unit_refusal c.units.unit f)) c.in-Err-Refused.fault-is ∙ ends.1)

pub returns-in-Err-OutOfMemory : goal.returns-in-Err-OutOfMemory
returns-in-Err-OutOfMemory c = put_part _ _ _ _ _ c.units.invariant.so_far

pub returns-in-Err : goal.returns-in-Err
returns-in-Err c = rw c.in-Err.ensures (put_part _ _ _ _ _ c.units.invariant.so_far)

pub units-preserved : goal.units-preserved
units-preserved c = record {
  same = c.put_text.ensures.same ∙ c.units.invariant.same;
  so_far =
      let gained = subst (λ u. Gained c.clear.new.self.items c.put_text.new.out.items (unit_text c.args.command u c.units.unit)) c.units.invariant.same c.in-Ok.ensures.text in
      put_next _ _ _ c.as_slice.result.now _ _ _ _ _ c.units.invariant.so_far
      (unit_next _ c.units.unit _ (c.count-unit-end.result - (c.units.unit + 1)) _ _ _ (omega arith) c.clear.ensures.items gained c.as_slice.ensures.value)
      c.in-Ok-put_behind.ensures;
}

pub returns : goal.returns
returns c = put_all _ _ _ _ _ None c.units.invariant.so_far (units_end _ _ _ (omega arith))
