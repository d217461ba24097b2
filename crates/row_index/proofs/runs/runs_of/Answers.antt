use Rattle.std.proofs.Common.{arith, map, sym, ap, ◌∙◌, ◌<◌, length}
use Rattle.std.proofs.lemmas.List.{length-map}
use Rattle.row_index.proofs.Splitting.{told_next, unit_is}
use Rattle.row_index.proofs.runs.runs_of.Goals as goal

pub loop-unit-preserved : goal.loop-unit-preserved
loop-unit-preserved c =
    let known : c.loop-unit.unit < length (map (λ u. u.items) c.args.units.now) = omega (arith, c.loop-unit-test.true, length-map c.args.units.now (λ u. u.items)) in
    let item = unit_is (λ u. u.items) c.args.units.now c.loop-unit.unit c.index-units-unit.result c.loop-unit-test.true ∙ ap (λ u. u.items) (sym c.index-units-unit.is) ∙ sym c.deref.ensures.value in
    told_next (map (λ u. u.items) c.args.units.now) c.loop-unit.unit _ _ known (c.in_ok-add_runs.ensures (map (λ u. u.items) c.args.units.now) known item) c.loop-unit.invariant
