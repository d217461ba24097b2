use Rattle.std.proofs.Common.{◌<◌, length, map, arith, sym, ap, ◌∙◌}
use Rattle.std.proofs.lemmas.List.{length-map}
use Rattle.row_index.specs.Rows.{row_at}
use Rattle.row_index.proofs.Splitting.{unit_is}
use Rattle.row_index.proofs.Walks.{unit_tells, unit_passes}
use Rattle.row_index.proofs.walking.first_found.Goals as goal

pub returns-in-Some : goal.returns-in-Some
returns-in-Some c =
    let units = map (λ u. u.items) c.args.units.now in
    let known : c.loop-unit.unit < length (map (λ u. u.items) c.args.units.now) = omega (arith, c.loop-unit-test.true, length-map c.args.units.now (λ u. u.items)) in
    let item = unit_is (λ u. u.items) c.args.units.now c.loop-unit.unit c.index-units-unit.result c.loop-unit-test.true ∙ ap (λ u. u.items) (sym c.index-units-unit.is) ∙ sym c.deref.ensures.value in
    sym (unit_tells units c.loop-unit.unit c.in-Some.row c.args.address known (ap (λ xs. row_at xs c.args.address) item ∙ sym c.first_row.ensures ∙ c.in-Some.is)) ∙ c.loop-unit.invariant

pub loop-unit-preserved : goal.loop-unit-preserved
loop-unit-preserved c =
    let units = map (λ u. u.items) c.args.units.now in
    let known : c.loop-unit.unit < length (map (λ u. u.items) c.args.units.now) = omega (arith, c.loop-unit-test.true, length-map c.args.units.now (λ u. u.items)) in
    let item = unit_is (λ u. u.items) c.args.units.now c.loop-unit.unit c.index-units-unit.result c.loop-unit-test.true ∙ ap (λ u. u.items) (sym c.index-units-unit.is) ∙ sym c.deref.ensures.value in
    sym (unit_passes units c.loop-unit.unit c.args.address known (ap (λ xs. row_at xs c.args.address) item ∙ sym c.first_row.ensures ∙ c.in_default.is)) ∙ c.loop-unit.invariant
