use Rattle.std.proofs.Common.{◌∙◌, ◌+◌, ◌-◌, ap, sym, arith}
use Rattle.dwtool_c.specs.Answers.{done, refused_behind}
use Rattle.dwtool_c.specs.Units.{units_in}
use Rattle.dwtool_c.proofs.UnitRows.{rows_done, rows_next, rows_refused, told_same}
use Rattle.dwtool_c.proofs.units.unit_rows.Goals as goal

pub returns-in-Err : goal.returns-in-Err
returns-in-Err c =
    told_same (units_in c.args.index.now) (refused_behind c.loop-unit.rows.items c.unit_refusal.result) _ _ _
    (c.loop-unit.invariant
    ∙ rows_refused _ c.loop-unit.unit _ (c.count-unit-end.result - (c.loop-unit.unit + 1)) c.loop-unit.rows.items c.in-Err.fault (omega arith) (sym c.in-Err.ensures.header)
    ∙ ap (λ r. refused_behind c.loop-unit.rows.items r) (sym c.unit_refusal.ensures))
    c.refused_behind.ensures

pub loop-unit-preserved : goal.loop-unit-preserved
loop-unit-preserved c =
    c.loop-unit.invariant
    ∙ rows_next _ c.loop-unit.unit _ (c.count-unit-end.result - (c.loop-unit.unit + 1)) c.loop-unit.rows.items c.push_row.new.rows.items c.in-Ok.header (omega arith) (sym c.in-Ok.ensures.header) c.in_ok-push_row-in-Ok.ensures

pub returns : goal.returns
returns c =
    told_same (units_in c.args.index.now) (done c.loop-unit.rows.items) _ _ _
    (c.loop-unit.invariant ∙ rows_done _ _ _ c.loop-unit.rows.items (omega arith))
    c.done.ensures
