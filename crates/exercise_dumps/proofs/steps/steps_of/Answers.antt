use Rattle.std.proofs.Common.{ap, ◌∙◌}
use Rattle.dump_workers.specs.Seats.{DumpSeatView}
use Rattle.exercise_dumps.proofs.Sums.{steps_end, steps_next}
use Rattle.exercise_dumps.proofs.steps.steps_of.Goals as goal

pub loop-seat-preserved : goal.loop-seat-preserved
loop-seat-preserved c =
    steps_next c.args.seats.now c.loop-seat.seat-index c.loop-seat.sum c.count.result c.saturating_add-sum.result c.seat-item.result c.loop-seat-test.true c.seat-item.is
    (c.count.ensures ∙ ap (λ (v : DumpSeatView). v.steps) c.seat.view_is) c.loop-seat.invariant c.saturating_add-sum.ensures

pub returns : goal.returns
returns c = steps_end c.args.seats.now c.loop-seat.seat-index c.loop-seat.sum c.loop-seat-test.false c.loop-seat.invariant
