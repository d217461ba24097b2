use Rattle.std.proofs.Common.{◌≡◌, ◌-◌, ◌^◌, min, sum_by, take}
use Rattle.dump_workers.specs.Seats.{DumpSeatView}
use Rattle.exercise_dumps.proofs.steps.steps_of.Given as goal

abbrev pub invariant-loop-seat : goal.invariant-loop-seat
invariant-loop-seat l = l.sum ≡ min (sum_by (λ (seat : DumpSeatView). seat.steps) (take l.seat-index l.seats)) (2 ^ 64 - 1)
