use Rattle.handle_cache.specs.Handles.{sections_in}
use Rattle.exercise_dumps.proofs.Refusals.{never_refused}
use Rattle.exercise_dumps.proofs.Seats.{no_steps}
use Rattle.exercise_dumps.proofs.Sums.{zero_sum}
use Rattle.exercise_dumps.proofs.once.dump_once.Goals as goal

pub unreachable-requires : goal.unreachable-requires
unreachable-requires g c =
    never_refused (sections_in c.args.handle.now) c.in-Ok-Refused.field-0 c.in-Ok-Refused.field-0-0 c.in-Ok-Refused.field-0-1 c.requires.none c.in-Ok-Refused.field-0-is c.in-Ok-Refused.ensures.dump.0

pub returns-clause-steps : goal.returns-clause-steps
returns-clause-steps g c knows =
    zero_sum c.dump.new.seats.items c.as_slice.result.now c.steps_of-steps.result c.steps_of-steps.ensures c.as_slice.ensures.value
    (no_steps (sections_in c.args.handle.now) c.args.pass c.in_ok-seats.seats.items c.dump.new.seats.items c.dump.ensures.counts c.requires.none c.in_ok-seats.ensures.fronts c.in_ok-seats.ensures.zero knows)

pub returns-clause-holds : goal.returns-clause-holds
returns-clause-holds g c =
    let s = sections_in c.args.handle.now in
    c.join_seats-pass.ensures.holds s (c.in-Ok-Whole.ensures.only c.requires.none (c.in_ok-seats.ensures.only s c.requires.only)) (c.in-Ok-Whole.ensures.noted c.requires.none)
