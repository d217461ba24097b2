use Rattle.std.proofs.Common.{Err, ap}
use Rattle.dw_outside.specs.declared.stops.WriteStop.{WriteStop}
use Rattle.dw_run.proofs.Ended.{ends_done, ends_refused, ends_stopped}
use Rattle.dw_run.proofs.file_command.print_and_end.Goals as goal

pub returns-in-Ok-None : goal.returns-in-Ok-None
returns-in-Ok-None g c =
    let printed = rw c.in-Ok-None.field-0-is at c.in-Ok-None.ensures.printed in
    ends_done _ _ _ _ _ _ _ printed.0 printed.1 c.print.ensures.cause.later

pub returns-in-Ok-Some : goal.returns-in-Ok-Some
returns-in-Ok-Some g c =
    let printed = rw c.in-Ok-Some.field-0-is at c.in-Ok-Some.ensures.printed in
    ends_refused _ c.in-Ok-Some.refusal _ _ _ _ _ _ _ _ _ printed.0 printed.1 c.print.ensures.cause.later c.end_refused.ensures

pub returns-in-Err : goal.returns-in-Err
returns-in-Err g c =
    ends_stopped _ c.in-Err.stop _ _ _ _ _ _ _ _ _ c.in-Err.ensures.printed c.print.ensures.cause.later
    (λ is. c.in-Err.ensures.cause.rose (ap (λ (e : WriteStop). Err e) is)) c.end_stopped.ensures
