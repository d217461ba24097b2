use Rattle.dw_run.proofs.Ended.{ends_done, ends_refused}
use Rattle.dw_run.proofs.dump.dump_and_end.Goals as goal

pub returns-in-Ok-Whole-clause-ends : goal.returns-in-Ok-Whole-clause-ends
returns-in-Ok-Whole-clause-ends g c =
    let printed = rw c.in-Ok-Whole.field-0-is at c.in-Ok-Whole.ensures.printed in
    ends_done _ _ _ _ _ _ _ printed.0 printed.1 c.dump_file.ensures.cause.later

pub returns-in-Ok-Refused-clause-ends : goal.returns-in-Ok-Refused-clause-ends
returns-in-Ok-Refused-clause-ends g c =
    let printed = rw c.in-Ok-Refused.field-0-is at c.in-Ok-Refused.ensures.printed in
    rw c.of.ensures.status
    (ends_refused _ c.in-Ok-Refused.refusal _ _ _ _ _ _ _ _ _ printed.0 printed.1 c.dump_file.ensures.cause.later c.end_refused.ensures)
