use Rattle.std.proofs.Common.{Err, ap, ◌∙◌}
use Rattle.dw_outside.specs.declared.stops.ReadStop.{ReadStop}
use Rattle.dw_run.specs.Output.{tells_of_file}
use Rattle.dw_run.proofs.Ended.{ends_before, ends_on_file, told_none}
use Rattle.dw_run.proofs.file_command.answer_on_file.Goals as goal

pub returns-in-Ok : goal.returns-in-Ok
unfolding tells_of_file
returns-in-Ok g c =
    rw c.of.ensures.status
    (ends_on_file _ _ _ _ _ _ _ _ _ _ _ _ _ _ _ _ _ _ c.as_slice.ensures.value c.in-Ok.ensures.whole c.print_and_end.ensures (c.of.ensures.published ∙ told_none _))

pub returns-in-Err : goal.returns-in-Err
returns-in-Err g c =
    rw c.of-in-Err.ensures.status
    (ends_before _ _ _ _ _ _ _ _ _ _ _ _ _ c.of-in-Err.ensures.published (λ is. c.in-Err.ensures.cause.rose (ap (λ (e : ReadStop). Err e) is)) c.end_unread.ensures)
