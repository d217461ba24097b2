use Rattle.dw_run.proofs.Ended.{ends_on_file}
use Rattle.dw_run.proofs.dump.answer_dump.Goals as goal

pub returns-in-Ok : goal.returns-in-Ok
returns-in-Ok g c =
    ends_on_file _ _ _ _ _ _ _ _ _ _ _ _ _ _ _ _ _ _ c.as_slice.ensures.value c.in-Ok.ensures.whole c.dump_and_end.ensures.ends c.dump_and_end.ensures.told
