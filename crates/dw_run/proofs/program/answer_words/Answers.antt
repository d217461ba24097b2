use Rattle.dw_run.proofs.Ended.{ends_misunderstood, ends_without_memory}
use Rattle.dw_run.proofs.program.answer_words.Goals as goal

pub returns-in-Ok : goal.returns-in-Ok
returns-in-Ok g c = rw c.in-Ok.ensures.request c.answer.ensures

pub returns-in-Err-NoMeaning : goal.returns-in-Err-NoMeaning
returns-in-Err-NoMeaning g c = let none = rw c.in-Err-NoMeaning.field-0-is at c.in-Err-NoMeaning.ensures.request in rw none (rw c.of.ensures.status (ends_misunderstood _ _ _ _ _ _ _ _ _ _ _ c.of.ensures.published c.end_misunderstood.ensures))

pub returns : goal.returns
returns g c = rw c.of-in-Err-OutOfMemory.ensures.status (ends_without_memory _ _ _ _ _ _ _ _ _ _ _ _ c.of-in-Err-OutOfMemory.ensures.published c.end_with.ensures)
