use Rattle.std.proofs.Common.{None, ap, option_map, sym, ◌∙◌}
use Rattle.dw_run.specs.FileRequests.{file_request_of}
use Rattle.dw_run.proofs.Ended.{ends_addresses, ends_misunderstood, ends_queried}
use Rattle.dw_run.proofs.program.answer.Goals as goal

pub returns-in-Addresses : goal.returns-in-Addresses
unfolding file_request_of
returns-in-Addresses g c = rw c.in-Addresses.is (ends_addresses _ _ c.as_slice.ensures.value _ _ _ _ _ _ _ _ _ _ _ _ _ _ c.answer_on_file-in-Addresses.ensures)

pub returns-in-Some : goal.returns-in-Some
unfolding file_request_of
returns-in-Some g c =
    rw c.in-Query.is (ends_queried _ _ (ap (option_map _) (sym c.in-Some.is) ∙ c.pick.ensures) _ _ _ _ _ _ _ _ _ _ _ _ _ _ c.answer_on_file-in-Some.ensures)

pub returns-in-None : goal.returns-in-None
unfolding file_request_of
returns-in-None g c =
    rw c.in-Query.is (ends_queried None _ (ap (option_map _) (sym c.in-None.is) ∙ c.pick.ensures) _ _ _ _ _ _ _ _ _ _ _ _ _ _
    (rw c.of.ensures.status (ends_misunderstood _ _ _ _ _ _ _ _ _ _ _ c.of.ensures.published c.end_misunderstood.ensures)))

pub returns-in-Exercise : goal.returns-in-Exercise
unfolding file_request_of
returns-in-Exercise g c = rw c.in-Exercise.is (c.answer_exercise.ensures (g.S.Source.holds c.args.source.now) (g.S.Source.faults c.args.source.now))
