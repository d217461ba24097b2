use Rattle.dw_run.proofs.Ended.{ends_complete}
use Rattle.dw_run.proofs.program.run.Goals as goal

pub returns-clause-complete : goal.returns-clause-complete
returns-clause-complete g c = ends_complete _ _ _ _ _ _ _ _ _ _ _ _ _ _ c.answer_words.ensures
