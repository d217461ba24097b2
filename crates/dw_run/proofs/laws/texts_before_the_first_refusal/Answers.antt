use Rattle.dw_run.proofs.FirstRefusalLaws.{texts_only}
use Rattle.dw_run.proofs.laws.texts_before_the_first_refusal.Goals as goal

pub returns-clause-only : goal.returns-clause-only
returns-clause-only c = texts_only
