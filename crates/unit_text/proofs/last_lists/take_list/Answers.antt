use Rattle.std.proofs.Common.{sym}
use Rattle.unit_text.proofs.ListContexts.{same_context}
use Rattle.unit_text.proofs.last_lists.take_list.Goals as goal

pub returns-then-eq-clause-context : goal.returns-then-eq-clause-context
returns-then-eq-clause-context g c = same_context c.in-Some.list.context c.args.context.now (sym c.if-eq.ensures)
