use Rattle.std.proofs.Common.{arith, sym, ◌∙◌}
use Rattle.row_index.proofs.Bisected.{interval_is}
use Rattle.row_index.proofs.rows.interval_of.Goals as goal

pub returns-else-is_empty : goal.returns-else-is_empty
returns-else-is_empty c = interval_is c.args.rows.now _ _ (grind (arith, sym c.is_empty.ensures ∙ c.if-is_empty.false))
