use Rattle.std.proofs.Common.{arith}
use Rattle.std.proofs.lemmas.Grind.{common_steps}
use Rattle.dw_fields.proofs.leb128.last_group.Goals as goal

pub returns-in-len1-up-clause-fits : goal.returns-in-len1-up-clause-fits
returns-in-len1-up-clause-fits c = λ k d h. grind (arith, common_steps, c.type_inv.bytes k)
