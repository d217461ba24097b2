use Rattle.std.proofs.Common.{arith, ◌-◌}
use Rattle.dw_fields.proofs.LebSums.{leb_too_large}
use Rattle.dw_fields.proofs.leb128.long_unsigned_value.Goals as goal

pub returns-then-value : goal.returns-then-value
returns-then-value c = leb_too_large c.args.groups.now c.groups.left (c.groups.left - 1) c.groups.value (omega arith) (omega arith) (omega arith) (omega arith) (omega arith)
