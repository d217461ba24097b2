use Rattle.std.proofs.Common.{◌≡◌, ◌≤◌, length, drop}
use Rattle.dw_fields.specs.Leb.{leb_sum}
use Rattle.dw_fields.proofs.leb128.long_unsigned_value.Given as goal

abbrev pub invariant-groups : goal.invariant-groups
invariant-groups l = (l.left ≤ length l.groups) × (l.value ≡ leb_sum (drop l.left l.groups))

abbrev pub decreases-groups : goal.decreases-groups
decreases-groups l = l.left
