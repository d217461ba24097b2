use Rattle.std.proofs.Common.{◌+◌, ◌-◌, ◌%◌, ◌++◌, ◌≡◌, ◌≤◌, drop, ◌<◌, ◌^◌, length}
use Rattle.dw_text.specs.Numbers.{hex}
use Rattle.dw_text.proofs.Fill.{onto}
use Rattle.dw_text.proofs.digits.fill_hex.Given as goal

-- the digits of what is left, before those that stand, are the number's
abbrev pub invariant-loop-rest : goal.invariant-loop-rest
invariant-loop-rest l = record {
  some : l.end < l.first + 16;
  even : (l.first + 16 - l.end) % 2 ≡ 0;
  within : l.first ≤ l.end;
  long : l.end ≤ length l.into;
  small : l.rest < 16 ^ (l.first + 16 - l.end);
  text : onto (48 + (l.first + 16 - l.end)) l.rest (drop l.first l.into) ≡ hex l.number ++ drop l.end l.fn.into;
}

abbrev pub decreases-loop-rest : goal.decreases-loop-rest
decreases-loop-rest l = l.rest
