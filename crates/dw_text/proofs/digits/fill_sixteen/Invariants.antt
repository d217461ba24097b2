use Rattle.std.proofs.Common.{◌≡◌, ◌≤◌, drop, ◌++◌, length}
use Rattle.dw_text.specs.Numbers.{last_digits, sixteen}
use Rattle.dw_text.proofs.digits.fill_sixteen.Given as goal

abbrev pub invariant-loop-first : goal.invariant-loop-first
invariant-loop-first l = record {
  within : l.first ≤ 16;
  long : length l.into ≡ 16;
  text : last_digits l.first l.rest ++ drop l.first l.into ≡ sixteen l.number;
}

abbrev pub decreases-loop-first : goal.decreases-loop-first
decreases-loop-first l = l.first
