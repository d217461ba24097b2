use Rattle.std.proofs.Common.{◌≡◌, ◌+◌, ◌-◌, ◌≤◌, true}
use Rattle.dw_text.specs.Escapes.{IsPlainFrom}
use Rattle.dw_text.proofs.escapes.are_plain.Given as goal

abbrev pub invariant-loop-count : goal.invariant-loop-count
invariant-loop-count l = record {
  within : l.count ≤ 16;
  plain : l.plain ≡ true → IsPlainFrom l.text l.from (l.from + l.count);
}

abbrev pub decreases-loop-count : goal.decreases-loop-count
decreases-loop-count l = 16 - l.count
