use Rattle.std.proofs.Common.{length, ◌-◌, ◌≤◌}
use Rattle.dw_text.specs.Escapes.{IsPlainFrom}
use Rattle.dw_text.proofs.escapes.plain_end.Given as goal

abbrev pub invariant-loop-end : goal.invariant-loop-end
invariant-loop-end l = record {
  begins : l.from ≤ l.end;
  within : l.end ≤ length l.text;
  plain : IsPlainFrom l.text l.from l.end;
}

abbrev pub decreases-loop-end : goal.decreases-loop-end
decreases-loop-end l = length l.text - l.end
