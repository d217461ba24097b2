use Rattle.std.proofs.Common.{◌-◌, ◌≤◌, ◌≡◌, ℕ, List, vec_len}
use Rattle.dw_outside.proofs.Pieces.{IsFront}
use Rattle.dw_outside.proofs.whole.read_file.Given as goal

abbrev pub invariant-pieces : goal.invariant-pieces
invariant-pieces g l = record {
  within : vec_len l.file ≤ l.end;
  front : IsFront (g.S.Source.holds l.fn.source l.name) l.file.items;
  same : (other : List ℕ) → g.S.Source.holds l.source other ≡ g.S.Source.holds l.fn.source other;
  later : g.S.Source.faults l.fn.source ≤ g.S.Source.faults l.source;
}

abbrev pub decreases-pieces : goal.decreases-pieces
decreases-pieces g l = l.end - vec_len l.file
