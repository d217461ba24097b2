use Rattle.std.proofs.Common.{map}
use Rattle.row_index.proofs.Splitting.{Told}
use Rattle.row_index.proofs.runs.runs_of.Given as goal

abbrev pub invariant-loop-unit : goal.invariant-loop-unit
invariant-loop-unit l = Told (map (λ u. u.items) l.units) l.unit l.runs.items
