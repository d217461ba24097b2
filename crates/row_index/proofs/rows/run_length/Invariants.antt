use Rattle.std.proofs.Common.{take}
use Rattle.row_index.specs.Runs.{Rises}
use Rattle.row_index.proofs.rows.run_length.Given as goal

abbrev pub invariant-loop-place : goal.invariant-loop-place
invariant-loop-place l = Rises (take l.place l.rows)
