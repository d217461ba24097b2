use Rattle.std.proofs.Common.{◌≡◌, ◌<◌, ◌≤◌, ◌-◌, List, [], length, get_or}
use Rattle.row_index.specs.declared.rows.KeptRow.{KeptRow}
use Rattle.row_index.proofs.Splitting.{SplitsTo}
use Rattle.row_index.proofs.runs.add_runs.Given as goal

abbrev pub invariant-loop-start : goal.invariant-loop-start
invariant-loop-start l = record {
  within : l.start ≤ length l.rows;
  split : (units : List (List KeptRow)) → l.unit < length units → get_or units l.unit [] ≡ l.rows → SplitsTo units l.unit l.start l.fn.runs.items l.runs.items;
}

abbrev pub decreases-loop-start : goal.decreases-loop-start
decreases-loop-start l = length l.rows - l.start
