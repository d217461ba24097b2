use Rattle.std.proofs.Common.{◌≡◌, ◌++◌, map, drop}
use Rattle.row_index.specs.Runs.{AreRunsOf, interval_of, rows_of}
use Rattle.row_index.proofs.runs.intervals_of.Given as goal

abbrev pub invariant-loop-run : goal.invariant-loop-run
invariant-loop-run l = record {
  runs : AreRunsOf (map (λ u. u.items) l.units) (drop l.run-index l.runs);
  built : l.intervals.items ++ map (λ run. interval_of (rows_of (map (λ u. u.items) l.units) run)) (drop l.run-index l.runs)
      ≡ map (λ run. interval_of (rows_of (map (λ u. u.items) l.units) run)) l.runs;
}
