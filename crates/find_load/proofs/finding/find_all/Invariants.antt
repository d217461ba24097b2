use Rattle.handle_cache.specs.Handles.{Belongs}
use Rattle.find_load.proofs.finding.find_all.Given as goal

abbrev pub invariant-loop-table : goal.invariant-loop-table
invariant-loop-table l = Belongs l.handle l.pass
