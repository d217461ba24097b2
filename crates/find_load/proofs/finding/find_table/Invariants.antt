use Rattle.handle_cache.specs.Handles.{Belongs}
use Rattle.find_load.proofs.finding.find_table.Given as goal

abbrev pub invariant-loop-before : goal.invariant-loop-before
invariant-loop-before l = Belongs l.handle l.pass
