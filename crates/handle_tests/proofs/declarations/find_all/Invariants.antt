use Rattle.handle_cache.specs.Handles.{Belongs}
use Rattle.handle_tests.proofs.declarations.find_all.Given as goal

abbrev pub invariant-loop-first : goal.invariant-loop-first
invariant-loop-first g l = Belongs l.handle l.pass
