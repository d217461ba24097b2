use Rattle.handle_cache.specs.Handles.{Belongs}
use Rattle.handle_tests.proofs.declarations.find_from.Given as goal

abbrev pub invariant-loop-code : goal.invariant-loop-code
invariant-loop-code g l = Belongs l.handle l.pass
