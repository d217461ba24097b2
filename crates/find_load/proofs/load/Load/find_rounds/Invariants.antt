use Rattle.handle_cache.specs.Handles.{Belongs}
use Rattle.find_load.proofs.load.Load.find_rounds.Given as goal

abbrev pub invariant-rounds : goal.invariant-rounds
invariant-rounds g l = Belongs l.handle l.pass
