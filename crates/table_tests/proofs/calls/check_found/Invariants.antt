use Rattle.table_tests.specs.States.{Idle}
use Rattle.table_tests.proofs.calls.check_found.Given as goal

abbrev pub invariant-loop-key : goal.invariant-loop-key
invariant-loop-key g l = Idle l.table l.pass
