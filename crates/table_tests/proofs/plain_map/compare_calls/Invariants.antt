use Rattle.table_tests.specs.States.{Idle}
use Rattle.table_tests.proofs.plain_map.compare_calls.Given as goal

abbrev pub invariant-loop-call : goal.invariant-loop-call
invariant-loop-call g l = Idle l.table l.pass
