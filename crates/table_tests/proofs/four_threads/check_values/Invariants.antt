use Rattle.table_tests.specs.States.{Idle}
use Rattle.table_tests.proofs.four_threads.check_values.Given as goal

abbrev pub invariant-loop-i : goal.invariant-loop-i
invariant-loop-i g l = Idle l.table l.pass
