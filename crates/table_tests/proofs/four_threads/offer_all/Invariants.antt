use Rattle.table_tests.specs.States.{Idle}
use Rattle.table_tests.proofs.four_threads.offer_all.Given as goal

abbrev pub invariant-loop-i : goal.invariant-loop-i
invariant-loop-i l = Idle l.table l.pass
