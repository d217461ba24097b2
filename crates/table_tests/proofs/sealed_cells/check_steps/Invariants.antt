use Rattle.table_tests.specs.States.{Idle}
use Rattle.table_tests.proofs.sealed_cells.check_steps.Given as goal

abbrev pub invariant-loop-number : goal.invariant-loop-number
invariant-loop-number g l = Idle l.table l.pass
