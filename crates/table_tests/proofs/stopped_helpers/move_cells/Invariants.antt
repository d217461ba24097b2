use Rattle.table_tests.specs.States.{SeesFirst}
use Rattle.table_tests.proofs.stopped_helpers.move_cells.Given as goal

abbrev pub invariant-loop-index : goal.invariant-loop-index
invariant-loop-index l = SeesFirst l.cells l.pass
