use Rattle.table_tests.proofs.HandLemmas.{first_cell}
use Rattle.table_tests.proofs.hand_steps.move_key.Goals as goal

pub value_at-requires-clause-cell : goal.value_at-requires-clause-cell
value_at-requires-clause-cell c = first_cell c.args.cells.now.layout c.args.index c.requires.index

pub seal_value-requires-clause-cell : goal.seal_value-requires-clause-cell
seal_value-requires-clause-cell c = first_cell c.args.cells.now.layout c.args.index c.requires.index
