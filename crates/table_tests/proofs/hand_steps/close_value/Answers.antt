use Rattle.table_tests.proofs.HandLemmas.{first_cell}
use Rattle.table_tests.proofs.hand_steps.close_value.Goals as goal

pub key_at-requires-clause-cell : goal.key_at-requires-clause-cell
key_at-requires-clause-cell c = first_cell c.args.cells.now.layout c.args.index c.requires.index

pub seal_value-requires-clause-cell : goal.seal_value-requires-clause-cell
seal_value-requires-clause-cell c = first_cell c.args.cells.now.layout c.args.index c.requires.index
