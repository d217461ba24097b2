use Rattle.table_tests.proofs.HandLemmas.{first_cell}
use Rattle.table_tests.proofs.hand_steps.seal_key.Goals as goal

pub seal_key-requires-clause-cell : goal.seal_key-requires-clause-cell
seal_key-requires-clause-cell c = first_cell c.args.cells.now.layout c.args.index c.requires.index
