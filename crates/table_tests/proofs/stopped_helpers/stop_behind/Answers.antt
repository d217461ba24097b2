use Rattle.std.proofs.Common.{arith}
use Rattle.map_core.proofs.PlaceLemmas.{up_to_last}
use Rattle.table_tests.proofs.stopped_helpers.stop_behind.Goals as goal

pub take_block-requires-clause-generation : goal.take_block-requires-clause-generation
take_block-requires-clause-generation c = up_to_last c.args.cells.now.layout 0 (omega arith)
