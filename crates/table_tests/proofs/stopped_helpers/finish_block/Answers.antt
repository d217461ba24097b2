use Rattle.std.proofs.Common.{arith}
use Rattle.map_core.proofs.PlaceLemmas.{up_to_last}
use Rattle.map_core.proofs.SizeLemmas.{blocks_pos}
use Rattle.table_tests.proofs.stopped_helpers.finish_block.Goals as goal

pub move_block-requires-clause-block : goal.move_block-requires-clause-block
move_block-requires-clause-block c = (up_to_last c.args.cells.now.layout 0 (omega arith), blocks_pos 0)
