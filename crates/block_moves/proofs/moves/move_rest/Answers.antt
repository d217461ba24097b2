use Rattle.map_cells.proofs.WalkLemmas.{walks_then}
use Rattle.block_moves.proofs.MoveLemmas.{blocks_go}
use Rattle.block_moves.proofs.moves.move_rest.Goals as goal

pub returns-then-not-move_unless_done-clause-walk : goal.returns-then-not-move_unless_done-clause-walk
returns-then-not-move_unless_done-clause-walk g c = walks_then g.F.Facts.fits c.args.pass.now.knows c.loop-block.pass.knows c.move_unless_done.new.pass.knows c.loop-block.invariant.1.walks c.move_unless_done.ensures.walk

pub loop-block-preserved : goal.loop-block-preserved
loop-block-preserved g c = (
  c.move_unless_done.ensures.of,
  blocks_go g.F.Facts.fits c.args.generation c.loop-block.block c.args.pass.now.knows c.loop-block.pass.knows c.move_unless_done.new.pass.knows c.loop-block.invariant.1 c.move_unless_done.ensures.walk c.if-not-move_unless_done.ensures.finished,
)
