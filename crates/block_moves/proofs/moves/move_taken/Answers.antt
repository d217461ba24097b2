use Rattle.map_core.specs.declared.view.View.{View}
use Rattle.map_cells.proofs.WalkLemmas.{walks_then}
use Rattle.block_moves.proofs.MoveLemmas.{leaves_walks}
use Rattle.block_moves.proofs.moves.move_taken.Goals as goal

pub returns-then-block-blocks-clause-walk : goal.returns-then-block-blocks-clause-walk
returns-then-block-blocks-clause-walk g c =
    let v : View = c.args.pass.now.knows in
    let u : View = c.loop-taken.pass.knows in
    let w : View = c.take_block-block.new.pass.knows in
    walks_then g.F.Facts.fits v u w c.loop-taken.invariant.1 (leaves_walks g.F.Facts.fits u w c.take_block-block.ensures.taken.leaves)

pub returns-then-not-move_block-clause-walk : goal.returns-then-not-move_block-clause-walk
returns-then-not-move_block-clause-walk g c =
    let v : View = c.args.pass.now.knows in
    let u : View = c.loop-taken.pass.knows in
    let w : View = c.take_block-block.new.pass.knows in
    walks_then g.F.Facts.fits v w c.move_block.new.pass.knows (walks_then g.F.Facts.fits v u w c.loop-taken.invariant.1 (leaves_walks g.F.Facts.fits u w c.take_block-block.ensures.taken.leaves)) c.move_block.ensures.walk

pub loop-taken-preserved : goal.loop-taken-preserved
loop-taken-preserved g c =
    let v : View = c.args.pass.now.knows in
    let u : View = c.loop-taken.pass.knows in
    let w : View = c.take_block-block.new.pass.knows in
    (c.move_block.ensures.of, walks_then g.F.Facts.fits v w c.move_block.new.pass.knows (walks_then g.F.Facts.fits v u w c.loop-taken.invariant.1 (leaves_walks g.F.Facts.fits u w c.take_block-block.ensures.taken.leaves)) c.move_block.ensures.walk)
