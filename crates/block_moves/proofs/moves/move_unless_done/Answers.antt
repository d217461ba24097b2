use Rattle.map_core.specs.declared.view.View.{View}
use Rattle.map_cells.proofs.WalkLemmas.{walks_then}
use Rattle.block_moves.proofs.MoveLemmas.{leaves_walks}
use Rattle.block_moves.proofs.moves.move_unless_done.Goals as goal

pub returns-clause-walk : goal.returns-clause-walk
returns-clause-walk g c =
    let v : View = c.args.pass.now.knows in
    let u : View = c.block_done.new.pass.knows in
    walks_then g.F.Facts.fits v u c.move_block.new.pass.knows (leaves_walks g.F.Facts.fits v u c.block_done.ensures.leaves) c.move_block.ensures.walk
