use Rattle.map_core.specs.declared.view.View.{View}
use Rattle.map_cells.proofs.WalkLemmas.{walks_then, walks_rise, rises_then}
use Rattle.block_moves.proofs.moves.move_generation.Goals as goal

pub returns-then-not-move_rest-clause-rises : goal.returns-then-not-move_rest-clause-rises
returns-then-not-move_rest-clause-rises g c =
    let v : View = c.args.pass.now.knows in
    let u : View = c.move_taken.new.pass.knows in
    let w : View = c.move_rest.new.pass.knows in
    walks_rise g.F.Facts.fits v w (walks_then g.F.Facts.fits v u w c.move_taken.ensures.walk c.move_rest.ensures.walk)

pub returns-clause-rises : goal.returns-clause-rises
returns-clause-rises g c =
    let v : View = c.args.pass.now.knows in
    let u : View = c.move_taken.new.pass.knows in
    let w : View = c.move_rest.new.pass.knows in
    rises_then v w c.switch.new.pass.knows (walks_rise g.F.Facts.fits v w (walks_then g.F.Facts.fits v u w c.move_taken.ensures.walk c.move_rest.ensures.walk)) c.switch.ensures.switched.seen.rises
