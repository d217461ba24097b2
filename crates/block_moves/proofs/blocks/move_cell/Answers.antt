use Rattle.map_core.specs.declared.view.View.{View}
use Rattle.map_cells.proofs.WalkLemmas.{walks_then}
use Rattle.block_moves.proofs.MoveLemmas.{current_on, moved_sealed, moved_closed}
use Rattle.block_moves.proofs.blocks.move_cell.Goals as goal

pub returns-in-None-clause-moved : goal.returns-in-None-clause-moved
returns-in-None-clause-moved g c = moved_sealed g.F.Facts.fits c.args.cell.generation c.args.cell.index c.key_or_seal.new.pass.knows c.in-None.ensures.none

pub value_or_seal-requires-clause-current : goal.value_or_seal-requires-clause-current
value_or_seal-requires-clause-current g c =
    let v : View = c.args.pass.now.knows in
    let u : View = c.key_or_seal.new.pass.knows in
    current_on c.args.cell.generation v u c.key_or_seal.ensures.walk.looks.steps c.requires.current

pub returns-in-None-value_or_seal-clause-walk : goal.returns-in-None-value_or_seal-clause-walk
returns-in-None-value_or_seal-clause-walk g c =
    let v : View = c.args.pass.now.knows in
    let u : View = c.key_or_seal.new.pass.knows in
    walks_then g.F.Facts.fits v u c.value_or_seal.new.pass.knows c.key_or_seal.ensures.walk c.value_or_seal.ensures.walk

pub returns-in-None-value_or_seal-clause-moved : goal.returns-in-None-value_or_seal-clause-moved
returns-in-None-value_or_seal-clause-moved g c = moved_closed g.F.Facts.fits c.args.cell.generation c.args.cell.index c.in-Some.key c.value_or_seal.new.pass.knows c.value_or_seal.ensures.key c.in-None-value_or_seal.ensures.none

pub carry-requires-clause-current : goal.carry-requires-clause-current
carry-requires-clause-current g c =
    let v : View = c.args.pass.now.knows in
    let u : View = c.key_or_seal.new.pass.knows in
    current_on c.args.cell.generation u c.value_or_seal.new.pass.knows c.value_or_seal.ensures.walk.looks.steps (current_on c.args.cell.generation v u c.key_or_seal.ensures.walk.looks.steps c.requires.current)

pub carry-requires-clause-free : goal.carry-requires-clause-free
carry-requires-clause-free g c = c.value_or_seal.ensures.walk.claim (c.key_or_seal.ensures.walk.claim c.requires.free)

pub returns-in-Some-value_or_seal-clause-walk : goal.returns-in-Some-value_or_seal-clause-walk
returns-in-Some-value_or_seal-clause-walk g c =
    let v : View = c.args.pass.now.knows in
    let u : View = c.key_or_seal.new.pass.knows in
    walks_then g.F.Facts.fits v c.value_or_seal.new.pass.knows c.carry.new.pass.knows (walks_then g.F.Facts.fits v u c.value_or_seal.new.pass.knows c.key_or_seal.ensures.walk c.value_or_seal.ensures.walk) c.carry.ensures.walk
