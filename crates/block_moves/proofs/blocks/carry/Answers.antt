use Rattle.std.proofs.Common.{ℕ, ◌+◌, arith}
use Rattle.map_core.specs.declared.view.View.{View}
use Rattle.map_core.proofs.PlaceLemmas.{up_to_last}
use Rattle.map_cells.proofs.WordSteps.{last_low}
use Rattle.map_cells.proofs.StepFacts.{cell_there}
use Rattle.block_moves.proofs.MoveLemmas.{may_carry, placed_walks, placed_moved, found_moved}
use Rattle.block_moves.proofs.blocks.carry.Goals as goal

pub overflow_add-cell : goal.overflow_add-cell
overflow_add-cell g c = let low = last_low c.args.cells.now.layout in let below = c.requires.below in omega arith

pub put_from-requires-clause-generation : goal.put_from-requires-clause-generation
put_from-requires-clause-generation g c = let below = c.requires.below in up_to_last c.args.cells.now.layout (c.args.cell.generation + 1) (omega arith)

pub put_from-requires-clause-key : goal.put_from-requires-clause-key
put_from-requires-clause-key g c = c.requires.key.word

pub put_from-requires-clause-value : goal.put_from-requires-clause-value
put_from-requires-clause-value g c = c.requires.value.word

pub put_from-requires-clause-may : goal.put_from-requires-clause-may
put_from-requires-clause-may g c =
    let v : View = c.args.pass.now.knows in
    let at : ℕ = c.args.cell.generation in
    let i : ℕ = c.args.cell.index in
    let a = cell_there v.layout c.args.cells.now.layout at i c.requires.of.layout c.requires.cell in
    may_carry g.F.Facts.fits at i c.args.key c.args.value v a c.requires.current c.requires.key c.requires.value

pub returns-in-Placed-clause-walk : goal.returns-in-Placed-clause-walk
returns-in-Placed-clause-walk g c =
    let v : View = c.args.pass.now.knows in
    let w : View = c.put_from.new.pass.knows in
    let at : ℕ = c.args.cell.generation in
    let i : ℕ = c.args.cell.index in
    let a = cell_there v.layout c.args.cells.now.layout at i c.requires.of.layout c.requires.cell in
    placed_walks g.F.Facts.fits at i c.args.key c.args.value v w a c.requires.key c.requires.value c.in-Placed.ensures.put

pub returns-in-Placed-clause-moved : goal.returns-in-Placed-clause-moved
returns-in-Placed-clause-moved g c =
    let v : View = c.args.pass.now.knows in
    let w : View = c.put_from.new.pass.knows in
    let at : ℕ = c.args.cell.generation in
    let i : ℕ = c.args.cell.index in
    let a = cell_there v.layout c.args.cells.now.layout at i c.requires.of.layout c.requires.cell in
    placed_moved g.F.Facts.fits at i c.args.key c.args.value v w a c.requires.key c.requires.value c.in-Placed.ensures.put

pub returns-in-Found-clause-walk : goal.returns-in-Found-clause-walk
returns-in-Found-clause-walk g c = c.in-Found.ensures.put.walks

pub returns-in-Found-clause-moved : goal.returns-in-Found-clause-moved
returns-in-Found-clause-moved g c =
    let v : View = c.args.pass.now.knows in
    let w : View = c.put_from.new.pass.knows in
    let at : ℕ = c.args.cell.generation in
    let i : ℕ = c.args.cell.index in
    let a = cell_there v.layout c.args.cells.now.layout at i c.requires.of.layout c.requires.cell in
    found_moved g.F.Facts.fits at i c.args.key c.args.value v w a c.requires.key c.requires.value c.in-Found._found c.in-Found.ensures.put

pub returns-in-Exhausted-clause-walk : goal.returns-in-Exhausted-clause-walk
returns-in-Exhausted-clause-walk g c = c.in-Exhausted.ensures.put.walks

pub returns-in-Exhausted-clause-moved : goal.returns-in-Exhausted-clause-moved
returns-in-Exhausted-clause-moved g c = c.in-Exhausted.ensures.put.full
