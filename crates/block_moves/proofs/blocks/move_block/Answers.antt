use Rattle.std.proofs.Common.{◌≡◌, ◌*◌, ℕ, refl, subst, arith}
use Rattle.map_core.specs.declared.view.View.{View}
use Rattle.map_cells.proofs.WalkLemmas.{walks_then}
use Rattle.block_moves.proofs.MoveLemmas.{leaves_walks, BlockUpto, block_goes, block_ends}
use Rattle.block_moves.proofs.blocks.move_block.Goals as goal

pub returns-then-not-move_cell-clause-walk : goal.returns-then-not-move_cell-clause-walk
returns-then-not-move_cell-clause-walk g c = walks_then g.F.Facts.fits c.args.pass.now.knows c.loop-step.pass.knows c.move_cell.new.pass.knows c.loop-step.invariant.1.walks c.move_cell.ensures.walk

pub loop-step-preserved : goal.loop-step-preserved
loop-step-preserved g c = (
  c.move_cell.ensures.of,
  block_goes g.F.Facts.fits c.args.generation (64 * c.args.block) c.loop-step.step c.args.pass.now.knows c.loop-step.pass.knows c.move_cell.new.pass.knows c.loop-step.invariant.1 c.loop-step-test.true c.move_cell.ensures.walk c.if-not-move_cell.ensures.moved,
)

pub finish-requires-clause-moved : goal.finish-requires-clause-moved
finish-requires-clause-moved g c =
    let v : View = c.args.pass.now.knows in
    let w : View = c.loop-step.pass.knows in
    let at = c.loop-step.invariant.1 in
    let few = at.few in
    let high = c.loop-step-test.false in
    let all : c.loop-step.step ≡ 64 = omega arith in
    block_ends g.F.Facts.fits c.args.generation c.args.block (64 * c.args.block) v w refl (subst (λ (n : ℕ). BlockUpto g.F.Facts.fits c.args.generation (64 * c.args.block) n v w) all at)

pub returns-clause-walk : goal.returns-clause-walk
returns-clause-walk g c =
    let u : View = c.loop-step.pass.knows in
    walks_then g.F.Facts.fits c.args.pass.now.knows u c.finish.new.pass.knows c.loop-step.invariant.1.walks (leaves_walks g.F.Facts.fits u c.finish.new.pass.knows c.finish.ensures.finished.leaves)
