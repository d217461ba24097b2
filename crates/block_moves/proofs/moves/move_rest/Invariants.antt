use Rattle.std.proofs.Common.{◌-◌}
use Rattle.map_cells.specs.Seen.{IsOf}
use Rattle.block_moves.proofs.MoveLemmas.{BlocksUpto}
use Rattle.block_moves.proofs.moves.move_rest.Given as goal

abbrev pub invariant-loop-block : goal.invariant-loop-block
invariant-loop-block g l = IsOf l.cells l.pass × BlocksUpto g.F.Facts.fits l.generation l.block l.initial.pass.knows l.pass.knows

abbrev pub decreases-loop-block : goal.decreases-loop-block
decreases-loop-block g l = l.blocks - l.block
