use Rattle.std.proofs.Common.{◌-◌}
use Rattle.map_cells.specs.Seen.{IsOf}
use Rattle.block_moves.proofs.MoveLemmas.{BlockUpto}
use Rattle.block_moves.proofs.blocks.move_block.Given as goal

abbrev pub invariant-loop-step : goal.invariant-loop-step
invariant-loop-step g l = IsOf l.cells l.pass × BlockUpto g.F.Facts.fits l.generation l.start l.step l.initial.pass.knows l.pass.knows

abbrev pub decreases-loop-step : goal.decreases-loop-step
decreases-loop-step g l = 64 - l.step
