use Rattle.std.proofs.Common.{◌-◌}
use Rattle.map_cells.specs.Seen.{IsOf}
use Rattle.map_cells.specs.Walks.{Walks}
use Rattle.block_moves.proofs.moves.move_taken.Given as goal

abbrev pub invariant-loop-taken : goal.invariant-loop-taken
invariant-loop-taken g l = IsOf l.cells l.pass × Walks g.F.Facts.fits l.initial.pass.knows l.pass.knows

abbrev pub decreases-loop-taken : goal.decreases-loop-taken
decreases-loop-taken g l = l.blocks - l.taken
