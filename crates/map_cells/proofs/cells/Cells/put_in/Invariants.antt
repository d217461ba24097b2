use Rattle.std.proofs.Common.{◌-◌}
use Rattle.map_cells.specs.Seen.{IsOf}
use Rattle.map_cells.proofs.WalkLemmas.{Walked}
use Rattle.map_cells.proofs.cells.Cells.put_in.Given as goal

abbrev pub invariant-loop-steps : goal.invariant-loop-steps
invariant-loop-steps g l = IsOf l.self l.pass × Walked g.F.Facts.fits l.generation l.key l.steps l.index l.initial.pass.knows l.pass.knows

abbrev pub decreases-loop-steps : goal.decreases-loop-steps
decreases-loop-steps g l = l.cells - l.steps
