use Rattle.std.proofs.Common.{◌+◌, ◌-◌}
use Rattle.map_cells.specs.Seen.{IsOf}
use Rattle.map_cells.proofs.WalkLemmas.{Upto}
use Rattle.map_cells.proofs.cells.Cells.seek_from.Given as goal

abbrev pub invariant-loop-here : goal.invariant-loop-here
invariant-loop-here g l = IsOf l.self l.pass × Upto g.F.Facts.fits l.generation l.key l.here l.initial.pass.knows l.pass.knows

abbrev pub decreases-loop-here : goal.decreases-loop-here
decreases-loop-here g l = l.last + 1 - l.here
