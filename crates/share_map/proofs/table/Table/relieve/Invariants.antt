use Rattle.std.proofs.Common.{◌≡◌, ◌-◌}
use Rattle.map_core.specs.Passes.{AtRest, PassFacts}
use Rattle.map_cells.specs.Seen.{IsOf}
use Rattle.map_cells.specs.Steps.{Rises}
use Rattle.share_map.proofs.table.Table.relieve.Given as goal

abbrev pub invariant-loop : goal.invariant-loop
invariant-loop g l = IsOf l.self l.pass × (l.pass.table ≡ l.initial.pass.table) × AtRest l.pass.knows × Rises l.initial.pass.knows l.pass.knows × PassFacts g.F.Facts.fits l.pass.knows

abbrev pub decreases-loop : goal.decreases-loop
decreases-loop g l = l.self.layout.last - l.pass.knows.generation
