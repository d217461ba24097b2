use Rattle.map_core.specs.Passes.{AtRest}
use Rattle.map_cells.specs.Seen.{IsOf}
use Rattle.table_tests.proofs.sealed_cells.seal_cells.Given as goal

abbrev pub invariant-loop-index : goal.invariant-loop-index
invariant-loop-index l = IsOf l.cells l.pass × AtRest l.pass.knows
