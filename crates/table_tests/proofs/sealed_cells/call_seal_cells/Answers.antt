use Rattle.std.proofs.Common.{sym, subst}
use Rattle.map_cells.specs.Seen.{CellsView, IsOf}
use Rattle.table_tests.proofs.sealed_cells.call_seal_cells.Goals as goal

pub seal_cells-requires-clause-of : goal.seal_cells-requires-clause-of
seal_cells-requires-clause-of g c = subst (λ (x : CellsView). IsOf x c.args.pass.now) (sym c.cells-cells.ensures) c.requires.of_table

pub returns : goal.returns
returns g c = record { of_table = subst (λ (x : CellsView). IsOf x c.seal_cells.new.pass) c.cells-cells.ensures c.seal_cells.ensures.of; rest = c.seal_cells.ensures.rest }
