use Rattle.std.proofs.Common.{sym, subst}
use Rattle.map_cells.specs.Seen.{CellsView, IsOf}
use Rattle.table_tests.proofs.sealed_cells.call_help.Goals as goal

pub help-requires-clause-of : goal.help-requires-clause-of
help-requires-clause-of c = subst (λ (x : CellsView). IsOf x c.args.pass.now) (sym c.cells-cells.ensures) c.requires.of_table

pub returns : goal.returns
returns c = record { of_table = subst (λ (x : CellsView). IsOf x c.help.new.pass) c.cells-cells.ensures c.help.ensures.of; rest = c.help.ensures.rest }
