use Rattle.std.proofs.Common.{sym, subst}
use Rattle.map_cells.specs.Seen.{CellsView}
use Rattle.table_tests.specs.States.{Idle}
use Rattle.table_tests.proofs.calls.cells_for.Goals as goal

pub returns : goal.returns
returns c = subst (λ (x : CellsView). Idle x c.args.pass.now) (sym c.cells.ensures) c.requires
