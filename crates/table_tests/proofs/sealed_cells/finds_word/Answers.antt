use Rattle.std.proofs.Common.{sym, subst}
use Rattle.map_cells.specs.Seen.{CellsView}
use Rattle.table_tests.specs.States.{Idle}
use Rattle.table_tests.proofs.sealed_cells.finds_word.Goals as goal

pub word_before-requires : goal.word_before-requires
word_before-requires c = subst (λ (x : CellsView). Idle x c.args.pass.now) (sym c.cells-cells.ensures) c.requires

pub returns : goal.returns
returns c = subst (λ (x : CellsView). Idle x c.word_before.new.pass) c.cells-cells.ensures c.word_before.ensures
