use Rattle.std.proofs.Common.{arith}
use Rattle.map_cells.proofs.WordSteps.{last_low, words_are}
use Rattle.map_cells.proofs.places.count_words.Goals as goal

pub overflow_add-layout : goal.overflow_add-layout
overflow_add-layout c = let low = last_low c.args.layout.now in omega arith

pub cells_below-cells-requires : goal.cells_below-cells-requires
cells_below-cells-requires c = let low = last_low c.args.layout.now in omega arith

pub returns : goal.returns
returns c = words_are c.args.layout.now c.cells_below-cells.result c.cells_below-cells.ensures.cells
