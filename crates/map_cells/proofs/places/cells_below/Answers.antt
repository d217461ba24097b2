use Rattle.std.proofs.Common.{arith}
use Rattle.map_core.proofs.SizeLemmas.{next_small, cells_least, cells_shifted}
use Rattle.map_cells.proofs.places.cells_below.Goals as goal

pub overflow_sub-result : goal.overflow_sub-result
overflow_sub-result c = let e = cells_shifted c.args.generation c.requires in let low = cells_least c.args.generation in omega arith

pub returns-clause-cells : goal.returns-clause-cells
returns-clause-cells c = let e = cells_shifted c.args.generation c.requires in let low = cells_least c.args.generation in omega arith

pub returns-clause-small : goal.returns-clause-small
returns-clause-small c = let e = cells_shifted c.args.generation c.requires in let most = next_small c.args.generation c.requires in omega arith
