use Rattle.std.proofs.Common.{arith}
use Rattle.map_core.proofs.SizeLemmas.{last_small, cells_shifted}
use Rattle.map_core.proofs.layout.Layout.cells.Goals as goal

pub overflow_shl-result : goal.overflow_shl-result
overflow_shl-result c = let l = c.args.self.now in omega (arith, last_small _ _ _ l.capacity_fits.1 l.passes_fit.1 l.last_fits)

pub returns : goal.returns
returns c = let l = c.args.self.now in cells_shifted c.args.generation (omega (arith, last_small _ _ _ l.capacity_fits.1 l.passes_fit.1 l.last_fits))
