use Rattle.std.proofs.Common.{◌<◌, ◌≤◌, ℕ, arith}
use Rattle.map_core.specs.Sizes.{cells_of}
use Rattle.map_core.proofs.PlaceLemmas.{up_to_last}
use Rattle.table_tests.proofs.sealed_cells.seal_cells.Goals as goal

-- generation 0 has 64 cells
below_first : (i end : ℕ) → i < end → end ≤ 64 → i < cells_of 0
unfolding cells_of
below_first i end low few = let goal : i < 64 = omega arith in goal

pub seal_key-requires-clause-cell : goal.seal_key-requires-clause-cell
seal_key-requires-clause-cell c = (up_to_last c.args.cells.now.layout 0 (omega arith), below_first c.loop-index.index c.args.end c.loop-index-test.true c.requires.end)
