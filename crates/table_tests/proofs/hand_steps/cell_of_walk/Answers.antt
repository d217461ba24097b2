use Rattle.std.proofs.Common.{ℕ, ◌<◌, sym, subst, arith}
use Rattle.map_core.proofs.SizeLemmas.{cells_pos}
use Rattle.map_cells.proofs.WordSteps.{within_low}
use Rattle.table_tests.proofs.HandLemmas.{walk_fits, spot_is}
use Rattle.table_tests.proofs.hand_steps.cell_of_walk.Goals as goal

pub overflow_sub-home : goal.overflow_sub-home
overflow_sub-home c = let low = within_low c.args.layout.now c.args.generation c.requires.generation in omega arith

pub overflow_add-result : goal.overflow_add-result
overflow_add-result c = walk_fits c.args.generation c.args.key c.args.steps (within_low c.args.layout.now c.args.generation c.requires.generation) c.requires.steps

pub nonzero_rem-result : goal.nonzero_rem-result
nonzero_rem-result c = subst (λ (n : ℕ). 0 < n) (sym c.cells.ensures) (cells_pos c.args.generation)

pub returns : goal.returns
returns c = spot_is c.args.generation c.args.key c.args.steps c.cells.result c.cells.ensures
