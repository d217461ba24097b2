use Rattle.std.proofs.Common.{◌<◌, ◌≤◌, ℕ, arith, sym, subst}
use Rattle.map_core.specs.Sizes.{cells_of}
use Rattle.map_core.specs.Places.{word_count}
use Rattle.map_core.proofs.SizeLemmas.{cells_small}
use Rattle.map_cells.proofs.WordSteps.{within_low, key_within, key_word_is}
use Rattle.map_cells.proofs.places.key_word.Goals as goal

pub cells_below-requires : goal.cells_below-requires
cells_below-requires c = let low = within_low c.args.layout.now c.args.cell.generation c.requires.0 in omega arith

-- the index is below the generation's cells
low : (l : _) (g i : ℕ) → Rattle.map_core.specs.Places.IsCell l g i → i < 8388608
low l g i a = let n : ℕ = cells_of g in let most : n ≤ 8388608 = cells_small g (within_low l g a.0) in let small : i < n = a.1 in omega arith

pub overflow_add-result : goal.overflow_add-result
overflow_add-result c = let a = low c.args.layout.now c.args.cell.generation c.args.cell.index c.requires in let b = c.cells_below.ensures.small in omega arith

pub overflow_mul-result : goal.overflow_mul-result
overflow_mul-result c = let a = low c.args.layout.now c.args.cell.generation c.args.cell.index c.requires in let b = c.cells_below.ensures.small in omega arith

pub overflow_add-result-2 : goal.overflow_add-result-2
overflow_add-result-2 c = let a = low c.args.layout.now c.args.cell.generation c.args.cell.index c.requires in let b = c.cells_below.ensures.small in omega arith

pub returns-clause-place : goal.returns-clause-place
returns-clause-place c = key_word_is c.args.layout.now c.args.cell.generation c.args.cell.index c.cells_below.result c.cells_below.ensures.cells

pub returns-clause-within : goal.returns-clause-within
returns-clause-within c = subst (λ (n : ℕ). n < word_count c.args.layout.now) (sym (returns-clause-place c)) (key_within c.args.layout.now c.args.cell.generation c.args.cell.index c.requires)
