use Rattle.std.proofs.Common.{◌<◌, ℕ, arith, sym, subst}
use Rattle.map_core.specs.Places.{word_count}
use Rattle.map_core.proofs.PlaceLemmas.{block_within}
use Rattle.map_cells.proofs.WordSteps.{last_low, within_low, finish_word_is}
use Rattle.map_cells.proofs.places.finish_word.Goals as goal

pub cells_below-blocks_below-requires : goal.cells_below-blocks_below-requires
cells_below-blocks_below-requires c = let low = within_low c.args.layout.now c.args.generation c.requires.0 in omega arith

pub overflow_add-layout : goal.overflow_add-layout
overflow_add-layout c = let low = last_low c.args.layout.now in omega arith

pub cells_below-requires : goal.cells_below-requires
cells_below-requires c = let low = last_low c.args.layout.now in omega arith

pub returns-clause-place : goal.returns-clause-place
returns-clause-place c = finish_word_is c.args.layout.now c.args.generation c.args.block c.cells_below-blocks_below.result c.cells_below.result c.cells_below-blocks_below.ensures.cells c.cells_below.ensures.cells

pub returns-clause-within : goal.returns-clause-within
returns-clause-within c = subst (λ (n : ℕ). n < word_count c.args.layout.now) (sym (returns-clause-place c)) (block_within c.args.layout.now c.args.generation c.args.block c.requires)
