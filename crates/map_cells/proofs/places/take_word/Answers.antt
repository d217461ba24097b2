use Rattle.std.proofs.Common.{refl, arith}
use Rattle.map_core.specs.Places.{take_word}
use Rattle.map_cells.proofs.WordSteps.{within_low, has_take}
use Rattle.map_cells.proofs.places.take_word.Goals as goal

pub overflow_add-result : goal.overflow_add-result
overflow_add-result c = let low = within_low c.args.layout.now c.args.generation c.requires in omega arith

pub returns-clause-place : goal.returns-clause-place
unfolding take_word
returns-clause-place c = refl

pub returns-clause-within : goal.returns-clause-within
unfolding take_word
returns-clause-within c = has_take c.args.layout.now c.args.generation c.requires
