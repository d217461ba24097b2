use Rattle.std.proofs.Common.{ℕ, ◌<◌, sym, subst, arith}
use Rattle.map_core.proofs.PlaceLemmas.{up_to_last}
use Rattle.table_tests.proofs.HandLemmas.{home_low}
use Rattle.table_tests.proofs.hand_steps.home_of.Goals as goal

pub cell_of_walk-requires-clause-generation : goal.cell_of_walk-requires-clause-generation
cell_of_walk-requires-clause-generation c = up_to_last c.layout.result.now 0 (omega arith)

pub returns-clause-low : goal.returns-clause-low
returns-clause-low c = subst (λ (n : ℕ). n < 64) (sym c.cell_of_walk.ensures) (home_low c.args.key)
