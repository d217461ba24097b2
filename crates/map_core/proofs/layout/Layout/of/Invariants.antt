use Rattle.std.proofs.Common.{◌≤◌, ℕ, ◌-◌, ◌*◌, ◌<◌}
use Rattle.map_core.specs.Sizes.{cells_of}
use Rattle.map_core.proofs.layout.Layout.of.Given as goal

abbrev pub invariant-loop-last : goal.invariant-loop-last
invariant-loop-last l = (l.last ≤ 17) × ((g : ℕ) → g < l.last → 3 * cells_of g < l.needed)

abbrev pub decreases-loop-last : goal.decreases-loop-last
decreases-loop-last l = 18 - l.last
