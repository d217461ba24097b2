use Rattle.std.proofs.Common.{◌≡◌, ◌++◌, length}
use Rattle.entry_tree.proofs.remembered.list_pairs.Given as goal

abbrev pub invariant-pairs : goal.invariant-pairs
invariant-pairs l = l.pairs.items ++ l.left ≡ l.declaration.pairs

abbrev pub decreases-pairs : goal.decreases-pairs
decreases-pairs l = length l.left
