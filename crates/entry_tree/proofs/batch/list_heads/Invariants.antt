use Rattle.std.proofs.Common.{◌≡◌, ◌++◌, map, drop}
use Rattle.entry_tree.specs.Batches.{entry_in}
use Rattle.entry_tree.specs.Views.{entry_view}
use Rattle.entry_tree.proofs.batch.list_heads.Given as goal

abbrev pub invariant-loop-index : goal.invariant-loop-index
invariant-loop-index l = map entry_view l.entries.items ++ map (entry_in l.attrs) (drop l.index l.heads) ≡ map (entry_in l.attrs) l.heads
