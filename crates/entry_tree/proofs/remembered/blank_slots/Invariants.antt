use Rattle.entry_tree.specs.Remembered.{AreBlank}
use Rattle.entry_tree.proofs.remembered.blank_slots.Given as goal

abbrev pub invariant-slots : goal.invariant-slots
invariant-slots l = AreBlank l.slots.items
