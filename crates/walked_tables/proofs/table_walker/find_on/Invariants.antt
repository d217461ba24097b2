use Rattle.std.proofs.Common.{◌≡◌, ◌≤◌, ◌-◌, length}
use Rattle.walked_tables.specs.WalkedTables.{IsWalked}
use Rattle.walked_tables.proofs.table_walker.find_on.Given as goal

-- the places that are kept are those of the table's first codes
abbrev pub invariant-loop-walked : goal.invariant-loop-walked
invariant-loop-walked g l = record {
  walked : IsWalked l.section l.fn.walked.table l.walked.places.items l.walked.next;
  table : l.walked.table ≡ l.fn.walked.table;
  later : l.fn.steps ≤ l.steps;
}

abbrev pub decreases-loop-walked : goal.decreases-loop-walked
decreases-loop-walked g l = l.code - length l.walked.places.items
