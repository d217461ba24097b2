use Rattle.std.proofs.Common.{◌≤◌, ◌-◌, length, ℕ, Result}
use Rattle.dw_fields.specs.declared.fault_code.Fault.{Fault}
use Rattle.abbrev_decl.specs.Pairs.{Skips, pairs_at}
use Rattle.abbrev_decl.proofs.pairs.skip_pairs.Given as goal

abbrev pub invariant-pairs : goal.invariant-pairs
invariant-pairs l = record {
  forward : l.start ≤ l.place;
  inside : l.place ≤ length l.section;
  walk : (r : Result ℕ Fault) → Skips r (pairs_at l.section l.place) → Skips r (pairs_at l.section l.start);
}

abbrev pub decreases-pairs : goal.decreases-pairs
decreases-pairs l = length l.section - l.place
