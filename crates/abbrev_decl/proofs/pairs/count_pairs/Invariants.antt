use Rattle.std.proofs.Common.{◌≡◌, ◌≤◌, ◌+◌, ◌-◌, length}
use Rattle.abbrev_decl.specs.Pairs.{PairsWereRead, pairs_at, pairs_of}
use Rattle.abbrev_decl.proofs.pairs.count_pairs.Given as goal

abbrev pub invariant-pairs : goal.invariant-pairs
invariant-pairs l = record {
  left : PairsWereRead l.section l.place;
  counted : l.count + length (pairs_of (pairs_at l.section l.place)) ≡ length (pairs_of (pairs_at l.section l.start));
  fewer : l.start + l.count ≤ l.place;
}

abbrev pub decreases-pairs : goal.decreases-pairs
decreases-pairs l = length l.section - l.place
