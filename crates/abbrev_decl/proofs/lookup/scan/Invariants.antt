use Rattle.std.proofs.Common.{◌≡◌, ◌≤◌, ◌-◌, length}
use Rattle.abbrev_decl.specs.Counting.{ticked_by}
use Rattle.abbrev_decl.specs.Lookup.{declarations_walked, first_declaration}
use Rattle.abbrev_decl.proofs.lookup.scan.Given as goal

abbrev pub invariant-walk : goal.invariant-walk
invariant-walk g l = record {
  inside : l.place ≤ length l.section;
  walk : first_declaration l.section l.place l.code ≡ first_declaration l.section l.table l.code;
  counted : ticked_by (declarations_walked l.section l.place l.code) l.steps
      ≡ ticked_by (declarations_walked l.section l.table l.code) l.fn.steps;
  never_less : l.fn.steps ≤ l.steps;
}

abbrev pub decreases-walk : goal.decreases-walk
decreases-walk g l = length l.section - l.place
