use Rattle.std.proofs.Common.{◌≡◌, ◌-◌}
use Rattle.dw_fields.specs.Span.{at}
use Rattle.entry_tree.specs.Entries.{first_code_from}
use Rattle.entry_tree.proofs.first.first_code.Given as goal

abbrev pub invariant-zeros : goal.invariant-zeros
invariant-zeros l = record {
  same : l.cut ≡ at l.fn.cut l.cut.place;
  first : first_code_from (l.turns - l._turn) l.cut ≡ first_code_from l.turns l.fn.cut;
}
