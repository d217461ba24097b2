use Rattle.std.proofs.Common.{◌≡◌, length}
use Rattle.dw_fields.specs.Span.{at}
use Rattle.form_values.specs.View.{widths_of}
use Rattle.entry_tree.specs.Entries.{attrs_at}
use Rattle.entry_tree.specs.RootValues.{root_values_view, no_values, gathered_with}
use Rattle.entry_tree.proofs.root_values.read_values.Given as goal

abbrev pub invariant-pairs : goal.invariant-pairs
invariant-pairs l = record {
  same : l.cut ≡ at l.fn.cut l.cut.place;
  values : gathered_with (root_values_view l.values) (attrs_at (widths_of l.header) l.left l.cut) ≡ gathered_with no_values (attrs_at (widths_of l.header) l.fn.pairs l.fn.cut);
}

abbrev pub decreases-pairs : goal.decreases-pairs
decreases-pairs l = length l.left
