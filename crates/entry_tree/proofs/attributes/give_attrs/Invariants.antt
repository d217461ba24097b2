use Rattle.std.proofs.Common.{◌≡◌, ◌≤◌, length, List}
use Rattle.dw_fields.specs.Span.{at}
use Rattle.dw_fields.specs.Times.{with_front}
use Rattle.form_values.specs.View.{widths_of}
use Rattle.entry_tree.specs.Views.{AttrView, EntryView}
use Rattle.entry_tree.specs.Entries.{attrs_at}
use Rattle.entry_tree.specs.Kept.{kept_read}
use Rattle.entry_tree.specs.Taken.{with_attrs}
use Rattle.entry_tree.proofs.attributes.give_attrs.Given as goal

abbrev pub invariant-pairs : goal.invariant-pairs
invariant-pairs g l = record {
  same : l.cut ≡ at l.fn.cut l.cut.place;
  forward : l.fn.cut.place ≤ l.cut.place;
  front : List AttrView;
  walked : with_front front (kept_read g.K.AttrNames.keeps (attrs_at (widths_of l.header) l.left l.cut)) ≡ kept_read g.K.AttrNames.keeps (attrs_at (widths_of l.header) l.fn.pairs l.fn.cut);
  added : (x : g.row.S.Denot) (e : EntryView) → g.S.EntrySink.began x l.fn.sink e → g.S.EntrySink.began x l.sink (with_attrs e front);
}

abbrev pub decreases-pairs : goal.decreases-pairs
decreases-pairs g l = length l.left
