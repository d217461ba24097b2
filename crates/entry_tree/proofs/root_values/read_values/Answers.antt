use Rattle.std.proofs.Common.{ap, sym, ◌∙◌}
use Rattle.dw_fields.specs.Span.{Span, at}
use Rattle.form_values.specs.View.{widths_of}
use Rattle.entry_tree.specs.Views.{attr_view}
use Rattle.entry_tree.specs.Entries.{attrs_at}
use Rattle.entry_tree.specs.RootValues.{root_values_view, gathered_with}
use Rattle.entry_tree.proofs.RootSteps.{values_next, values_fail, values_done}
use Rattle.entry_tree.proofs.root_values.read_values.Goals as goal

pub returns-in-Err : goal.returns-in-Err
returns-in-Err c =
    sym c.pairs.invariant.values
    ∙ values_fail (widths_of c.args.header.now) c.in-Some.pair c.pairs.left c.next.new.self c.pairs.cut (root_values_view c.pairs.values) c.in-Err.fault
    c.in-Some.ensures c.in-Err.ensures.attr.0

pub pairs-preserved : goal.pairs-preserved
pairs-preserved c = record {
  same = c.in-Ok.ensures.attr.1 ∙ ap (λ (s : Span). at s c.read_attr.new.cut.place) c.pairs.invariant.same;
  values = ap (λ (s : Span). gathered_with (root_values_view c.with_attribute-values.result) (attrs_at (widths_of c.args.header.now) c.next.new.self s)) c.in-Ok.ensures.attr.1
      ∙ values_next (widths_of c.args.header.now) c.in-Some.pair c.pairs.left c.next.new.self c.pairs.cut (root_values_view c.pairs.values) (root_values_view c.with_attribute-values.result)
      (attr_view c.in-Ok.attr) c.read_attr.new.cut.place c.in-Some.ensures c.in-Ok.ensures.attr.0 c.with_attribute-values.ensures
      ∙ c.pairs.invariant.values;
}

pub returns : goal.returns
returns c = (
  sym c.pairs.invariant.values ∙ values_done (widths_of c.args.header.now) c.pairs.left c.pairs.cut (root_values_view c.pairs.values) c.in_default.ensures.0,
  c.pairs.invariant.same,
)
