use Rattle.std.proofs.Common.{◌≡◌, ◌++◌, ◌∷◌, [], true, false, ap, sym, subst, ◌∙◌, arith, rules, refl}
use Rattle.dw_fields.specs.Span.{Span, at}
use Rattle.dw_fields.specs.Times.{with_front}
use Rattle.form_values.specs.View.{widths_of}
use Rattle.entry_tree.specs.Views.{EntryView, attr_view}
use Rattle.entry_tree.specs.Entries.{attrs_at}
use Rattle.entry_tree.specs.Kept.{kept_read}
use Rattle.entry_tree.proofs.KeptLaws.{attrs_kept, attrs_passed, attrs_fail, attrs_done}
use Rattle.entry_tree.proofs.TakenLaws.{attrs_none, attrs_more, front_none}
use Rattle.entry_tree.proofs.attributes.give_attrs.Goals as goal

pub pairs-init : goal.pairs-init
pairs-init g c = record {
  same = refl;
  forward = omega arith;
  front = [];
  walked = front_none (kept_read g.K.AttrNames.keeps (attrs_at (widths_of c.args.header.now) c.args.pairs c.args.cut.now));
  added = λ x e began. subst (λ (e : EntryView). g.S.EntrySink.began x c.args.sink.now e) (sym (attrs_none e)) began;
}

pub pairs-preserved-in-Ok : goal.pairs-preserved-in-Ok
pairs-preserved-in-Ok g c =
    let isnt : g.K.AttrNames.keeps c.in-Ok.field-0.name ≡ false = ap g.K.AttrNames.keeps c.in-Ok.ensures.name ∙ sym c.if-not-keeps.ensures in
    record {
      same = c.in-Ok.ensures.attr.1 ∙ ap (λ (s : Span). at s c.read_attr.new.cut.place) c.pairs.invariant.same;
      forward = omega (arith, c.in-Ok.ensures.forward);
      front = c.pairs.invariant.front;
      walked = ap (λ (s : Span). with_front c.pairs.invariant.front (kept_read g.K.AttrNames.keeps (attrs_at (widths_of c.args.header.now) c.next.new.self s))) c.in-Ok.ensures.attr.1
          ∙ attrs_passed g.K.AttrNames.keeps (widths_of c.args.header.now) c.in-Some.pair c.pairs.left c.next.new.self c.pairs.cut c.pairs.invariant.front
          (attr_view c.in-Ok.field-0) c.read_attr.new.cut.place c.in-Some.ensures c.in-Ok.ensures.attr.0 isnt
          ∙ c.pairs.invariant.walked;
      added = c.pairs.invariant.added;
    }

pub returns-in-Err-clause-attrs : goal.returns-in-Err-clause-attrs
returns-in-Err-clause-attrs g c =
    sym c.pairs.invariant.walked
    ∙ attrs_fail g.K.AttrNames.keeps (widths_of c.args.header.now) c.in-Some.pair c.pairs.left c.next.new.self c.pairs.cut c.pairs.invariant.front c.in-Err.fault
    c.in-Some.ensures c.in-Err.ensures.attr.0

pub returns-in-Err-read_attr-clause-attrs : goal.returns-in-Err-read_attr-clause-attrs
returns-in-Err-read_attr-clause-attrs g c =
    sym c.pairs.invariant.walked
    ∙ attrs_fail g.K.AttrNames.keeps (widths_of c.args.header.now) c.in-Some.pair c.pairs.left c.next.new.self c.pairs.cut c.pairs.invariant.front c.in-Err-read_attr.fault
    c.in-Some.ensures c.in-Err-read_attr.ensures.attr.0

pub pairs-preserved : goal.pairs-preserved
pairs-preserved g c =
    let is : g.K.AttrNames.keeps c.in-Ok-read_attr.attr.name ≡ true = ap g.K.AttrNames.keeps c.in-Ok-read_attr.ensures.name ∙ sym c.if-not-keeps.ensures in
    let a = attr_view c.in-Ok-read_attr.attr in
    let front = c.pairs.invariant.front in
    record {
      same = c.in-Ok-read_attr.ensures.attr.1 ∙ ap (λ (s : Span). at s c.read_attr-in-Some.new.cut.place) c.pairs.invariant.same;
      forward = omega (arith, c.in-Ok-read_attr.ensures.forward);
      front = front ++ a ∷ [];
      walked = ap (λ (s : Span). with_front (front ++ a ∷ []) (kept_read g.K.AttrNames.keeps (attrs_at (widths_of c.args.header.now) c.next.new.self s))) c.in-Ok-read_attr.ensures.attr.1
          ∙ attrs_kept g.K.AttrNames.keeps (widths_of c.args.header.now) c.in-Some.pair c.pairs.left c.next.new.self c.pairs.cut front
          (front ++ a ∷ []) a c.read_attr-in-Some.new.cut.place
          c.in-Some.ensures c.in-Ok-read_attr.ensures.attr.0 refl is
          ∙ c.pairs.invariant.walked;
      added = λ x e began. subst (λ (e : EntryView). g.S.EntrySink.began x c.add.new.self e) (attrs_more e front a)
          (c.in-Ok-add.ensures x _ (c.pairs.invariant.added x e began));
    }

pub returns-clause-attrs : goal.returns-clause-attrs
returns-clause-attrs g c = record {
  found = c.pairs.invariant.front;
  is = sym c.pairs.invariant.walked
      ∙ attrs_done g.K.AttrNames.keeps (widths_of c.args.header.now) c.pairs.left c.pairs.cut c.pairs.invariant.front c.in_default.ensures.0;
  moved = c.pairs.invariant.same;
  took = c.pairs.invariant.added;
}
