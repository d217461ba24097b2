use Rattle.std.proofs.Common.{◌≡◌, ◌∷◌, [], ℕ, Bool, List, Result, Ok, ap, sym, subst, ◌∙◌, refl}
use Rattle.abbrev_decl.specs.declared.pairs.AttrSpec.{AttrSpec}
use Rattle.form_values.specs.View.{widths_of}
use Rattle.entry_tree.specs.Entries.{attrs_at, depth_behind}
use Rattle.entry_tree.specs.Kept.{kept_read}
use Rattle.entry_tree.specs.Taken.{begun}
use Rattle.entry_tree.specs.Views.{EntryView}
use Rattle.entry_tree.proofs.TakenLaws.{coded_read}
use Rattle.entry_tree.proofs.cursor.read_coded.Goals as goal

pub returns-clause-entry : goal.returns-clause-entry
returns-clause-entry g c =
    let declaration = c.in_ok-declaration.declaration in
    let given = c.in_ok-give_attrs.ensures.attrs in
    let entry : ℕ → EntryView = λ tag. record { place = c.args.place; depth = c.args.depth; code = c.args.code; tag = tag; attrs = given.found } in
    record {
      found = (depth_behind declaration.children c.args.depth, entry declaration.tag);
      is = coded_read g.K.AttrNames.keeps (g.D.Decls.section c.args.decls.now) c.args.header.now.«abbrev» (widths_of c.args.header.now) c.args.depth c.args.place c.args.code c.args.cut.now
          declaration given.found c.give_attrs.new.cut.place c.in_ok-declaration.ensures.answer
          (ap (λ (pairs : List AttrSpec). kept_read g.K.AttrNames.keeps (attrs_at (widths_of c.args.header.now) pairs c.args.cut.now)) (sym c.attrs-pairs.ensures) ∙ given.is);
      moved = given.moved;
      took = (
        sym (c.depth_behind.ensures.depth ∙ ap (λ (children : Bool). depth_behind children c.args.depth) c.children.ensures),
        refl,
        subst (λ (tag : ℕ). g.S.EntrySink.took c.args.sink.now c.end.new.self (entry tag ∷ [])) c.tag.ensures
            (c.in_ok-end.ensures c.args.sink.now _ (given.took c.args.sink.now _ c.in_ok-begin.ensures)),
      );
    }
