use Rattle.std.proofs.Common.{◌≡◌, ◌+◌, ◌∷◌, List, map, drop, length, subst, sym, ap, ◌∙◌, arith}
use Rattle.std.proofs.lemmas.List.{length-map}
use Rattle.entry_tree.specs.declared.entry.Attr.{Attr}
use Rattle.entry_tree.specs.Batches.{BatchView, entry_in}
use Rattle.entry_tree.specs.Views.{EntryView, entry_view}
use Rattle.entry_tree.proofs.BatchLaws.{left_in}
use Rattle.entry_tree.proofs.batch.EntryBatch.entry.Goals as goal

pub returns : goal.returns
returns c =
    let attrs : List Attr = c.self.inside.attrs.items in
    let heads = c.self.inside.heads.items in
    let stored = c.index.result.now in
    let P : BatchView → EntryView → Type 0 = λ b e. drop c.args.index b.entries ≡ e ∷ drop (c.args.index + 1) b.entries in
    let here : entry_in attrs stored ≡ entry_view c.entry_at.result = ap (λ xs. entry_in xs stored) (sym c.deref.ensures.value) ∙ sym c.entry_at.ensures in
    subst (P c.args.self.now) here (subst (λ b. P b (entry_in attrs stored)) c.self.view_is
    (left_in attrs heads c.args.index stored
    (omega (arith, ap (λ (b : BatchView). length b.entries) c.self.view_is, length-map heads (entry_in attrs))) c.index.ensures))
