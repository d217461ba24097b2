use Rattle.std.proofs.Common.{◌≡◌, ◌<◌, ℕ, zero, suc, List, [], ◌∷◌, slice_index, sym, ap, subst, ◌∙◌}
use mathlib.Core.Option.{some, some-injective, some-ne-none}
use lib.ListN.{get_elem?}
use Rattle.map_core.specs.declared.layout.Layout.{Layout}
use Rattle.map_core.specs.declared.places.TheConstants.{COUNT_WORD}
use Rattle.map_cells.specs.Seen.{CellsView, PassView}
use Rattle.map_cells.specs.Whole.{WholeTable, ClosesTable}
use Rattle.map_cells.proofs.WordSteps.{has_count}
use Rattle.map_cells.proofs.cells.Cells.close.Goals as goal

pub word-count-requires : goal.word-count-requires
word-count-requires g c =
    let same = c.close_with-closed.ensures.counts.0 ∙ c.self.invariant.1 in
    (subst (λ (n : ℕ). COUNT_WORD < n) (sym same) (has_count c.self.inside.layout), c.close_with-closed.ensures.values.0)

at_value : (ws : List ℕ) (q n : ℕ) → get_elem? ws q ≡ some n → n ≡ slice_index ws q
at_value [] q n e = absurd (some-ne-none n (sym e))
at_value (w ∷ ws) zero n e = sym (some-injective w n e)
at_value (w ∷ ws) (suc q) n e = at_value ws q n e

pub returns : goal.returns
returns g c =
    let f = c.close_with-closed.ensures.values.2 in
    let key = c.self.inside.table.shared.key in
    let words : List ℕ = f.0.words in
    let count : c.word-count.result ≡ slice_index words COUNT_WORD = at_value words COUNT_WORD c.word-count.result (ap (λ (ws : List ℕ). get_elem? ws COUNT_WORD) f.2 ∙ c.word-count.ensures) in
    subst (λ (x : CellsView × PassView). ClosesTable g.F.Facts.fits x.0 x.1.knows c.word-count.result) (λ t. (c.self.view_is t, c.pass.view_is t)) record {
      words = words;
      views = f.0.views;
      whole = subst (λ (l : Layout). WholeTable g.F.Facts.fits l key.tag.numbers words f.0.views) c.self.invariant.0 f.1.0;
      who = c.pass.inside.seat.id;
      at = f.1.1;
      count = count;
    }
