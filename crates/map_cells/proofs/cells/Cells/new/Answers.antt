use Rattle.std.proofs.Common.{◌≡◌, ℕ, ◌-◌, replicate, sym, ap, subst, ◌∙◌}
use Rattle.map_core.specs.declared.view.View.{View}
use Rattle.map_core.specs.Passes.{PassFacts}
use Rattle.map_core.specs.Knowing.{first_view}
use Rattle.map_core.proofs.PlaceLemmas.{lowest_zero}
use Rattle.map_core.proofs.StartLemmas.{first_facts}
use Rattle.map_cells.proofs.Openings.{opens}
use Rattle.map_cells.proofs.cells.Cells.new.Goals as goal

pub of_words-requires : goal.of_words-requires
of_words-requires g c =
    let ok = c.in_ok-words.ensures in
    opens g.F.Facts.fits record { layout = c.args.layout; tag = c.of.result } c.as_slice.result.now
    (c.as_slice.ensures.value ∙ (ok.items_if_clones_equal (λ y e. e) ∙ ap (λ (n : ℕ). replicate n 0) c.count_words.ensures))
    (c.as_slice.ensures.len ∙ (ok.len ∙ c.count_words.ensures))

pub invariant_of-pass : goal.invariant_of-pass
invariant_of-pass g c =
    let me = c.in_ok-table.ensures.4 in
    let v : View = first_view c.args.layout c.of.result.numbers in
    let is : c.in_ok-table.seat.me.0 ≡ v = ap (λ m. m.0) me in
    record {
      slots = ap (λ m. m.1) me;
      number = sym (ap (λ (x : View). x.number) is);
      spare = ap (λ (n : ℕ). n - 1) c.requires ∙ sym (ap (λ (x : View). x.spare) is);
      entries = sym (ap (λ (x : View). x.counted) is);
      count_seen = sym (ap (λ (x : View). x.count_seen) is);
      generation = sym (ap (λ (x : View). x.generation) is ∙ lowest_zero c.args.layout);
      facts = subst (PassFacts g.F.Facts.fits) (sym is) (first_facts g.F.Facts.fits c.args.layout c.of.result.numbers);
    }
