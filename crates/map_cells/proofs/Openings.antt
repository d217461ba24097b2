-- A table at the start meets the rule, and so does it after a split and after the first step of a join.
use Rattle.std.proofs.Common.{◌≡◌, ◌≢◌, ℕ, zero, suc, ◌+◌, ◌<◌, List, [], length, slice_index, replicate, None, refl, sym, ap, ◌∙◌}
use Rattle.boxcar.specs.declared.tag.Tag.{Tag}
use Rattle.atomic_table.proofs.Lists.{set_else}
use Rattle.atomic_table.specs.Table.{Splits, Joins, opening}
use Rattle.map_core.specs.declared.layout.Layout.{Layout}
use Rattle.map_core.specs.declared.view.View.{View}
use Rattle.map_core.specs.declared.places.TheConstants.{CURRENT_WORD, COUNT_WORD}
use Rattle.map_core.specs.Places.{lowest, offset, word_count, current_in}
use Rattle.map_core.specs.Machine.{state_of}
use Rattle.map_core.specs.Events.{at_start}
use Rattle.map_core.specs.Passes.{PassFacts}
use Rattle.map_core.specs.Knowing.{halved, newcomer, put_together, gone}
use Rattle.map_core.proofs.FactLemmas.{split_keeps}
use Rattle.map_core.proofs.JoinLemmas.{join_keeps}
use Rattle.map_core.proofs.StartLemmas.{start_together}
use Rattle.map_cells.specs.declared.about.About.{About}
use Rattle.map_cells.specs.Rule.{TableHolds, first_of}
use Rattle.map_cells.proofs.WordSteps.{takes_zero}
use Rattle.map_cells.proofs.Allowed.{about}

zeros : (n q : ℕ) → slice_index (replicate n 0) q ≡ 0
zeros zero q = refl
zeros (suc n) zero = refl
zeros (suc n) (suc q) = zeros n q

-- all words 0, and the first pass alone
pub opens : (fits : List ℕ → ℕ → ℕ → Type 0) (a : About) (ws : List ℕ) → ws ≡ replicate (word_count a.layout) 0 → length ws ≡ word_count a.layout → TableHolds fits a (opening ws [] (first_of a))
unfolding lowest
opens fits a ws is size =
    let l : Layout = a.layout in
    let none_set : (q : ℕ) → slice_index ws q ≡ 0 = λ q. ap (λ (x : List ℕ). slice_index x q) is ∙ zeros (word_count l) q in
    let current : current_in ws ≡ lowest l = none_set CURRENT_WORD in
    record {
      events = [];
      log = [];
      lawful = at_start (state_of l ws []) record { cells = λ q. none_set (q + offset l); current = current; count = none_set COUNT_WORD; takes = takes_zero l ws none_set; history = refl };
      together = start_together l a.tag.numbers (state_of l ws []) (λ q. none_set (q + offset l)) current (none_set COUNT_WORD) refl;
      size = size;
    }

pub splits : (fits : List ℕ → ℕ → ℕ → Type 0) (t : Tag) (id : ℕ) (v : View) → PassFacts fits v → 0 < v.spare → Splits (TableHolds fits (about v t)) id v (halved v) (newcomer v)
splits fits t id v facts some_spare s kept at =
    record {
      events = kept.events;
      log = kept.log;
      lawful = kept.lawful;
      together = split_keeps v.layout t.numbers (state_of v.layout s.words kept.log) s.views id v at facts.live facts.alone some_spare kept.together;
      size = kept.size;
    }

pub joins : (fits : List ℕ → ℕ → ℕ → Type 0) (t : Tag) (id other : ℕ) (v u : View) → PassFacts fits v → PassFacts fits u → u.claim ≡ None → u.number ≢ 0 → Joins (TableHolds fits (about v t)) id v other u (put_together v u) gone
joins fits t id other v u facts_v facts_u free not_first s kept at ne there =
    record {
      events = kept.events;
      log = kept.log;
      lawful = kept.lawful;
      together = join_keeps v.layout t.numbers (state_of v.layout s.words kept.log) s.views id other v u at (sym (set_else s.views id other (put_together v u) ne) ∙ there) ne (facts_v.live, facts_u.live) (facts_v.alone.1, facts_u.alone.1) (facts_v.alone.0, facts_u.alone.0) free not_first kept.together;
      size = kept.size;
    }
