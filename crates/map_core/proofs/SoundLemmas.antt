-- A table after any lawful events keeps all the facts.
use Rattle.std.proofs.Common.{◌≡◌, ◌≢◌, ◌⊎◌, ℕ, ◌+◌, ◌-◌, ◌*◌, ◌/◌, ◌<◌, ◌≤◌, List, [], ◌∷◌, ◌++◌, Some, None, refl, sym, ap, subst, ◌∙◌, inl, inr, ⊎_elim, arith}
use mathlib.Core.Logic.{dite}
use native.Mathlib.Decide.{ℕ_discrete, dec_lt}
use Rattle.map_core.specs.declared.entry.Entry.{Entry}
use Rattle.map_core.specs.declared.layout.Layout.{Layout}
use Rattle.map_core.specs.Sizes.{cells_of}
use Rattle.map_core.specs.History.{value_in}
use Rattle.map_core.specs.Places.{lowest, key_place, value_place, finish_place, Within, IsCell, IsBlock}
use Rattle.map_core.specs.Machine.{greatest, IsWord, Keeps, Only, Reaches, IsPublished, IsSettled, IsFinal, IsMoved, OneCellPerKey, ClosedBelow, MovedBelow, FinishedBlocks, OneHistory, State, Sound}
use Rattle.map_core.specs.Events.{Event, claims, publishes, seals_key, seals_value, counts, takes, finishes, switches, entry, WritesWord, Rests, SwitchStep, IsStep, IsStart, Lawful, at_start, and_then}
use Rattle.map_core.proofs.SizeLemmas.{blocks_pos}
use Rattle.map_core.proofs.PlaceLemmas.{last_within, lowest_within, next_within, cell_block, same_block, key_key, key_value, key_finish, value_finish}
use Rattle.map_core.proofs.WordLemmas.{keeps_at, keeps_value, done_on, published_on, settled_on, final_on}
use Rattle.map_core.proofs.EventLemmas.{SameCells, cells_stay, history_stays, key_cells, key_history, value_cells, value_history, value_new_history}
use Rattle.map_core.proofs.SettleLemmas.{final_settles}

-- no block of the last generation is ever moved
pub never_moved : (l : Layout) (C : ℕ → ℕ) (b : ℕ) → OneCellPerKey l C → b < cells_of l.last / 64 → IsMoved l C l.last b → ⊥
never_moved l C b m small moved =
    let n : ℕ = cells_of l.last in
    let q : ℕ = n / 64 in
    let low : 64 * b < n = omega arith in
    let block : 64 * b / 64 ≡ b = omega arith in
    let a : IsCell l l.last (64 * b) = (last_within l, low) in
    let o = m.last_open (64 * b) low in
    ⊎_elim
    (λ (sealed : C (key_place l l.last (64 * b)) ≡ greatest). omega arith)
    (λ (set_there : 0 < C (value_place l l.last (64 * b))).
    let up = moved.moved (64 * b) a block (m.keyed l.last (64 * b) a set_there) (set_there, o.1) in
    let w = up.2.cell.0.1 in
    let h : ℕ = up.0 in
    let hi : l.last < h = up.1 in omega arith)
    (moved.done (64 * b) a block)

-- what lies in lower generations, and finished blocks, while words appear
module _ (l : Layout) (C D : ℕ → ℕ) (keeps : Keeps C D) where
  -- a key of a generation is old, or it is settled in each lower generation
  pub closed_more : ((g i : ℕ) → IsCell l g i → IsWord (D (key_place l g i))
      → (D (key_place l g i) ≡ C (key_place l g i)) ⊎ ((h : ℕ) → Within l h → h < g → IsSettled l C h (D (key_place l g i))))
      → ClosedBelow l C → ClosedBelow l D
  closed_more new f =
      record {
        lower = λ g h i within lt a key. settled_on l C D keeps g (D (key_place l h i)) key.0 (⊎_elim
            (λ (same : D (key_place l h i) ≡ C (key_place l h i)). subst (λ (x : ℕ). IsSettled l C g x) (sym same) (f.lower g h i within lt a (subst IsWord same key)))
            (λ (below : (x : ℕ) → Within l x → x < h → IsSettled l C x (D (key_place l h i))). below g within lt)
            (new h i a key));
      }

  -- what a final generation has published it had published before
  final_published : (g k v : ℕ) → OneCellPerKey l C → IsFinal l C g → IsPublished l D g k v → IsPublished l C g k v
  final_published g k v m final p = ⊎_elim
      (λ (sealed : C (key_place l g p.index) ≡ greatest).
      let s : D (key_place l g p.index) ≡ greatest = keeps_value C D keeps (key_place l g p.index) greatest (omega arith) sealed in
      let is = p.key_is in
      let lt = p.key.1 in absurd (omega arith))
      (λ (there : 0 < C (value_place l g p.index)). record {
        index = p.index;
        cell = p.cell;
        key_is = sym (keeps (key_place l g p.index) (m.keyed g p.index p.cell there).0) ∙ p.key_is;
        value_is = sym (keeps (value_place l g p.index) there) ∙ p.value_is;
        key = p.key;
        value = p.value;
      })
      (final.done p.index p.cell)

  pub moved_more : (current now : ℕ) → now ≡ current → OneCellPerKey l C → MovedBelow l C current → MovedBelow l D now
  moved_more current now same m f =
      record {
        within = subst (Within l) (sym same) f.within;
        left = λ g within lt. final_on l C D keeps g (f.left g within (omega arith));
        carried = λ g k v lt p.
            let low : g < current = omega arith in
            let up = f.carried g k v low (final_published g k v m (f.left g p.cell.0 low) p) in
            let hi = up.1 in
            (up.0, omega arith, published_on l C D keeps up.0 k v up.2);
      }

  module _ (m : OneCellPerKey l C) where
    pub moved_on : (g b : ℕ) → IsMoved l C g b → IsMoved l D g b
    moved_on g b moved =
        record {
          done = λ i a at. done_on l C D keeps g i (moved.done i a at);
          moved = λ i a at key value. ⊎_elim
              (λ (sealed : C (key_place l g i) ≡ greatest).
              let s : D (key_place l g i) ≡ greatest = keeps_value C D keeps (key_place l g i) greatest (omega arith) sealed in absurd (omega arith))
              (λ (set_there : 0 < C (value_place l g i)).
              let v = keeps (value_place l g i) set_there in
              let old_key = m.keyed g i a set_there in
              let k = keeps (key_place l g i) old_key.0 in
              let up = moved.moved i a at old_key (subst IsWord v value) in
              (up.0, up.1, subst (λ (p : ℕ × ℕ). IsPublished l D up.0 p.0 p.1) (λ t. (sym k t, sym v t)) (published_on l C D keeps up.0 (C (key_place l g i)) (C (value_place l g i)) up.2)))
              (moved.done i a at);
        }

    pub finished_on : ((g b : ℕ) → D (finish_place l g b) ≡ C (finish_place l g b)) → FinishedBlocks l C → FinishedBlocks l D
    finished_on same f =
        record {
          finished = λ g b w one. moved_on g b (f.finished g b w (sym (same g b) ∙ one));
          small = λ g b w. let e = same g b in let le = f.small g b w in omega arith;
        }

    pub finished_more : (p : ℕ) → Only p C D → D p ≡ 1 → ((g b : ℕ) → IsBlock l g b → finish_place l g b ≡ p → IsMoved l C g b) → FinishedBlocks l C → FinishedBlocks l D
    finished_more p only now new f =
        record {
          finished = λ g b w one. dite (ℕ_discrete (finish_place l g b) p)
              (λ e. moved_on g b (new g b w e))
              (λ ne. moved_on g b (f.finished g b w (sym (only (finish_place l g b) ne) ∙ one)));
          small = λ g b w. dite (ℕ_discrete (finish_place l g b) p)
              (λ e. let is : D (finish_place l g b) ≡ 1 = ap D e ∙ now in omega arith)
              (λ ne. let same = only (finish_place l g b) ne in let le = f.small g b w in omega arith);
        }

module _ (l : Layout) (fits : ℕ → ℕ → Type 0) where
  -- what the last sentence of the facts says stays while the current generation and the count do
  filled_stays : (s t : State) → t.current ≡ s.current → s.count ≤ t.count → Sound l fits s → lowest l < t.current → 3 * cells_of (t.current - 1) ≤ 4 * t.count
  filled_stays s t same count so above =
      let c : ℕ = cells_of (s.current - 1) in
      let d : ℕ = cells_of (t.current - 1) in
      let e : d ≡ c = ap (λ (x : ℕ). cells_of (x - 1)) same in
      let f : 3 * c ≤ 4 * s.count = so.filled (omega arith) in
      let goal : 3 * d ≤ 4 * t.count = omega arith in goal

  -- words that are not of the cells
  sound_rests : (s t : State) → Rests s t → t.current ≡ s.current → s.count ≤ t.count → Sound l fits s → Sound l fits t
  sound_rests s t r current count so =
      let keeps : Keeps s.cells t.cells = λ q h. r.cells q in
      let same : SameCells l s.cells t.cells = λ g i a. (r.cells (key_place l g i), r.cells (value_place l g i)) in
      record {
        cells = cells_stay l s.cells t.cells keeps same so.cells;
        closed = closed_more l s.cells t.cells keeps (λ g i a key. inl (r.cells (key_place l g i))) so.closed;
        moved = moved_more l s.cells t.cells keeps s.current t.current current so.cells so.moved;
        finished = finished_on l s.cells t.cells keeps so.cells (λ g b. r.cells (finish_place l g b)) so.finished;
        history = subst (λ (log : List Entry). OneHistory l t.cells fits log) (sym r.history) (history_stays l s.cells t.cells keeps fits s.history same so.history);
        filled = filled_stays s t current count so;
      }

  sound_key : (s t : State) (g i w : ℕ) → IsCell l g i → WritesWord (key_place l g i) 0 w s t → t.history ≡ s.history → (IsWord w → Reaches l s.cells g i w)
      → (IsWord w → (h : ℕ) → Within l h → h < g → IsSettled l s.cells h w) → (g ≡ l.last → w < greatest) → Sound l fits s → Sound l fits t
  sound_key s t g i w a wr log walk below open_there so =
      let keeps = keeps_at (key_place l g i) s.cells t.cells wr.was wr.only in
      record {
        cells = key_cells l s.cells t.cells g i w a wr.was wr.is wr.only walk open_there so.cells;
        closed = closed_more l s.cells t.cells keeps (λ h j b key. dite (ℕ_discrete (key_place l h j) (key_place l g i))
            (λ e.
            let same = key_key l h j g i b a e in
            let is : t.cells (key_place l h j) ≡ w = ap t.cells e ∙ wr.is in
            inr (λ x within lt. subst (λ (y : ℕ). IsSettled l s.cells x y) (sym is) (below (subst IsWord is key) x within (let hg = same.0 in omega arith))))
            (λ ne. inl (wr.only (key_place l h j) ne)))
            so.closed;
        moved = moved_more l s.cells t.cells keeps s.current t.current wr.current so.cells so.moved;
        finished = finished_on l s.cells t.cells keeps so.cells (λ h b. wr.only (finish_place l h b) (λ e. key_finish l g i h b a (sym e))) so.finished;
        history = subst (λ (x : List Entry). OneHistory l t.cells fits x) (sym log) (key_history l s.cells t.cells g i w a wr.was wr.is wr.only fits s.history so.cells so.history);
        filled = filled_stays s t wr.current (let e = wr.count in omega arith) so;
      }

  sound_value : (s t : State) (g i w : ℕ) → IsCell l g i → IsWord (s.cells (key_place l g i)) → WritesWord (value_place l g i) 0 w s t → OneHistory l t.cells fits t.history
      → w ≤ greatest → (g ≡ l.last → w < greatest) → Sound l fits s → Sound l fits t
  sound_value s t g i w a key wr history most open_there so =
      let keeps = keeps_at (value_place l g i) s.cells t.cells wr.was wr.only in
      record {
        cells = value_cells l s.cells t.cells g i w a key wr.was wr.is wr.only most open_there so.cells;
        closed = closed_more l s.cells t.cells keeps (λ h j b x. inl (wr.only (key_place l h j) (key_value l h j g i))) so.closed;
        moved = moved_more l s.cells t.cells keeps s.current t.current wr.current so.cells so.moved;
        finished = finished_on l s.cells t.cells keeps so.cells (λ h b. wr.only (finish_place l h b) (λ e. value_finish l g i h b a (sym e))) so.finished;
        history = history;
        filled = filled_stays s t wr.current (let e = wr.count in omega arith) so;
      }

  -- a key that may be claimed is settled below: a generation below the current one is final
  claim_below : (s : State) (g k : ℕ) → IsWord k → ((h : ℕ) → s.current ≤ h → h < g → IsSettled l s.cells h k) → Sound l fits s → (h : ℕ) → Within l h → h < g → IsSettled l s.cells h k
  claim_below s g k word settled so h within lt = dite (dec_lt h s.current)
      (λ low. final_settles l s.cells so.cells h k within word (so.moved.left h within low))
      (λ high. settled h (omega arith) lt)

  sound_finish : (s t : State) (g b : ℕ) → IsBlock l g b → IsMoved l s.cells g b → WritesWord (finish_place l g b) 0 1 s t → t.history ≡ s.history → Sound l fits s → Sound l fits t
  sound_finish s t g b block moved wr log so =
      let p : ℕ = finish_place l g b in
      let keeps = keeps_at p s.cells t.cells wr.was wr.only in
      let same : SameCells l s.cells t.cells = λ h i a. (wr.only (key_place l h i) (key_finish l h i g b a), wr.only (value_place l h i) (value_finish l h i g b a)) in
      record {
        cells = cells_stay l s.cells t.cells keeps same so.cells;
        closed = closed_more l s.cells t.cells keeps (λ h i a key. inl (same h i a).0) so.closed;
        moved = moved_more l s.cells t.cells keeps s.current t.current wr.current so.cells so.moved;
        finished = finished_more l s.cells t.cells keeps so.cells p wr.only wr.is (λ h c x e.
            let one = same_block l h c g b x block e in
            subst (λ (y : ℕ × ℕ). IsMoved l s.cells y.0 y.1) (λ j. (sym one.0 j, sym one.1 j)) moved)
            so.finished;
        history = subst (λ (x : List Entry). OneHistory l t.cells fits x) (sym log) (history_stays l s.cells t.cells keeps fits s.history same so.history);
        filled = filled_stays s t wr.current (let e = wr.count in omega arith) so;
      }

  -- the generation that is left is final, and each of its pairs stands in a higher one
  sound_switch : (s t : State) → SwitchStep l fits s t → Sound l fits s → Sound l fits t
  sound_switch s t e so =
      let c : ℕ = s.current in
      let r = e.rests in
      let keeps : Keeps s.cells t.cells = λ q h. r.cells q in
      let same : SameCells l s.cells t.cells = λ g i a. (r.cells (key_place l g i), r.cells (value_place l g i)) in
      let within = so.moved.within in
      let block : (b : ℕ) → b < cells_of c / 64 → IsMoved l s.cells c b = λ b lt. so.finished.finished c b (within, lt) (e.finished b lt) in
      let not_last : c ≢ l.last = λ is. never_moved l s.cells 0 so.cells (blocks_pos l.last) (subst (λ (x : ℕ). IsMoved l s.cells x 0) is (block 0 (blocks_pos c))) in
      let hi : c ≤ l.last = within.1 in
      let more : c + 1 ≤ l.last = omega arith in
      let now : t.current ≡ c + 1 = e.current in
      let final_now : IsFinal l s.cells c = record { done = λ i a. (block (i / 64) (cell_block l c i a).1).done i a (λ j. i / 64) } in
      let m : MovedBelow l t.cells (c + 1) = record {
        within = next_within l c within more;
        left = λ g w lt. final_on l s.cells t.cells keeps g (dite (ℕ_discrete g c)
            (λ is. subst (λ (x : ℕ). IsFinal l s.cells x) (sym is) final_now)
            (λ ne. so.moved.left g w (omega arith)));
        carried = λ g k v lt p.
            let here : IsPublished l s.cells c k v → (h : ℕ) × (c < h) × IsPublished l s.cells h k v = λ q.
            let b = block (q.index / 64) (cell_block l c q.index q.cell).1 in
            let up = b.moved q.index q.cell (λ j. q.index / 64) (subst IsWord (sym q.key_is) q.key) (subst IsWord (sym q.value_is) q.value) in
            (up.0, up.1, subst (λ (x : ℕ × ℕ). IsPublished l s.cells up.0 x.0 x.1) (λ j. (q.key_is j, q.value_is j)) up.2) in
            let back : IsPublished l s.cells g k v = record {
              index = p.index;
              cell = p.cell;
              key_is = sym (r.cells (key_place l g p.index)) ∙ p.key_is;
              value_is = sym (r.cells (value_place l g p.index)) ∙ p.value_is;
              key = p.key;
              value = p.value;
            } in
            let found : (h : ℕ) × (c < h) × IsPublished l s.cells h k v = dite (ℕ_discrete g c)
            (λ is. here (subst (λ (x : ℕ). IsPublished l s.cells x k v) is back))
            (λ ne.
            let up = so.moved.carried g k v (omega arith) back in
            let low = up.1 in
            dite (ℕ_discrete up.0 c)
            (λ is. here (subst (λ (x : ℕ). IsPublished l s.cells x k v) is up.2))
            (λ other. (up.0, omega arith, up.2))) in
            let above = found.1 in
            (found.0, omega arith, published_on l s.cells t.cells keeps found.0 k v found.2);
      } in
      record {
        cells = cells_stay l s.cells t.cells keeps same so.cells;
        closed = closed_more l s.cells t.cells keeps (λ g i a key. inl (r.cells (key_place l g i))) so.closed;
        moved = subst (MovedBelow l t.cells) (sym now) m;
        finished = finished_on l s.cells t.cells keeps so.cells (λ g b. r.cells (finish_place l g b)) so.finished;
        history = subst (λ (log : List Entry). OneHistory l t.cells fits log) (sym r.history) (history_stays l s.cells t.cells keeps fits s.history same so.history);
        filled = λ above.
            let full : 3 * cells_of c ≤ 4 * s.count = e.full in
            let count : t.count ≡ s.count = e.count in
            let a : ℕ = cells_of c in
            let b : ℕ = cells_of (t.current - 1) in
            let one_less : t.current - 1 ≡ c = omega arith in
            let is : b ≡ a = ap cells_of one_less in
            let full' : 3 * a ≤ 4 * s.count = full in
            let goal : 3 * b ≤ 4 * t.count = omega arith in goal;
      }

  -- each event keeps the facts
  pub step_sound : (e : Event) (s t : State) → IsStep l fits e s t → Sound l fits s → Sound l fits t
  step_sound (claims g i k) s t e so = sound_key s t g i k e.cell e.word e.history (λ _. e.reached) (λ _. claim_below s g k e.key e.settled so) (λ _. e.key.1) so
  step_sound (publishes who g i k v) s t e so =
      let key : IsWord (s.cells (key_place l g i)) = subst IsWord (sym e.stands) e.key in
      let wr = e.word in
      let lt = e.value.1 in
      let history : OneHistory l t.cells fits t.history = ⊎_elim
      (λ (old : (value_in s.history k ≡ Some v) × (t.history ≡ s.history)).
      subst (λ (x : List Entry). OneHistory l t.cells fits x) (sym old.1)
      (value_history l s.cells t.cells g i v e.cell key wr.was wr.is wr.only fits s.history (λ _. subst (λ (x : ℕ). value_in s.history x ≡ Some v) (sym e.stands) old.0) so.history))
      (λ (new : (value_in s.history k ≡ None) × fits k v × (t.history ≡ s.history ++ entry who k v ∷ [])).
      subst (λ (x : List Entry). OneHistory l t.cells fits x) (sym new.2)
      (value_new_history l s.cells t.cells g i v e.cell key wr.was wr.is wr.only fits s.history (entry who k v) (sym e.stands) refl e.value new.0 new.1 so.history))
      e.adds in
      sound_value s t g i v e.cell key wr history (omega arith) (λ _. e.value.1) so
  step_sound (seals_key g i) s t e so =
      let below = e.below in
      sound_key s t g i greatest e.cell e.word e.history (λ w. let lt = w.1 in absurd (omega arith)) (λ w. let lt = w.1 in absurd (omega arith)) (λ same. absurd (omega arith)) so
  step_sound (seals_value g i) s t e so =
      let below = e.below in
      let wr = e.word in
      let history : OneHistory l t.cells fits t.history = subst (λ (x : List Entry). OneHistory l t.cells fits x) (sym e.history)
      (value_history l s.cells t.cells g i greatest e.cell e.key wr.was wr.is wr.only fits s.history (λ w. let lt = w.1 in absurd (omega arith)) so.history) in
      sound_value s t g i greatest e.cell e.key wr history (omega arith) (λ same. absurd (omega arith)) so
  step_sound counts s t e so = sound_rests s t e.rests e.current (let c = e.count in omega arith) so
  step_sound (takes g) s t e so = sound_rests s t e.rests e.current (let c = e.count in omega arith) so
  step_sound (finishes g b) s t e so = sound_finish s t g b e.block e.moved e.word e.history so
  step_sound switches s t e so = sound_switch s t e so

  pub start_sound : (s : State) → IsStart l fits s → Sound l fits s
  start_sound s st =
      let z : (q : ℕ) → s.cells q ≡ 0 = st.cells in
      let current : s.current ≡ lowest l = st.current in
      record {
        cells = record {
          walked = λ g i a w. let e = z (key_place l g i) in let p = w.0 in absurd (omega arith);
          keyed = λ g i a p. let e = z (value_place l g i) in absurd (omega arith);
          bounded = λ g i a. let e = z (value_place l g i) in omega arith;
          last_open = λ i a. let y = z (key_place l l.last i) in let e = z (value_place l l.last i) in (omega arith, omega arith);
        };
        closed = record { lower = λ g h i within lt a key. let e = z (key_place l h i) in let p = key.0 in absurd (omega arith) };
        moved = record {
          within = subst (Within l) (sym current) (lowest_within l);
          left = λ g w lt. let lo = w.0 in absurd (omega arith);
          carried = λ g k v lt p. let lo = p.cell.0.0 in absurd (omega arith);
        };
        finished = record {
          finished = λ g b w one. let e = z (finish_place l g b) in absurd (omega arith);
          small = λ g b w. let e = z (finish_place l g b) in omega arith;
        };
        history = subst (λ (x : List Entry). OneHistory l s.cells fits x) (sym st.history) record {
          kept = λ g i a w x. let e = z (key_place l g i) in let p = w.0 in absurd (omega arith);
          stands = λ k v h. absurd (cc);
          legal = tt;
        };
        filled = λ above. absurd (omega arith);
      }

  -- the facts hold after any lawful events
  pub lawful_sound : (events : List Event) (s : State) → Lawful l fits events s → Sound l fits s
  lawful_sound _ _ (at_start s st) = start_sound s st
  lawful_sound _ _ (and_then events s e t before is_step) = step_sound e s t is_step (lawful_sound events s before)
