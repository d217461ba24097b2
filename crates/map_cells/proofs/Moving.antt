-- The steps of moving keep the rule, and tell what their calls ensure.
use Rattle.std.proofs.Common.{◌≡◌, ◌≢◌, ℕ, ◌+◌, ◌*◌, ◌/◌, ◌%◌, ◌^◌, ◌<◌, ◌≤◌, Bool, true, List, ◌∷◌, length, set, slice_index, Some, None, if◌then◌else◌, ◌==◌, refl, sym, ap, subst, ◌∙◌, inl, inr, arith, length-set, eq-eqb, ne_eqb, get_or-set_same}
use mathlib.Core.Logic.{dite}
use mathlib.Core.Option.{some, none}
use lib.ListN.{get_elem?}
use native.Mathlib.Decide.{ℕ_discrete}
use prog.Atomic.{either}
use Rattle.boxcar.specs.declared.tag.Tag.{Tag}
use Rattle.atomic_table.proofs.Lists.{exchanged}
use Rattle.atomic_table.specs.Table.{State, step, keeps, Allows}
use Rattle.map_core.specs.declared.layout.Layout.{Layout}
use Rattle.map_core.specs.declared.view.View.{View}
use Rattle.map_core.specs.Sizes.{cells_of}
use Rattle.map_core.specs.History.{value_in, is_in}
use Rattle.map_core.specs.declared.places.TheConstants.{CURRENT_WORD}
use Rattle.map_core.specs.Places.{offset, word_count, take_word, key_place, value_place, finish_place, current_in, count_in, cells_in, Within, IsCell, IsBlock}
use Rattle.map_core.specs.Machine.{greatest, IsWord, Keeps, state_of, IsPublished, IsMoved, BlockMoved}
use Rattle.map_core.specs.Events.{Event, seals_key, seals_value, takes, finishes, switches, and_then, WritesWord, IsStep, Lawful}
use Rattle.map_core.specs.Passes.{look, drop_claim, HasFilled, Turn, PassFacts}
use Rattle.map_core.specs.Knowing.{sees, reads, rises, passes_by}
use Rattle.map_core.proofs.PlaceLemmas.{key_key, value_value, same_block, block_within}
use Rattle.map_core.proofs.WordLemmas.{keeps_at, keeps_word, keeps_value}
use Rattle.map_core.proofs.CallLemmas.{own_stays}
use Rattle.map_core.proofs.SoundLemmas.{lawful_sound}
use Rattle.map_core.proofs.MovedLemmas.{block_moved_on, block_is_moved}
use Rattle.map_core.proofs.PassLemmas.{keeps_trans}
use Rattle.map_core.proofs.TurnLemmas.{look_hit, sees_turn, reads_turn, value_turn, seal_turn, finish_turn, passes_turn, rises_turn}
use Rattle.map_core.proofs.CountLemmas.{in_hit, in_miss, count_le}
use Rattle.map_core.proofs.FactLemmas.{filled_current}
use Rattle.map_cells.specs.Steps.{CurrentSeen, KeySealed, ValueSealed, BlockTaken, BlockFinished, Switched}
use Rattle.map_cells.specs.Rule.{TableHolds, CurrentLooked, BlockLooked, KeyShut, ValueShut, Took, Ended, Left}
use Rattle.map_cells.proofs.WordSteps.{key_within, value_within, has_take, has_current, same_place, writes_word, first_cells, first_takes, take_cells, take_others, take_is, take_written, take_behind, first_current, first_count, same_take}
use Rattle.map_cells.proofs.WalkLemmas.{closed_here}
use Rattle.map_cells.proofs.Allowed.{about, Owes, sound_now, pass_now, lacks_unset, keep_turn, turn_facts, made, made_load, keep_load, load_facts, saw_in, saw}

module _ (fits : List ℕ → ℕ → ℕ → Type 0) (t : Tag) (slots id : ℕ) (v : View) (c : List (ℕ × Unit {0})) (facts : PassFacts fits v) where
  -- a step that left the cells and the count, and no lower generation current
  module _ (s : State (Unit {0}) View) (kept : TableHolds fits (about v t) s) (at : get_elem? s.views id ≡ some v) (ws : List ℕ) (events : List Event)
      (lawful : Lawful v.layout (fits t.numbers) events (state_of v.layout ws kept.log)) (size : length ws ≡ word_count v.layout)
      (cells : (q : ℕ) → cells_in v.layout ws q ≡ cells_in v.layout s.words q) (count : count_in ws ≡ count_in s.words) (up : current_in s.words ≤ current_in ws) where
    risen_turn : Turn v.layout t.numbers (state_of v.layout s.words kept.log) (state_of v.layout ws kept.log) id v (rises v kept.log (current_in ws))
    risen_turn =
        let l : Layout = v.layout in
        let so = lawful_sound l (fits t.numbers) events (state_of l ws kept.log) lawful in
        let honest : count_in s.words ≤ length kept.log = count_le l t.numbers (state_of l s.words kept.log) s.views kept.together.count in
        let few : count_in ws ≤ length kept.log = subst (λ (x : ℕ). x ≤ length kept.log) (sym count) honest in
        let filled : HasFilled l (current_in ws) kept.log = filled_current l (fits t.numbers) (state_of l ws kept.log) so few in
        rises_turn l t.numbers (state_of l s.words kept.log) id v facts.live (pass_now fits t id v facts.live s kept at) (state_of l ws kept.log) cells refl up count so.moved.within filled

    risen_seen : CurrentSeen fits (current_in ws) v (rises v kept.log (current_in ws))
    risen_seen =
        let here = pass_now fits t id v facts.live s kept at in
        let n : ℕ = current_in ws in
        record {
          rises = record {
            layout = refl;
            tag = refl;
            number = refl;
            numbers = refl;
            spare = refl;
            generation = let low = (here.currents v.generation here.generation).1 in omega arith;
            currents = λ g h. dite (ℕ_discrete g n) (λ e. in_hit g n v.currents e) (λ ne. in_miss g n v.currents ne ∙ h);
            front = record { rest = here.front.rest; joins = here.front.joins };
            seen = λ x h. refl;
            count_seen = omega arith;
            mine = here.front;
            own = own_stays v kept.log here.front;
            claim = λ e. e;
            uncounted = refl;
            counted = refl;
          };
          facts = turn_facts fits t id v facts.live s kept at ws kept.log events (rises v kept.log n) lawful size risen_turn refl facts.alone.0 facts.alone.1;
          claim = refl;
          same_count = refl;
          generation = refl;
          moment = record {
            events = events;
            at = state_of v.layout ws kept.log;
            lawful = subst (λ (x : List ℕ). Lawful v.layout (fits x) events (state_of v.layout ws kept.log)) (sym here.tag) lawful;
            current = refl;
            history = refl;
            known = risen_turn.at.knows;
          };
        }

  pub current_allowed : Allows (TableHolds fits (about v t)) slots id (v, c) CURRENT_WORD (λ n. n) (CurrentLooked fits (step slots CURRENT_WORD 0 0 none) (v, c))
  current_allowed s kept homes at small =
      let turn = risen_turn s kept at s.words kept.events kept.lawful kept.size (λ q. refl) refl (omega arith) in (
        rises v kept.log (current_in s.words),
        keeps,
        tt,
        keep_load fits t id v facts.live s kept at CURRENT_WORD (rises v kept.log (current_in s.words)) turn,
        record { slots = refl; seen = risen_seen s kept at s.words kept.events kept.lawful kept.size (λ q. refl) refl (omega arith) },
      )

  -- all blocks of a generation are seen finished, and the count is seen at three quarters of its cells
  pub switch_allowed : (g : ℕ) → ((b : ℕ) → b < cells_of g / 64 → look v.known (finish_place v.layout g b) ≡ 1) → 3 * cells_of g ≤ 4 * v.count_seen
      → Allows (TableHolds fits (about v t)) slots id (v, c) CURRENT_WORD (λ n. either (n == g) (g + 1) n) (Left fits (step slots CURRENT_WORD g (g + 1) none) (v, c))
  switch_allowed g finished full s kept homes at small =
      let l : Layout = v.layout in
      let n : ℕ = slice_index s.words CURRENT_WORD in
      let C : ℕ → ℕ = cells_in l s.words in
      let here = pass_now fits t id v facts.live s kept at in
      let low : CURRENT_WORD < length s.words = subst (λ (x : ℕ). CURRENT_WORD < x) (sym kept.size) (has_current l) in
      exchanged n g (g + 1) (Owes fits t id v c s CURRENT_WORD n (Left fits (step slots CURRENT_WORD g (g + 1) none) (v, c)))
      (λ is.
      let ws : List ℕ = set s.words CURRENT_WORD (g + 1) in
      let cells = first_cells l s.words CURRENT_WORD (g + 1) (omega arith) in
      let now : current_in ws ≡ g + 1 = get_or-set_same s.words CURRENT_WORD (g + 1) 0 low in
      let up : current_in s.words ≤ current_in ws = let is' : current_in s.words ≡ g = is in omega arith in
      let count : count_in ws ≡ count_in s.words = first_count s.words CURRENT_WORD (g + 1) (λ e. omega arith) in
      let size : length ws ≡ word_count l = length-set s.words CURRENT_WORD (g + 1) ∙ kept.size in
      let all : (b : ℕ) → b < cells_of n / 64 → C (finish_place l n b) ≡ 1 = subst (λ (x : ℕ). (b : ℕ) → b < cells_of x / 64 → C (finish_place l x b) ≡ 1) (sym is)
      (λ b lt. keeps_value (look v.known) C here.knows (finish_place l g b) 1 (omega arith) (finished b lt)) in
      let much : 3 * cells_of n ≤ 4 * count_in s.words = subst (λ (x : ℕ). 3 * cells_of x ≤ 4 * count_in s.words) (sym is)
      (let m : ℕ = cells_of g in let seen : v.count_seen ≤ count_in s.words = here.count_seen in let full' : 3 * m ≤ 4 * v.count_seen = full in let goal : 3 * m ≤ 4 * count_in s.words = omega arith in goal) in
      let is_step : IsStep l (fits t.numbers) switches (state_of l s.words kept.log) (state_of l ws kept.log) = record {
        rests = record { cells = cells; history = refl };
        finished = all;
        full = much;
        current = now ∙ ap (λ (x : ℕ). x + 1) (sym is);
        count = count;
        takes = first_takes l s.words CURRENT_WORD (g + 1) (omega arith);
      } in
      let lawful = and_then kept.events (state_of l s.words kept.log) switches (state_of l ws kept.log) kept.lawful is_step in
      let events : List Event = switches ∷ kept.events in
      let turn = risen_turn s kept at ws events lawful size cells count up in
      let w : View = rises v kept.log (current_in ws) in
      let switched : Switched fits g (current_in ws) v w = record {
        seen = risen_seen s kept at ws events lawful size cells count up;
        left = λ e. omega arith;
        event = inl (made fits t id v facts.live s kept at switches ws kept.log w is_step turn);
      } in
      let result : either (n == g) (g + 1) n ≡ current_in ws = ap (λ (b : Bool). either b (g + 1) n) (eq-eqb n g is) ∙ sym now in (
        w,
        keeps,
        tt,
        keep_turn fits t id v facts.live s kept at ws kept.log events w lawful size turn,
        record { slots = refl; switched = subst (λ (x : ℕ). Switched fits g x v w) (sym result) switched },
      ))
      (λ isnt.
      let turn = risen_turn s kept at s.words kept.events kept.lawful kept.size (λ q. refl) refl (omega arith) in
      let w : View = rises v kept.log (current_in s.words) in
      let switched : Switched fits g n v w = record {
        seen = risen_seen s kept at s.words kept.events kept.lawful kept.size (λ q. refl) refl (omega arith);
        left = isnt;
        event = inr (made_load fits t id v facts.live s kept at w turn);
      } in
      let result : either (n == g) (g + 1) n ≡ n = ap (λ (b : Bool). either b (g + 1) n) (ne_eqb n g isnt) in (
        w,
        keeps,
        tt,
        keep_load fits t id v facts.live s kept at CURRENT_WORD w turn,
        record { slots = refl; switched = subst (λ (x : ℕ). Switched fits g x v w) (sym result) switched },
      ))

  pub block_look_allowed : (g b q : ℕ) → IsBlock v.layout g b → q ≡ finish_place v.layout g b + offset v.layout → Allows (TableHolds fits (about v t)) slots id (v, c) q (λ n. n) (BlockLooked fits (step slots q 0 0 none) (v, c))
  block_look_allowed g b q a place s kept homes at small =
      let p : ℕ = finish_place v.layout g b in
      let n : ℕ = slice_index s.words q in
      let is : cells_in v.layout s.words p ≡ n = ap (slice_index s.words) (sym place) in
      let w : View = sees v kept.log p n in
      let turn = sees_turn v.layout t.numbers (state_of v.layout s.words kept.log) id v facts.live (pass_now fits t id v facts.live s kept at) p n is in (
        w,
        keeps,
        tt,
        keep_load fits t id v facts.live s kept at q w turn,
        record {
          slots = refl;
          seen = λ h d x at_q. record {
            leaves = record {
              looks = saw fits t id v facts.live s kept at p n is w refl refl (refl, refl, refl, refl, refl, refl, refl, refl);
              facts = load_facts fits t id v facts.live s kept at w turn refl facts.alone.0 facts.alone.1;
              claim = refl;
              uncounted = refl;
              counted = refl;
              same_count = refl;
            };
            word = look_hit v.known p n (finish_place v.layout h d) (same_place v.layout p (finish_place v.layout h d) (sym place ∙ at_q));
          };
        },
      )

  seal_key_at : (g i : ℕ) → IsCell v.layout g i → g < v.layout.last
      → Allows (TableHolds fits (about v t)) slots id (v, c) (key_place v.layout g i + offset v.layout) (λ n. either (n == 0) greatest n) (KeyShut fits (step slots (key_place v.layout g i + offset v.layout) 0 greatest none) (v, c))
  seal_key_at g i a below s kept homes at small =
      let l : Layout = v.layout in
      let p : ℕ = key_place l g i in
      let q : ℕ = p + offset l in
      let n : ℕ = slice_index s.words q in
      let C : ℕ → ℕ = cells_in l s.words in
      let here = pass_now fits t id v facts.live s kept at in
      let low : q < length s.words = subst (λ (x : ℕ). q < x) (sym kept.size) (key_within l g i a) in
      let spread : (w : View) → KeySealed fits g i n v w → (h j : ℕ) → IsCell l h j → q ≡ key_place l h j + offset l → KeySealed fits h j n v w = λ w sealed h j b at_q.
      let one = key_key l g i h j a b (same_place l p (key_place l h j) at_q) in
      subst (λ (y : ℕ × ℕ). KeySealed fits y.0 y.1 n v w) (λ x. (one.0 x, one.1 x)) sealed in
      exchanged n 0 greatest (Owes fits t id v c s q n (KeyShut fits (step slots q 0 greatest none) (v, c)))
      (λ zero_there.
      let ws : List ℕ = set s.words q greatest in
      let wr : WritesWord p 0 greatest (state_of l s.words kept.log) (state_of l ws kept.log) = subst (λ (x : ℕ). WritesWord p x greatest (state_of l s.words kept.log) (state_of l ws kept.log)) zero_there (writes_word l s.words kept.log kept.log p greatest low) in
      let is_step : IsStep l (fits t.numbers) (seals_key g i) (state_of l s.words kept.log) (state_of l ws kept.log) = record { cell = a; below = below; word = wr; history = refl } in
      let lawful = and_then kept.events (state_of l s.words kept.log) (seals_key g i) (state_of l ws kept.log) kept.lawful is_step in
      let events : List Event = seals_key g i ∷ kept.events in
      let w : View = sees v kept.log p greatest in
      let turn = seal_turn l t.numbers (state_of l s.words kept.log) id v facts.live here (state_of l ws kept.log) g i a wr refl in
      let size : length ws ≡ word_count l = length-set s.words q greatest ∙ kept.size in
      let D : ℕ → ℕ = cells_in l ws in
      let knows : Keeps (look v.known) D = keeps_trans (look v.known) C D here.knows (keeps_at p C D wr.was wr.only) in
      let sealed : KeySealed fits g i n v w = record {
        leaves = record {
          looks = saw_in fits t id v facts.live s kept at D knows p greatest wr.is w refl refl (refl, refl, refl, refl, refl, refl, refl, refl);
          facts = turn_facts fits t id v facts.live s kept at ws kept.log events w lawful size turn refl facts.alone.0 facts.alone.1;
          claim = refl;
          uncounted = refl;
          counted = refl;
          same_count = refl;
        };
        won = λ z. look_hit v.known p greatest p refl;
        event = λ z. made fits t id v facts.live s kept at (seals_key g i) ws kept.log w is_step turn;
        lost = λ nz. absurd (nz zero_there);
      } in (
        w,
        keeps,
        tt,
        keep_turn fits t id v facts.live s kept at ws kept.log events w lawful size turn,
        record { slots = refl; sealed = spread w sealed },
      ))
      (λ nonzero.
      let w : View = sees v kept.log p n in
      let turn = sees_turn l t.numbers (state_of l s.words kept.log) id v facts.live here p n refl in
      let sealed : KeySealed fits g i n v w = record {
        leaves = record {
          looks = saw fits t id v facts.live s kept at p n refl w refl refl (refl, refl, refl, refl, refl, refl, refl, refl);
          facts = load_facts fits t id v facts.live s kept at w turn refl facts.alone.0 facts.alone.1;
          claim = refl;
          uncounted = refl;
          counted = refl;
          same_count = refl;
        };
        won = λ z. absurd (nonzero z);
        event = λ z. absurd (nonzero z);
        lost = λ nz. look_hit v.known p n p refl;
      } in (
        w,
        keeps,
        tt,
        keep_load fits t id v facts.live s kept at q w turn,
        record { slots = refl; sealed = spread w sealed },
      ))

  pub seal_key_allowed : (g i q : ℕ) → IsCell v.layout g i → q ≡ key_place v.layout g i + offset v.layout → g < v.layout.last
      → Allows (TableHolds fits (about v t)) slots id (v, c) q (λ n. either (n == 0) greatest n) (KeyShut fits (step slots q 0 greatest none) (v, c))
  seal_key_allowed g i q a place below =
      subst (λ (x : ℕ). Allows (TableHolds fits (about v t)) slots id (v, c) x (λ n. either (n == 0) greatest n) (KeyShut fits (step slots x 0 greatest none) (v, c))) (sym place) (seal_key_at g i a below)

  seal_value_at : (g i : ℕ) → IsCell v.layout g i → g < v.layout.last → IsWord (look v.known (key_place v.layout g i)) → is_in g v.currents ≡ true
      → Allows (TableHolds fits (about v t)) slots id (v, c) (value_place v.layout g i + offset v.layout) (λ n. either (n == 0) greatest n) (ValueShut fits (step slots (value_place v.layout g i + offset v.layout) 0 greatest none) (v, c))
  seal_value_at g i a below word current s kept homes at small =
      let l : Layout = v.layout in
      let p : ℕ = value_place l g i in
      let q : ℕ = p + offset l in
      let n : ℕ = slice_index s.words q in
      let C : ℕ → ℕ = cells_in l s.words in
      let so = sound_now fits t id v facts.live s kept at in
      let here = pass_now fits t id v facts.live s kept at in
      let low : q < length s.words = subst (λ (x : ℕ). q < x) (sym kept.size) (value_within l g i a) in
      let k : ℕ = C (key_place l g i) in
      let key : IsWord k = keeps_word (look v.known) C here.knows (key_place l g i) word in
      let spread : (w : View) → ValueSealed fits g i n v w → (h j : ℕ) → IsCell l h j → q ≡ value_place l h j + offset l → ValueSealed fits h j n v w = λ w sealed h j b at_q.
      let one = value_value l g i h j a b (same_place l p (value_place l h j) at_q) in
      subst (λ (y : ℕ × ℕ). ValueSealed fits y.0 y.1 n v w) (λ x. (one.0 x, one.1 x)) sealed in
      exchanged n 0 greatest (Owes fits t id v c s q n (ValueShut fits (step slots q 0 greatest none) (v, c)))
      (λ zero_there.
      let ws : List ℕ = set s.words q greatest in
      let wr : WritesWord p 0 greatest (state_of l s.words kept.log) (state_of l ws kept.log) = subst (λ (x : ℕ). WritesWord p x greatest (state_of l s.words kept.log) (state_of l ws kept.log)) zero_there (writes_word l s.words kept.log kept.log p greatest low) in
      let lacks : value_in kept.log k ≡ None = lacks_unset fits t id v facts.live s kept at g i k a key refl zero_there (closed_here v g k current) in
      let alone : (h x : ℕ) → h ≢ g → IsPublished l C h k x → ⊥ = λ h x ne there.
      let has : value_in kept.log k ≡ Some x = subst (λ (y : ℕ × ℕ). value_in kept.log y.0 ≡ Some y.1) (λ z. (there.key_is z, there.value_is z))
      (so.history.kept h there.index there.cell (subst IsWord (sym there.key_is) there.key) (subst IsWord (sym there.value_is) there.value)) in
      let bad : None ≡ Some x = sym lacks ∙ has in absurd (cc) in
      let is_step : IsStep l (fits t.numbers) (seals_value g i) (state_of l s.words kept.log) (state_of l ws kept.log) = record { cell = a; below = below; key = key; alone = alone; word = wr; history = refl } in
      let lawful = and_then kept.events (state_of l s.words kept.log) (seals_value g i) (state_of l ws kept.log) kept.lawful is_step in
      let events : List Event = seals_value g i ∷ kept.events in
      let w : View = reads l v kept.log g i greatest in
      let turn = value_turn l t.numbers (state_of l s.words kept.log) id v facts.live here (state_of l ws kept.log) g i greatest a (omega arith) wr refl in
      let size : length ws ≡ word_count l = length-set s.words q greatest ∙ kept.size in
      let D : ℕ → ℕ = cells_in l ws in
      let knows : Keeps (look v.known) D = keeps_trans (look v.known) C D here.knows (keeps_at p C D wr.was wr.only) in
      let sealed : ValueSealed fits g i n v w = record {
        looks = saw_in fits t id v facts.live s kept at D knows p greatest wr.is w refl refl (refl, refl, refl, refl, refl, refl, refl, refl);
        facts = turn_facts fits t id v facts.live s kept at ws kept.log events w lawful size turn refl facts.alone.0 facts.alone.1;
        claim = ap (λ (b : Bool). if b then v.claim else drop_claim v.claim g i) (ne_eqb greatest 0 (λ e. omega arith));
        uncounted = refl;
        counted = refl;
        same_count = refl;
        won = λ z. look_hit v.known p greatest p refl;
        event = λ z. made fits t id v facts.live s kept at (seals_value g i) ws kept.log w is_step turn;
        lost = λ nz. absurd (nz zero_there);
      } in (
        w,
        keeps,
        tt,
        keep_turn fits t id v facts.live s kept at ws kept.log events w lawful size turn,
        record { slots = refl; sealed = spread w sealed },
      ))
      (λ nonzero.
      let w : View = reads l v kept.log g i n in
      let turn = reads_turn l t.numbers (state_of l s.words kept.log) id v facts.live here g i n a refl in
      let sealed : ValueSealed fits g i n v w = record {
        looks = saw fits t id v facts.live s kept at p n refl w refl refl (refl, refl, refl, refl, refl, refl, refl, refl);
        facts = load_facts fits t id v facts.live s kept at w turn refl facts.alone.0 facts.alone.1;
        claim = ap (λ (b : Bool). if b then v.claim else drop_claim v.claim g i) (ne_eqb n 0 nonzero);
        uncounted = refl;
        counted = refl;
        same_count = refl;
        won = λ z. absurd (nonzero z);
        event = λ z. absurd (nonzero z);
        lost = λ nz. look_hit v.known p n p refl;
      } in (
        w,
        keeps,
        tt,
        keep_load fits t id v facts.live s kept at q w turn,
        record { slots = refl; sealed = spread w sealed },
      ))

  pub seal_value_allowed : (g i q : ℕ) → IsCell v.layout g i → q ≡ value_place v.layout g i + offset v.layout → g < v.layout.last → IsWord (look v.known (key_place v.layout g i)) → is_in g v.currents ≡ true
      → Allows (TableHolds fits (about v t)) slots id (v, c) q (λ n. either (n == 0) greatest n) (ValueShut fits (step slots q 0 greatest none) (v, c))
  seal_value_allowed g i q a place below word current =
      subst (λ (x : ℕ). Allows (TableHolds fits (about v t)) slots id (v, c) x (λ n. either (n == 0) greatest n) (ValueShut fits (step slots x 0 greatest none) (v, c))) (sym place) (seal_value_at g i a below word current)

  take_at : (g : ℕ) → Within v.layout g → Allows (TableHolds fits (about v t)) slots id (v, c) (take_word g) (λ n. (n + 1) % 2 ^ 64) (Took fits (step slots (take_word g) 1 0 none) (v, c))
  take_at g within s kept homes at small =
      let l : Layout = v.layout in
      let q : ℕ = take_word g in
      let n : ℕ = slice_index s.words q in
      let x : ℕ = (n + 1) % 2 ^ 64 in
      let here = pass_now fits t id v facts.live s kept at in
      let low : q < length s.words = subst (λ (y : ℕ). q < y) (sym kept.size) (has_take l g within) in
      let behind : 32 ≤ q = take_behind g in
      let ws : List ℕ = set s.words q x in
      let cells = take_cells l s.words g x within in
      let current : current_in ws ≡ current_in s.words = first_current s.words q x (omega arith) in
      let count : count_in ws ≡ count_in s.words = first_count s.words q x (λ e. omega arith) in
      let is_step : IsStep l (fits t.numbers) (takes g) (state_of l s.words kept.log) (state_of l ws kept.log) = record {
        within = within;
        rests = record { cells = cells; history = refl };
        taken = take_written l s.words g x within low ∙ ap (λ (y : ℕ). (y + 1) % 2 ^ 64) (sym (take_is l s.words g within));
        others = take_others l s.words g x;
        current = current;
        count = count;
      } in
      let lawful = and_then kept.events (state_of l s.words kept.log) (takes g) (state_of l ws kept.log) kept.lawful is_step in
      let events : List Event = takes g ∷ kept.events in
      let w : View = passes_by v kept.log in
      let turn = passes_turn l t.numbers (state_of l s.words kept.log) id v facts.live here (state_of l ws kept.log) cells refl (let e = current in omega arith) count in
      let size : length ws ≡ word_count l = length-set s.words q x ∙ kept.size in
      let mine = here.front in
      let taken : BlockTaken fits g v w = record {
        leaves = record {
          looks = record {
            steps = record {
              layout = refl;
              tag = refl;
              number = refl;
              numbers = refl;
              spare = refl;
              generation = refl;
              currents = refl;
              front = record { rest = mine.rest; joins = mine.joins };
              seen = λ y h. refl;
              count_seen = omega arith;
            };
            mine = mine;
            own = own_stays v kept.log mine;
          };
          facts = turn_facts fits t id v facts.live s kept at ws kept.log events w lawful size turn refl facts.alone.0 facts.alone.1;
          claim = refl;
          uncounted = refl;
          counted = refl;
          same_count = refl;
        };
        event = made fits t id v facts.live s kept at (takes g) ws kept.log w is_step turn;
      } in (
        w,
        keeps,
        tt,
        keep_turn fits t id v facts.live s kept at ws kept.log events w lawful size turn,
        record { slots = refl; taken = λ h a at_q. subst (λ (y : ℕ). BlockTaken fits y v w) (same_take g h at_q) taken },
      )

  pub take_allowed : (g q : ℕ) → Within v.layout g → q ≡ take_word g → Allows (TableHolds fits (about v t)) slots id (v, c) q (λ n. (n + 1) % 2 ^ 64) (Took fits (step slots q 1 0 none) (v, c))
  take_allowed g q within place =
      subst (λ (x : ℕ). Allows (TableHolds fits (about v t)) slots id (v, c) x (λ n. (n + 1) % 2 ^ 64) (Took fits (step slots x 1 0 none) (v, c))) (sym place) (take_at g within)

  finish_at : (g b : ℕ) → IsBlock v.layout g b → BlockMoved v.layout (look v.known) g b
      → Allows (TableHolds fits (about v t)) slots id (v, c) (finish_place v.layout g b + offset v.layout) (λ n. either (n == 0) 1 n) (Ended fits (step slots (finish_place v.layout g b + offset v.layout) 0 1 none) (v, c))
  finish_at g b a moved s kept homes at small =
      let l : Layout = v.layout in
      let p : ℕ = finish_place l g b in
      let q : ℕ = p + offset l in
      let n : ℕ = slice_index s.words q in
      let C : ℕ → ℕ = cells_in l s.words in
      let so = sound_now fits t id v facts.live s kept at in
      let here = pass_now fits t id v facts.live s kept at in
      let low : q < length s.words = subst (λ (x : ℕ). q < x) (sym kept.size) (block_within l g b a) in
      let spread : (w : View) → BlockFinished fits g b v w → (h d : ℕ) → IsBlock l h d → q ≡ finish_place l h d + offset l → BlockFinished fits h d v w = λ w finished h d x at_q.
      let one = same_block l g b h d a x (same_place l p (finish_place l h d) at_q) in
      subst (λ (y : ℕ × ℕ). BlockFinished fits y.0 y.1 v w) (λ z. (one.0 z, one.1 z)) finished in
      exchanged n 0 1 (Owes fits t id v c s q n (Ended fits (step slots q 0 1 none) (v, c)))
      (λ zero_there.
      let ws : List ℕ = set s.words q 1 in
      let wr : WritesWord p 0 1 (state_of l s.words kept.log) (state_of l ws kept.log) = subst (λ (x : ℕ). WritesWord p x 1 (state_of l s.words kept.log) (state_of l ws kept.log)) zero_there (writes_word l s.words kept.log kept.log p 1 low) in
      let is_moved : IsMoved l C g b = block_is_moved l C g b (block_moved_on l (look v.known) C here.knows g b moved) in
      let is_step : IsStep l (fits t.numbers) (finishes g b) (state_of l s.words kept.log) (state_of l ws kept.log) = record { block = a; moved = is_moved; word = wr; history = refl } in
      let lawful = and_then kept.events (state_of l s.words kept.log) (finishes g b) (state_of l ws kept.log) kept.lawful is_step in
      let events : List Event = finishes g b ∷ kept.events in
      let w : View = sees v kept.log p 1 in
      let turn = finish_turn l t.numbers (state_of l s.words kept.log) id v facts.live here (state_of l ws kept.log) g b wr refl in
      let size : length ws ≡ word_count l = length-set s.words q 1 ∙ kept.size in
      let D : ℕ → ℕ = cells_in l ws in
      let knows : Keeps (look v.known) D = keeps_trans (look v.known) C D here.knows (keeps_at p C D wr.was wr.only) in
      let finished : BlockFinished fits g b v w = record {
        leaves = record {
          looks = saw_in fits t id v facts.live s kept at D knows p 1 wr.is w refl refl (refl, refl, refl, refl, refl, refl, refl, refl);
          facts = turn_facts fits t id v facts.live s kept at ws kept.log events w lawful size turn refl facts.alone.0 facts.alone.1;
          claim = refl;
          uncounted = refl;
          counted = refl;
          same_count = refl;
        };
        word = look_hit v.known p 1 p refl;
        event = inl (made fits t id v facts.live s kept at (finishes g b) ws kept.log w is_step turn);
      } in (
        w,
        keeps,
        tt,
        keep_turn fits t id v facts.live s kept at ws kept.log events w lawful size turn,
        record { slots = refl; finished = spread w finished },
      ))
      (λ nonzero.
      let most : n ≤ 1 = so.finished.small g b a in
      let one : n ≡ 1 = omega arith in
      let w : View = sees v kept.log p n in
      let turn = sees_turn l t.numbers (state_of l s.words kept.log) id v facts.live here p n refl in
      let finished : BlockFinished fits g b v w = record {
        leaves = record {
          looks = saw fits t id v facts.live s kept at p n refl w refl refl (refl, refl, refl, refl, refl, refl, refl, refl);
          facts = load_facts fits t id v facts.live s kept at w turn refl facts.alone.0 facts.alone.1;
          claim = refl;
          uncounted = refl;
          counted = refl;
          same_count = refl;
        };
        word = look_hit v.known p n p refl ∙ one;
        event = inr (made_load fits t id v facts.live s kept at w turn);
      } in (
        w,
        keeps,
        tt,
        keep_load fits t id v facts.live s kept at q w turn,
        record { slots = refl; finished = spread w finished },
      ))

  pub finish_allowed : (g b q : ℕ) → IsBlock v.layout g b → q ≡ finish_place v.layout g b + offset v.layout → BlockMoved v.layout (look v.known) g b
      → Allows (TableHolds fits (about v t)) slots id (v, c) q (λ n. either (n == 0) 1 n) (Ended fits (step slots q 0 1 none) (v, c))
  finish_allowed g b q a place moved =
      subst (λ (x : ℕ). Allows (TableHolds fits (about v t)) slots id (v, c) x (λ n. either (n == 0) 1 n) (Ended fits (step slots x 0 1 none) (v, c))) (sym place) (finish_at g b a moved)
