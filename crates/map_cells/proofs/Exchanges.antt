-- Exchanges, the addition to the count and the end of a join keep the rule, and tell what their calls ensure.
use Rattle.std.proofs.Common.{◌≡◌, ◌≢◌, ℕ, ◌+◌, ◌%◌, ◌^◌, ◌<◌, ◌≤◌, Bool, true, false, List, [], ◌∷◌, ◌++◌, length, set, slice_index, Some, None, if◌then◌else◌, ◌==◌, refl, sym, ap, subst, ◌∙◌, inl, inr, ⊎_elim, arith, length-set, mod-eq_of_lt, append_assoc, ne_eqb, get_or-set_other, get_or-set_same}
use mathlib.Core.Option.{some, none}
use lib.ListN.{get_elem?}
use prog.Atomic.{either}
use Rattle.boxcar.specs.declared.tag.Tag.{Tag}
use Rattle.atomic_table.proofs.Lists.{set_here, exchanged}
use Rattle.atomic_table.specs.Table.{State, step, keeps, Allows}
use Rattle.map_core.specs.declared.entry.Entry.{Entry}
use Rattle.map_core.specs.declared.layout.Layout.{Layout}
use Rattle.map_core.specs.declared.view.View.{View}
use Rattle.map_core.specs.Sizes.{cells_of}
use Rattle.map_core.specs.History.{value_in, by_any}
use Rattle.map_core.specs.declared.places.TheConstants.{CURRENT_WORD, COUNT_WORD}
use Rattle.map_core.specs.Places.{offset, word_count, key_place, value_place, current_in, count_in, cells_in, IsCell}
use Rattle.map_core.specs.Machine.{greatest, IsWord, Keeps, state_of, Reaches, IsPublished, IsSettled}
use Rattle.map_core.specs.Events.{claims, publishes, counts, entry, and_then, WritesWord, IsStep}
use Rattle.map_core.specs.Calls.{own}
use Rattle.map_core.specs.Passes.{look, drop_claim, total, PassFacts}
use Rattle.map_core.specs.Knowing.{all_but_first, sees, reads, grabs, places, tallies, settles}
use Rattle.map_core.proofs.PlaceLemmas.{key_key, value_value}
use Rattle.map_core.proofs.WordLemmas.{keeps_at, reaches_on, keeps_value, settled_on}
use Rattle.map_core.proofs.HistoryLemmas.{by_append, by_hit}
use Rattle.map_core.proofs.CallLemmas.{own_stays}
use Rattle.map_core.proofs.PassLemmas.{keeps_trans, there_below, turns}
use Rattle.map_core.proofs.TurnLemmas.{look_hit, seen_more, sees_turn, reads_turn, grabs_turn, value_turn, places_turn, tallies_turn, settles_turn}
use Rattle.map_core.proofs.CountLemmas.{log_small, total_le, count_le}
use Rattle.map_cells.specs.Steps.{ClosedTo, SettledTo, StepFrame, MayPublish, KeyTried, ValueTried}
use Rattle.map_cells.specs.Rule.{TableHolds, Claimed, Published, Counted, Settled}
use Rattle.map_cells.proofs.WordSteps.{most_words, words_small, has_count, key_within, value_within, same_place, writes_word, first_cells, first_takes}
use Rattle.map_cells.proofs.Allowed.{about, Owes, sound_now, pass_now, lacks_unset, has_seen, keep_turn, turn_facts, made, keep_load, load_facts, saw}

module _ (fits : List ℕ → ℕ → ℕ → Type 0) (t : Tag) (slots id : ℕ) (v : View) (c : List (ℕ × Unit {0})) (facts : PassFacts fits v) where
  claim_at : (g i k : ℕ) → IsCell v.layout g i → IsWord k → v.claim ≡ None → Reaches v.layout (look v.known) g i k → SettledTo v g k
      → Allows (TableHolds fits (about v t)) slots id (v, c) (key_place v.layout g i + offset v.layout) (λ n. either (n == 0) k n) (Claimed fits (step slots (key_place v.layout g i + offset v.layout) 0 k none) (v, c))
  claim_at g i k a word free walk settled s kept homes at small =
      let l : Layout = v.layout in
      let p : ℕ = key_place l g i in
      let q : ℕ = p + offset l in
      let n : ℕ = slice_index s.words q in
      let C : ℕ → ℕ = cells_in l s.words in
      let so = sound_now fits t id v facts.live s kept at in
      let here = pass_now fits t id v facts.live s kept at in
      let low : q < length s.words = subst (λ (x : ℕ). q < x) (sym kept.size) (key_within l g i a) in
      exchanged n 0 k (Owes fits t id v c s q n (Claimed fits (step slots q 0 k none) (v, c)))
      (λ zero_there.
      let ws : List ℕ = set s.words q k in
      let wr : WritesWord p 0 k (state_of l s.words kept.log) (state_of l ws kept.log) = subst (λ (x : ℕ). WritesWord p x k (state_of l s.words kept.log) (state_of l ws kept.log)) zero_there (writes_word l s.words kept.log kept.log p k low) in
      let settle : (h : ℕ) → current_in s.words ≤ h → h < g → IsSettled l C h k = λ h up below.
      let b = (here.currents settled.from settled.current).1 in
      settled_on l (look v.known) C here.knows h k word.0 (settled.settled h (omega arith) below) in
      let is_step : IsStep l (fits t.numbers) (claims g i k) (state_of l s.words kept.log) (state_of l ws kept.log) = record { cell = a; key = word; reached = reaches_on l (look v.known) C here.knows g i k walk; settled = settle; word = wr; history = refl } in
      let lawful = and_then kept.events (state_of l s.words kept.log) (claims g i k) (state_of l ws kept.log) kept.lawful is_step in
      let w : View = grabs l v kept.log g i k in
      let turn = grabs_turn l t.numbers (state_of l s.words kept.log) id v facts.live here (state_of l ws kept.log) g i k a free wr refl in
      let size : length ws ≡ word_count l = length-set s.words q k ∙ kept.size in
      let D : ℕ → ℕ = cells_in l ws in
      let knows : Keeps (look v.known) D = keeps_trans (look v.known) C D here.knows (keeps_at p C D wr.was wr.only) in
      let mine = here.front in
      let tried : KeyTried fits g i k n v w = record {
        looks = record {
          steps = record {
            layout = refl;
            tag = refl;
            number = refl;
            numbers = refl;
            spare = refl;
            generation = refl;
            currents = refl;
            front = record { rest = mine.rest; joins = mine.joins };
            seen = λ x h. seen_more v.known D p k x wr.is knows h;
            count_seen = omega arith;
          };
          mine = mine;
          own = own_stays v kept.log mine;
        };
        facts = turn_facts fits t id v facts.live s kept at ws kept.log (claims g i k ∷ kept.events) w lawful size turn refl facts.alone.0 facts.alone.1;
        uncounted = refl;
        counted = refl;
        same_count = refl;
        unsealed = λ last. omega arith;
        won = λ z. (refl, look_hit v.known p k p refl);
        lost = λ nz. absurd (nz zero_there);
        event = λ z. made fits t id v facts.live s kept at (claims g i k) ws kept.log w is_step turn;
      } in (
        w,
        keeps,
        tt,
        keep_turn fits t id v facts.live s kept at ws kept.log (claims g i k ∷ kept.events) w lawful size turn,
        record { slots = refl; tried = λ h j b at_q. let one = key_key l g i h j a b (same_place l p (key_place l h j) at_q) in subst (λ (y : ℕ × ℕ). KeyTried fits y.0 y.1 k n v w) (λ x. (one.0 x, one.1 x)) tried },
      ))
      (λ nonzero.
      let w : View = sees v kept.log p n in
      let turn = sees_turn l t.numbers (state_of l s.words kept.log) id v facts.live here p n refl in
      let tried : KeyTried fits g i k n v w = record {
        looks = saw fits t id v facts.live s kept at p n refl w refl refl (refl, refl, refl, refl, refl, refl, refl, refl);
        facts = load_facts fits t id v facts.live s kept at w turn refl facts.alone.0 facts.alone.1;
        uncounted = refl;
        counted = refl;
        same_count = refl;
        unsealed = λ last. subst (λ (x : ℕ). x < greatest) (ap (λ (x : ℕ). C (key_place l x i)) (sym last)) (so.cells.last_open i (subst (λ (x : ℕ). i < cells_of x) last a.1)).0;
        won = λ z. absurd (nonzero z);
        lost = λ nz. (refl, look_hit v.known p n p refl);
        event = λ z. absurd (nonzero z);
      } in (
        w,
        keeps,
        tt,
        keep_load fits t id v facts.live s kept at q w turn,
        record { slots = refl; tried = λ h j b at_q. let one = key_key l g i h j a b (same_place l p (key_place l h j) at_q) in subst (λ (y : ℕ × ℕ). KeyTried fits y.0 y.1 k n v w) (λ x. (one.0 x, one.1 x)) tried },
      ))

  pub claim_allowed : (g i k q : ℕ) → IsCell v.layout g i → q ≡ key_place v.layout g i + offset v.layout → IsWord k → v.claim ≡ None → Reaches v.layout (look v.known) g i k → SettledTo v g k
      → Allows (TableHolds fits (about v t)) slots id (v, c) q (λ n. either (n == 0) k n) (Claimed fits (step slots q 0 k none) (v, c))
  claim_allowed g i k q a place word free walk settled =
      subst (λ (x : ℕ). Allows (TableHolds fits (about v t)) slots id (v, c) x (λ n. either (n == 0) k n) (Claimed fits (step slots x 0 k none) (v, c))) (sym place) (claim_at g i k a word free walk settled)

  -- a pair that is seen published, and one that fits and whose key is seen closed below: where both hold, the value word is set
  never_both : (s : State (Unit {0}) View) (kept : TableHolds fits (about v t) s) → get_elem? s.views id ≡ some v → (g i k x h : ℕ) → IsCell v.layout g i → IsWord k → look v.known (key_place v.layout g i) ≡ k
      → IsPublished v.layout (look v.known) h k x → ClosedTo v g k → cells_in v.layout s.words (value_place v.layout g i) ≢ 0
  never_both s kept at g i k x h a word key seen closed unset =
      let key_there = keeps_value (look v.known) (cells_in v.layout s.words) (pass_now fits t id v facts.live s kept at).knows (key_place v.layout g i) k word.0 key in
      let bad : None ≡ Some x = sym (lacks_unset fits t id v facts.live s kept at g i k a word key_there unset closed) ∙ has_seen fits t id v facts.live s kept at h k x seen in absurd (cc)

  publish_at : (g i k x : ℕ) → IsCell v.layout g i → IsWord k → IsWord x → look v.known (key_place v.layout g i) ≡ k → MayPublish fits g k x v
      → Allows (TableHolds fits (about v t)) slots id (v, c) (value_place v.layout g i + offset v.layout) (λ n. either (n == 0) x n) (Published fits (step slots (value_place v.layout g i + offset v.layout) 0 x none) (v, c))
  publish_at g i k x a word value key may s kept homes at small =
      let l : Layout = v.layout in
      let p : ℕ = value_place l g i in
      let q : ℕ = p + offset l in
      let n : ℕ = slice_index s.words q in
      let C : ℕ → ℕ = cells_in l s.words in
      let so = sound_now fits t id v facts.live s kept at in
      let here = pass_now fits t id v facts.live s kept at in
      let low : q < length s.words = subst (λ (y : ℕ). q < y) (sym kept.size) (value_within l g i a) in
      let key_there : C (key_place l g i) ≡ k = keeps_value (look v.known) C here.knows (key_place l g i) k word.0 key in
      let mine = here.front in
      let both_set : (h : ℕ) → IsPublished l (look v.known) h k x → ClosedTo v g k → n ≢ 0 = λ h p closed. never_both s kept at g i k x h a word key p closed in
      let spread : (w : View) → ValueTried fits g i k x n v w → (h j m : ℕ) → IsCell l h j → q ≡ value_place l h j + offset l → IsWord m → look v.known (key_place l h j) ≡ m → ValueTried fits h j m x n v w = λ w tried h j m b at_q word_m key_m.
      let one = value_value l g i h j a b (same_place l p (value_place l h j) at_q) in
      let same : k ≡ m = sym key ∙ (ap (λ (y : ℕ × ℕ). look v.known (key_place l y.0 y.1)) (λ z. (one.0 z, one.1 z)) ∙ key_m) in
      subst (λ (y : ℕ × ℕ × ℕ). ValueTried fits y.0 y.1 y.2 x n v w) (λ z. (one.0 z, one.1 z, same z)) tried in
      exchanged n 0 x (Owes fits t id v c s q n (Published fits (step slots q 0 x none) (v, c)))
      (λ zero_there.
      let ws : List ℕ = set s.words q x in
      let e : Entry = entry v.number k x in
      let size : length ws ≡ word_count l = length-set s.words q x ∙ kept.size in
      let D : ℕ → ℕ = cells_in l ws in
      let writes : (log : List Entry) → WritesWord p 0 x (state_of l s.words kept.log) (state_of l ws log) = λ log. subst (λ (y : ℕ). WritesWord p y x (state_of l s.words kept.log) (state_of l ws log)) zero_there (writes_word l s.words kept.log log p x low) in
      let knows : Keeps (look v.known) D = keeps_trans (look v.known) C D here.knows (keeps_at p C D (writes kept.log).was (writes kept.log).only) in
      let sees_more : (y : ℕ) → 0 < look v.known y → look ((p, x) ∷ v.known) y ≡ look v.known y = λ y h. seen_more v.known D p x y (writes kept.log).is knows h in
      ⊎_elim
      (λ (there : (h : ℕ) × IsPublished l (look v.known) h k x).
      let has : value_in kept.log k ≡ Some x = has_seen fits t id v facts.live s kept at there.0 k x there.1 in
      let is_step : IsStep l (fits t.numbers) (publishes v.number g i k x) (state_of l s.words kept.log) (state_of l ws kept.log) = record { cell = a; key = word; value = value; stands = key_there; word = writes kept.log; adds = inl (has, refl) } in
      let lawful = and_then kept.events (state_of l s.words kept.log) (publishes v.number g i k x) (state_of l ws kept.log) kept.lawful is_step in
      let w : View = reads l v kept.log g i x in
      let turn = value_turn l t.numbers (state_of l s.words kept.log) id v facts.live here (state_of l ws kept.log) g i x a value.0 (writes kept.log) refl in
      let steps : StepFrame v w = record {
        layout = refl;
        tag = refl;
        number = refl;
        numbers = refl;
        spare = refl;
        generation = refl;
        currents = refl;
        front = record { rest = mine.rest; joins = mine.joins };
        seen = sees_more;
        count_seen = omega arith;
      } in
      let set_now : (x == 0) ≡ false = ne_eqb x 0 (λ z. let pos = value.0 in omega arith) in
      let tried : ValueTried fits g i k x n v w = record {
        steps = steps;
        facts = turn_facts fits t id v facts.live s kept at ws kept.log (publishes v.number g i k x ∷ kept.events) w lawful size turn refl facts.alone.0 facts.alone.1;
        counted = refl;
        same_count = refl;
        claim = ap (λ (b : Bool). if b then v.claim else drop_claim v.claim g i) set_now;
        unclosed = λ last. omega arith;
        won = λ z fit closed. absurd (both_set there.0 there.1 closed z);
        kept = λ z h q. record { looks = record { steps = steps; mine = mine; own = own_stays v kept.log mine }; uncounted = refl };
        set = λ z. look_hit v.known p x p refl;
        event = λ z. made fits t id v facts.live s kept at (publishes v.number g i k x) ws kept.log w is_step turn;
        lost = λ nz. absurd (nz zero_there);
        present = λ y. let pos = y.0 in absurd (omega arith);
        both = λ h p fit closed. both_set h p closed;
      } in (
        w,
        keeps,
        tt,
        keep_turn fits t id v facts.live s kept at ws kept.log (publishes v.number g i k x ∷ kept.events) w lawful size turn,
        record { slots = refl; tried = spread w tried },
      ))
      (λ (new : fits v.tag k x × ClosedTo v g k).
      let log : List Entry = kept.log ++ e ∷ [] in
      let lacks : value_in kept.log k ≡ None = lacks_unset fits t id v facts.live s kept at g i k a word key_there zero_there new.1 in
      let fit_now : fits t.numbers k x = subst (λ (y : List ℕ). fits y k x) here.tag new.0 in
      let is_step : IsStep l (fits t.numbers) (publishes v.number g i k x) (state_of l s.words kept.log) (state_of l ws log) = record { cell = a; key = word; value = value; stands = key_there; word = writes log; adds = inr (lacks, fit_now, refl) } in
      let lawful = and_then kept.events (state_of l s.words kept.log) (publishes v.number g i k x) (state_of l ws log) kept.lawful is_step in
      let w : View = places l v log g i x e in
      let turn = places_turn l t.numbers (state_of l s.words kept.log) id v facts.live here (state_of l ws log) g i k x a value.0 facts.alone.1 (writes log) refl in
      let tried : ValueTried fits g i k x n v w = record {
        steps = record {
          layout = refl;
          tag = refl;
          number = refl;
          numbers = refl;
          spare = refl;
          generation = refl;
          currents = refl;
          front = record { rest = mine.rest ++ e ∷ []; joins = sym (append_assoc v.front mine.rest (e ∷ [])) ∙ ap (λ (y : List Entry). y ++ e ∷ []) mine.joins };
          seen = sees_more;
          count_seen = omega arith;
        };
        facts = turn_facts fits t id v facts.live s kept at ws log (publishes v.number g i k x ∷ kept.events) w lawful size turn refl facts.alone.0 facts.alone.1;
        counted = refl;
        same_count = refl;
        claim = refl;
        unclosed = λ last. omega arith;
        won = λ z fit closed. record {
          newest = record { before = kept.log; front = refl; old = record { rest = mine.rest; joins = mine.joins }; lacks = lacks };
          own = by_append v.numbers kept.log (e ∷ []) ∙ ((λ y. own_stays v kept.log mine y ++ by_any v.numbers (e ∷ [])) ∙ ap (λ (y : List Entry). own v ++ y) (by_hit v.numbers e [] facts.own));
          uncounted = refl;
        };
        kept = λ z h q. absurd (both_set h q new.1 zero_there);
        set = λ z. look_hit v.known p x p refl;
        event = λ z. made fits t id v facts.live s kept at (publishes v.number g i k x) ws log w is_step turn;
        lost = λ nz. absurd (nz zero_there);
        present = λ y. let pos = y.0 in absurd (omega arith);
        both = λ h p fit closed. both_set h p closed;
      } in (
        w,
        keeps,
        tt,
        keep_turn fits t id v facts.live s kept at ws log (publishes v.number g i k x ∷ kept.events) w lawful size turn,
        record { slots = refl; tried = spread w tried },
      ))
      may)
      (λ nonzero.
      let w : View = reads l v kept.log g i n in
      let turn = reads_turn l t.numbers (state_of l s.words kept.log) id v facts.live here g i n a refl in
      let looks = saw fits t id v facts.live s kept at p n refl w refl refl (refl, refl, refl, refl, refl, refl, refl, refl) in
      let tried : ValueTried fits g i k x n v w = record {
        steps = looks.steps;
        facts = load_facts fits t id v facts.live s kept at w turn refl facts.alone.0 facts.alone.1;
        counted = refl;
        same_count = refl;
        claim = ap (λ (b : Bool). if b then v.claim else drop_claim v.claim g i) (ne_eqb n 0 nonzero);
        unclosed = λ last. subst (λ (y : ℕ). y < greatest) (ap (λ (y : ℕ). C (value_place l y i)) (sym last)) (so.cells.last_open i (subst (λ (y : ℕ). i < cells_of y) last a.1)).1;
        won = λ z fit closed. absurd (nonzero z);
        kept = λ z h q. absurd (nonzero z);
        set = λ z. absurd (nonzero z);
        event = λ z. absurd (nonzero z);
        lost = λ nz. record { looks = looks; uncounted = refl; word = look_hit v.known p n p refl };
        present = λ y. subst (λ (z : ℕ). value_in kept.log z ≡ Some n) key_there (so.history.kept g i a (subst IsWord (sym key_there) word) y);
        both = λ h p fit closed. both_set h p closed;
      } in (
        w,
        keeps,
        tt,
        keep_load fits t id v facts.live s kept at q w turn,
        record { slots = refl; tried = spread w tried },
      ))

  pub publish_allowed : (g i k x q : ℕ) → IsCell v.layout g i → q ≡ value_place v.layout g i + offset v.layout → IsWord k → IsWord x → look v.known (key_place v.layout g i) ≡ k → MayPublish fits g k x v
      → Allows (TableHolds fits (about v t)) slots id (v, c) q (λ n. either (n == 0) x n) (Published fits (step slots q 0 x none) (v, c))
  publish_allowed g i k x q a place word value key may =
      subst (λ (y : ℕ). Allows (TableHolds fits (about v t)) slots id (v, c) y (λ n. either (n == 0) x n) (Published fits (step slots y 0 x none) (v, c))) (sym place) (publish_at g i k x a word value key may)

  -- the count after an addition of 1
  pub count_allowed : 0 < length v.uncounted → Allows (TableHolds fits (about v t)) slots id (v, c) COUNT_WORD (λ n. (n + 1) % 2 ^ 64) (Counted fits (step slots COUNT_WORD 1 0 none) (v, c))
  count_allowed some_left s kept homes at small =
      let l : Layout = v.layout in
      let n : ℕ = slice_index s.words COUNT_WORD in
      let so = sound_now fits t id v facts.live s kept at in
      let here = pass_now fits t id v facts.live s kept at in
      let few : n ≤ length kept.log = count_le l t.numbers (state_of l s.words kept.log) s.views kept.together.count in
      let bound : length kept.log ≤ length s.words = log_small l (fits t.numbers) s.words kept.log so.history in
      let words = words_small l in
      let most : n ≤ most_words = let a : ℕ = length kept.log in let b : ℕ = length s.words in let d : ℕ = word_count l in let few' : n ≤ a = few in let bound' : a ≤ b = bound in let e : b ≡ d = kept.size in let f : d ≤ most_words = words in let goal : n ≤ most_words = omega arith in goal in
      let fit : n + 1 < 18446744073709551616 = omega arith in
      let is : (n + 1) % 18446744073709551616 ≡ n + 1 = mod-eq_of_lt fit in
      let low : COUNT_WORD < length s.words = subst (λ (x : ℕ). COUNT_WORD < x) (sym kept.size) (has_count l) in
      let ws : List ℕ = set s.words COUNT_WORD (n + 1) in
      let raised : count_in ws ≡ n + 1 = get_or-set_same s.words COUNT_WORD (n + 1) 0 low in
      let first : slice_index ws CURRENT_WORD ≡ slice_index s.words CURRENT_WORD = get_or-set_other s.words COUNT_WORD CURRENT_WORD (n + 1) 0 (λ e. omega arith) in
      let current : current_in ws ≡ current_in s.words = first in
      let cells = first_cells l s.words COUNT_WORD (n + 1) (omega arith) in
      let is_step : IsStep l (fits t.numbers) counts (state_of l s.words kept.log) (state_of l ws kept.log) = record { rests = record { cells = cells; history = refl }; count = raised; current = current; takes = first_takes l s.words COUNT_WORD (n + 1) (omega arith) } in
      let lawful = and_then kept.events (state_of l s.words kept.log) counts (state_of l ws kept.log) kept.lawful is_step in
      let w : View = tallies v kept.log (count_in ws) in
      let turn = tallies_turn l t.numbers (state_of l s.words kept.log) id v facts.live here (state_of l ws kept.log) cells refl raised current some_left in
      let size : length ws ≡ word_count l = length-set s.words COUNT_WORD (n + 1) ∙ kept.size in
      let knows = turn_facts fits t id v facts.live s kept at ws kept.log (counts ∷ kept.events) w lawful size turn refl facts.alone.0 facts.alone.1 in
      let after = keep_turn fits t id v facts.live s kept at ws kept.log (counts ∷ kept.events) w lawful size turn in
      let together = turns l t.numbers (state_of l s.words kept.log) (state_of l ws kept.log) s.views id v w at kept.together turn in
      let mine = here.front in
      let share = total_le (λ u. u.counted) (set s.views id w) id w (set_here s.views id w (there_below s.views id v at)) in
      let sum : total (λ u. u.counted) (set s.views id w) ≡ count_in ws = together.count.counted in
      let many : count_in ws ≤ length kept.log = count_le l t.numbers (state_of l ws kept.log) (set s.views id w) together.count in (
        w,
        keeps,
        tt,
        subst (λ (y : ℕ). TableHolds fits (about v t) record { words = set s.words COUNT_WORD y; homes = s.homes; views = set s.views id w }) (sym is) after,
        record {
          slots = refl;
          raised = record {
            looks = record {
              steps = record {
                layout = refl;
                tag = refl;
                number = refl;
                numbers = refl;
                spare = refl;
                generation = refl;
                currents = refl;
                front = record { rest = mine.rest; joins = mine.joins };
                seen = λ x h. refl;
                count_seen = let h = here.count_seen in omega arith;
              };
              mine = mine;
              own = own_stays v kept.log mine;
            };
            facts = knows;
            claim = refl;
            uncounted = refl;
            counted = refl;
            known = refl;
            seen = raised;
            low =
                let tally : length (by_any v.numbers kept.log) ≡ (v.counted + 1) + length (all_but_first v.uncounted) = knows.tally in
                let a : ℕ = length (by_any v.numbers kept.log) in
                let b : ℕ = v.counted in
                let d : ℕ = length (all_but_first v.uncounted) in
                let tally' : a ≡ (b + 1) + d = tally in
                let e : ℕ = total (λ u. u.counted) (set s.views id w) in
                let r : ℕ = count_in ws in
                let sum' : e ≡ r = sum in
                let r_is : r ≡ n + 1 = raised in
                let share' : b + 1 ≤ e = share in
                let goal : a ≤ (n + 1) + d = omega arith in goal;
            high = subst (λ (x : ℕ). x ≤ length kept.log) raised many;
            event = made fits t id v facts.live s kept at counts ws kept.log w is_step turn;
          };
        },
      )

-- the second step of a join, whose view need not be settled yet
pub settle_allowed : (fits : List ℕ → ℕ → ℕ → Type 0) (t : Tag) (slots id : ℕ) (v : View) (c : List (ℕ × Unit {0})) → v.live ≡ true → Allows (TableHolds fits (about v t)) slots id (v, c) CURRENT_WORD (λ n. n) (Settled fits (step slots CURRENT_WORD 0 0 none) (v, c))
settle_allowed fits t slots id v c live s kept homes at small =
    let here = pass_now fits t id v live s kept at in
    let w : View = settles v kept.log in
    let turn = settles_turn v.layout t.numbers (state_of v.layout s.words kept.log) id v live here in (
      w,
      keeps,
      tt,
      keep_load fits t id v live s kept at CURRENT_WORD w turn,
      record {
        slots = refl;
        settles = record {
          facts = load_facts fits t id v live s kept at w turn refl refl refl;
          layout = refl;
          tag = refl;
          number = refl;
          numbers = refl;
          spare = refl;
          generation = refl;
          currents = refl;
          claim = refl;
          uncounted = refl;
          counted = refl;
          known = refl;
          count_seen = refl;
          mine = here.front;
          theirs = here.beside;
        };
      },
    )
