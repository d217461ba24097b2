-- Each step keeps the rule, and tells what its call ensures.
use Rattle.std.proofs.Common.{◌≡◌, ℕ, ◌+◌, ◌<◌, ◌≤◌, true, List, [], ◌∷◌, length, set, slice_index, Some, None, if◌then◌else◌, ◌==◌, refl, sym, ap, subst, ◌∙◌, arith}
use Rattle.std.proofs.lemmas.List.{set-get_or}
use mathlib.Core.Option.{some, none}
use lib.ListN.{get_elem?}
use Rattle.boxcar.specs.declared.tag.Tag.{Tag}
use Rattle.atomic_table.proofs.Lists.{set_here}
use Rattle.atomic_table.specs.Table.{State, Me, step, Act, keeps, Valid, stepped, carried_after, Allows}
use Rattle.map_core.specs.declared.entry.Entry.{Entry}
use Rattle.map_core.specs.declared.view.View.{View}
use Rattle.map_core.specs.History.{value_in, by_any, StartsWithOwn}
use Rattle.map_core.specs.declared.places.TheConstants.{COUNT_WORD}
use Rattle.map_core.specs.Places.{offset, word_count, key_place, value_place, current_in, cells_in, IsCell}
use Rattle.map_core.specs.Machine.{greatest, IsWord, Keeps, Reaches, IsClosed, IsPublished, state_of, Sound}
use Rattle.map_core.specs.Events.{Event, IsStep, Lawful}
use Rattle.map_core.specs.Passes.{look, cell, drop_claim, all_numbers, placed, PassAt, Together, Turn, PassFacts}
use Rattle.map_core.specs.Knowing.{sees, reads, counts_seen}
use Rattle.map_core.proofs.PlaceLemmas.{value_value}
use Rattle.map_core.proofs.WordLemmas.{reaches_on, keeps_value, closed_on, published_on}
use Rattle.map_core.proofs.CallLemmas.{own_stays}
use Rattle.map_core.proofs.SoundLemmas.{lawful_sound}
use Rattle.map_core.proofs.PassLemmas.{turns, there_below}
use Rattle.map_core.proofs.TurnLemmas.{look_hit, seen_more, sees_turn, counts_seen_turn, reads_turn}
use Rattle.map_core.proofs.CountLemmas.{log_small, total_le}
use Rattle.map_core.proofs.FactLemmas.{whole_facts}
use Rattle.map_core.proofs.AbsentLemmas.{absent_at_empty, absent_unset}
use Rattle.map_cells.specs.declared.about.About.{About}
use Rattle.map_cells.specs.Steps.{ClosedTo, Looks}
use Rattle.map_cells.specs.Whole.{MakesStep, MakesLoad}
use Rattle.map_cells.specs.Rule.{TableHolds, KeyLooked, ValueLooked, CountLooked}
use Rattle.map_cells.proofs.WordSteps.{same_place}

-- a table of this pass's sizes
abbrev pub about : View → Tag → About
about v t = record { layout = v.layout; tag = t }

module _ (fits : List ℕ → ℕ → ℕ → Type 0) (t : Tag) (id : ℕ) (v : View) (live : v.live ≡ true) (s : State (Unit {0}) View) (kept : TableHolds fits (about v t) s) (at : get_elem? s.views id ≡ some v) where
  pub sound_now : Sound v.layout (fits t.numbers) (state_of v.layout s.words kept.log)
  sound_now = lawful_sound v.layout (fits t.numbers) kept.events (state_of v.layout s.words kept.log) kept.lawful

  pub pass_now : PassAt v.layout t.numbers (state_of v.layout s.words kept.log) id v
  pass_now = kept.together.fronts.each id v at live

  -- what is seen closed from a generation that was current is so
  pub closed_now : (g k : ℕ) → 0 < k → (seen : ClosedTo v g k) → (h : ℕ) → seen.from ≤ h → h < g → IsClosed v.layout (cells_in v.layout s.words) h k
  closed_now g k pos seen h low below = closed_on v.layout (look v.known) (cells_in v.layout s.words) pass_now.knows h k pos (seen.closed h low below)

  pub from_now : (g k : ℕ) → (seen : ClosedTo v g k) → seen.from ≤ current_in s.words
  from_now g k seen = (pass_now.currents seen.from seen.current).1

  -- where a walk ends at an empty key word, the history lacks the key
  pub lacks_at_empty : (g i k : ℕ) → IsCell v.layout g i → IsWord k → cells_in v.layout s.words (key_place v.layout g i) ≡ 0 → Reaches v.layout (look v.known) g i k → ClosedTo v g k → value_in kept.log k ≡ None
  lacks_at_empty g i k a word empty walk seen =
      absent_at_empty v.layout (fits t.numbers) (state_of v.layout s.words kept.log) sound_now g k seen.from word (from_now g k seen) (closed_now g k word.0 seen) i a empty
      (reaches_on v.layout (look v.known) (cells_in v.layout s.words) pass_now.knows g i k walk)

  -- and where it ends at its key with no value
  pub lacks_unset : (g i k : ℕ) → IsCell v.layout g i → IsWord k → cells_in v.layout s.words (key_place v.layout g i) ≡ k → cells_in v.layout s.words (value_place v.layout g i) ≡ 0 → ClosedTo v g k → value_in kept.log k ≡ None
  lacks_unset g i k a word key unset seen =
      absent_unset v.layout (fits t.numbers) (state_of v.layout s.words kept.log) sound_now g k seen.from word (from_now g k seen) (closed_now g k word.0 seen) i a key unset

  -- the history has what is seen published
  pub has_seen : (h k x : ℕ) → IsPublished v.layout (look v.known) h k x → value_in kept.log k ≡ Some x
  has_seen h k x seen =
      let p = published_on v.layout (look v.known) (cells_in v.layout s.words) pass_now.knows h k x seen in
      subst (λ (y : ℕ × ℕ). value_in kept.log y.0 ≡ Some y.1) (λ z. (p.key_is z, p.value_is z))
      (sound_now.history.kept h p.index p.cell (subst IsWord (sym p.key_is) p.key) (subst IsWord (sym p.value_is) p.value))

  -- the rule after a turn
  pub keep_turn : (ws : List ℕ) (log : List Entry) (events : List Event) (w : View) → Lawful v.layout (fits t.numbers) events (state_of v.layout ws log) → length ws ≡ word_count v.layout
      → Turn v.layout t.numbers (state_of v.layout s.words kept.log) (state_of v.layout ws log) id v w → TableHolds fits (about v t) record { words = ws; homes = s.homes; views = set s.views id w }
  keep_turn ws log events w lawful size turn =
      record {
        events = events;
        log = log;
        lawful = lawful;
        together = turns v.layout t.numbers (state_of v.layout s.words kept.log) (state_of v.layout ws log) s.views id v w at kept.together turn;
        size = size;
      }

  -- and what the pass then knows by itself
  pub turn_facts : (ws : List ℕ) (log : List Entry) (events : List Event) (w : View) → Lawful v.layout (fits t.numbers) events (state_of v.layout ws log) → length ws ≡ word_count v.layout
      → Turn v.layout t.numbers (state_of v.layout s.words kept.log) (state_of v.layout ws log) id v w → w.front ≡ log → w.beside ≡ [] → w.beside_numbers ≡ [] → PassFacts fits w
  turn_facts ws log events w lawful size turn front beside alone =
      let so = lawful_sound v.layout (fits t.numbers) events (state_of v.layout ws log) lawful in
      let few = log_small v.layout (fits t.numbers) ws log so.history in
      whole_facts v.layout fits t.numbers (state_of v.layout ws log) (set s.views id w) id w so
      (turns v.layout t.numbers (state_of v.layout s.words kept.log) (state_of v.layout ws log) s.views id v w at kept.together turn)
      (set_here s.views id w (there_below s.views id v at)) turn.live.1 front beside alone (subst (λ (n : ℕ). length log ≤ n) size few)

  -- the event that a step was
  pub made : (e : Event) (ws : List ℕ) (log : List Entry) (w : View) → IsStep v.layout (fits t.numbers) e (state_of v.layout s.words kept.log) (state_of v.layout ws log)
      → Turn v.layout t.numbers (state_of v.layout s.words kept.log) (state_of v.layout ws log) id v w → MakesStep fits e v w
  made e ws log w is_step turn =
      let tag = sym pass_now.tag in
      record {
        events = kept.events;
        before = state_of v.layout s.words kept.log;
        after = state_of v.layout ws log;
        lawful = subst (λ (x : List ℕ). Lawful v.layout (fits x) kept.events (state_of v.layout s.words kept.log)) tag kept.lawful;
        is_step = subst (λ (x : List ℕ). IsStep v.layout (fits x) e (state_of v.layout s.words kept.log) (state_of v.layout ws log)) tag is_step;
        history = turn.whole;
        known = turn.at.knows;
      }

  -- or that it was a load
  pub made_load : (w : View) → Turn v.layout t.numbers (state_of v.layout s.words kept.log) (state_of v.layout s.words kept.log) id v w → MakesLoad fits v w
  made_load w turn =
      record {
        events = kept.events;
        at = state_of v.layout s.words kept.log;
        lawful = subst (λ (x : List ℕ). Lawful v.layout (fits x) kept.events (state_of v.layout s.words kept.log)) (sym pass_now.tag) kept.lawful;
        history = turn.whole;
        known = turn.at.knows;
      }

  -- a load keeps the rule
  pub keep_load : (q : ℕ) (w : View) → Turn v.layout t.numbers (state_of v.layout s.words kept.log) (state_of v.layout s.words kept.log) id v w
      → TableHolds fits (about v t) record { words = set s.words q (slice_index s.words q); homes = s.homes; views = set s.views id w }
  keep_load q w turn =
      subst (λ (ws : List ℕ). TableHolds fits (about v t) record { words = ws; homes = s.homes; views = set s.views id w }) (sym (set-get_or s.words q 0)) (keep_turn s.words kept.log kept.events w kept.lawful kept.size turn)

  pub load_facts : (w : View) → Turn v.layout t.numbers (state_of v.layout s.words kept.log) (state_of v.layout s.words kept.log) id v w → w.front ≡ kept.log → w.beside ≡ [] → w.beside_numbers ≡ [] → PassFacts fits w
  load_facts w turn = turn_facts s.words kept.log kept.events w kept.lawful kept.size turn

  -- one more word was seen, among the words D that a step left, and nothing else changed
  pub saw_in : (D : ℕ → ℕ) → Keeps (look v.known) D → (q n : ℕ) → D q ≡ n → (w : View) → w.known ≡ (q, n) ∷ v.known → w.front ≡ kept.log
      → (w.layout ≡ v.layout) × (w.tag ≡ v.tag) × (w.number ≡ v.number) × (w.numbers ≡ v.numbers) × (w.spare ≡ v.spare) × (w.generation ≡ v.generation) × (w.currents ≡ v.currents) × (w.count_seen ≡ v.count_seen) → Looks v w
  saw_in D knows q n is w known front same =
      let mine : StartsWithOwn v.numbers v.front w.front = subst (StartsWithOwn v.numbers v.front) (sym front) pass_now.front in
      record {
        steps = record {
          layout = same.0;
          tag = same.1;
          number = same.2;
          numbers = same.3;
          spare = same.4;
          generation = same.5;
          currents = same.6;
          front = record { rest = mine.rest; joins = mine.joins };
          seen = λ x h. ap (λ (k : List (ℕ × ℕ)). look k x) known ∙ seen_more v.known D q n x is knows h;
          count_seen = let e = same.7 in omega arith;
        };
        mine = mine;
        own = ap (λ (ns : List ℕ). by_any ns w.front) same.3 ∙ own_stays v w.front mine;
      }

  -- the same among the words that were there
  pub saw : (q n : ℕ) → cells_in v.layout s.words q ≡ n → (w : View) → w.known ≡ (q, n) ∷ v.known → w.front ≡ kept.log
      → (w.layout ≡ v.layout) × (w.tag ≡ v.tag) × (w.number ≡ v.number) × (w.numbers ≡ v.numbers) × (w.spare ≡ v.spare) × (w.generation ≡ v.generation) × (w.currents ≡ v.currents) × (w.count_seen ≡ v.count_seen) → Looks v w
  saw = saw_in (cells_in v.layout s.words) pass_now.knows

-- what an exchange of the word q for x owes where it leaves y
abbrev pub Owes : (List ℕ → ℕ → ℕ → Type 0) → Tag → ℕ → View → List (ℕ × Unit {0}) → State (Unit {0}) View → ℕ → ℕ → (ℕ → Me (Unit {0}) View → Type 0) → ℕ → Type 0
Owes fits t id v c s q n then_holds y = (w : View) × (act : Act (Unit {0})) × Valid s.homes c act × TableHolds fits (about v t) (stepped s q y id c w act) × then_holds n (w, carried_after c act)

module _ (fits : List ℕ → ℕ → ℕ → Type 0) (t : Tag) (slots id : ℕ) (v : View) (c : List (ℕ × Unit {0})) (facts : PassFacts fits v) where
  pub look_allowed : (g i q : ℕ) → IsCell v.layout g i → q ≡ key_place v.layout g i + offset v.layout → Allows (TableHolds fits (about v t)) slots id (v, c) q (λ n. n) (KeyLooked fits (step slots q 0 0 none) (v, c))
  look_allowed g i q a place s kept homes at small =
      let p : ℕ = key_place v.layout g i in
      let n : ℕ = slice_index s.words q in
      let C : ℕ → ℕ = cells_in v.layout s.words in
      let is : C p ≡ n = ap (slice_index s.words) (sym place) in
      let w : View = sees v kept.log p n in
      let so = sound_now fits t id v facts.live s kept at in
      let here = pass_now fits t id v facts.live s kept at in
      let turn = sees_turn v.layout t.numbers (state_of v.layout s.words kept.log) id v facts.live here p n is in (
        w,
        keeps,
        tt,
        keep_load fits t id v facts.live s kept at q w turn,
        record {
          slots = refl;
          seen = λ h j b at_q.
              let same : p ≡ key_place v.layout h j = same_place v.layout p (key_place v.layout h j) (sym place ∙ at_q) in
              let there : C (key_place v.layout h j) ≡ n = ap C (sym same) ∙ is in
              record {
                looks = saw fits t id v facts.live s kept at p n is w refl refl (refl, refl, refl, refl, refl, refl, refl, refl);
                facts = load_facts fits t id v facts.live s kept at w turn refl facts.alone.0 facts.alone.1;
                claim = refl;
                uncounted = refl;
                counted = refl;
                same_count = refl;
                word = look_hit v.known p n (key_place v.layout h j) same;
                unsealed = λ last. subst (λ (x : ℕ). x < greatest) (ap (λ (x : ℕ). C (key_place v.layout x j)) (sym last) ∙ there) (so.cells.last_open j (subst (λ (x : ℕ). j < Rattle.map_core.specs.Sizes.cells_of x) last b.1)).0;
                absent = λ k word empty walk closed. lacks_at_empty fits t id v facts.live s kept at h j k b word (there ∙ empty) walk closed;
              };
        },
      )

  pub read_allowed : (g i q : ℕ) → IsCell v.layout g i → q ≡ value_place v.layout g i + offset v.layout → Allows (TableHolds fits (about v t)) slots id (v, c) q (λ n. n) (ValueLooked fits (step slots q 0 0 none) (v, c))
  read_allowed g i q a place s kept homes at small =
      let p : ℕ = value_place v.layout g i in
      let n : ℕ = slice_index s.words q in
      let C : ℕ → ℕ = cells_in v.layout s.words in
      let is : C p ≡ n = ap (slice_index s.words) (sym place) in
      let w : View = reads v.layout v kept.log g i n in
      let so = sound_now fits t id v facts.live s kept at in
      let here = pass_now fits t id v facts.live s kept at in
      let turn = reads_turn v.layout t.numbers (state_of v.layout s.words kept.log) id v facts.live here g i n a is in (
        w,
        keeps,
        tt,
        keep_load fits t id v facts.live s kept at q w turn,
        record {
          slots = refl;
          seen = λ h j b at_q.
              let same : p ≡ value_place v.layout h j = same_place v.layout p (value_place v.layout h j) (sym place ∙ at_q) in
              let one = value_value v.layout g i h j a b same in
              let there : C (value_place v.layout h j) ≡ n = ap C (sym same) ∙ is in
              record {
                looks = saw fits t id v facts.live s kept at p n is w refl refl (refl, refl, refl, refl, refl, refl, refl, refl);
                facts = load_facts fits t id v facts.live s kept at w turn refl facts.alone.0 facts.alone.1;
                claim = λ x. if n == 0 then v.claim else drop_claim v.claim (one.0 x) (one.1 x);
                uncounted = refl;
                counted = refl;
                same_count = refl;
                word = look_hit v.known p n (value_place v.layout h j) same;
                unclosed = λ last. subst (λ (x : ℕ). x < greatest) (ap (λ (x : ℕ). C (value_place v.layout x j)) (sym last) ∙ there) (so.cells.last_open j (subst (λ (x : ℕ). j < Rattle.map_core.specs.Sizes.cells_of x) last b.1)).1;
                absent = λ k word unset key closed. lacks_unset fits t id v facts.live s kept at h j k b word (keeps_value (look v.known) C here.knows (key_place v.layout h j) k word.0 key) (there ∙ unset) closed;
                present = λ k word value key.
                    let key_there = keeps_value (look v.known) C here.knows (key_place v.layout h j) k word.0 key in
                    subst (λ (x : ℕ × ℕ). value_in kept.log x.0 ≡ Some x.1) (λ x. (key_there x, there x)) (so.history.kept h j b (subst IsWord (sym key_there) word) (subst IsWord (sym there) value));
              };
        },
      )

  pub count_look_allowed : Allows (TableHolds fits (about v t)) slots id (v, c) COUNT_WORD (λ n. n) (CountLooked fits (step slots COUNT_WORD 0 0 none) (v, c))
  count_look_allowed s kept homes at small =
      let n : ℕ = slice_index s.words COUNT_WORD in
      let w : View = counts_seen v kept.log n in
      let here = pass_now fits t id v facts.live s kept at in
      let turn = counts_seen_turn v.layout t.numbers (state_of v.layout s.words kept.log) id v facts.live here in
      let knows = load_facts fits t id v facts.live s kept at w turn refl facts.alone.0 facts.alone.1 in
      let mine : StartsWithOwn v.numbers v.front kept.log = here.front in
      let mine_of = total_le (λ u. u.counted) s.views id v at in
      let sum : Rattle.map_core.specs.Passes.total (λ u. u.counted) s.views ≡ n = kept.together.count.counted in (
        w,
        keeps,
        tt,
        keep_load fits t id v facts.live s kept at COUNT_WORD w turn,
        record {
          slots = refl;
          seen = record {
            looks = record {
              steps = record {
                layout = refl;
                tag = refl;
                number = refl;
                numbers = refl;
                spare = refl;
                generation = refl;
                currents = refl;
                front = record { rest = mine.rest; joins = mine.joins };
                seen = λ x h. refl;
                count_seen = here.count_seen;
              };
              mine = mine;
              own = own_stays v kept.log mine;
            };
            facts = knows;
            claim = refl;
            uncounted = refl;
            counted = refl;
            known = refl;
            seen = refl;
            low =
                let tally : length (by_any v.numbers kept.log) ≡ v.counted + length v.uncounted = knows.tally in
                let a : ℕ = length (by_any v.numbers kept.log) in
                let b : ℕ = v.counted in
                let d : ℕ = length v.uncounted in
                let tally' : a ≡ b + d = tally in
                let e : ℕ = Rattle.map_core.specs.Passes.total (λ u. u.counted) s.views in
                let sum' : e ≡ n = sum in
                let mine' : b ≤ e = mine_of in
                let goal : a ≤ n + d = omega arith in goal;
            high = Rattle.map_core.proofs.CountLemmas.count_le v.layout t.numbers (state_of v.layout s.words kept.log) s.views kept.together.count;
          };
        },
      )
