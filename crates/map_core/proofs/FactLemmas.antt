-- What a pass knows by itself after a step, after a split and before a join.
use Rattle.std.proofs.Common.{◌≡◌, ◌≢◌, ◌⊎◌, ℕ, zero, suc, ◌+◌, ◌-◌, ◌*◌, ◌<◌, ◌≤◌, true, List, [], ◌∷◌, ◌++◌, length, set, Some, None, refl, sym, ap, subst, ◌∙◌, inl, inr, ⊎_elim, arith, append-nil, length-append, length-set, true≢false}
use mathlib.Core.Logic.{dite}
use mathlib.Core.Option.{some, some-injective, some-ne-none}
use native.Mathlib.Decide.{ℕ_discrete}
use lib.ListN.{get_elem?}
use Rattle.atomic_table.proofs.Lists.{at_set, set_here, set_else, at_longer}
use Rattle.map_core.specs.declared.entry.Entry.{Entry}
use Rattle.map_core.specs.declared.layout.Layout.{Layout}
use Rattle.map_core.specs.declared.view.View.{View}
use Rattle.map_core.specs.Sizes.{cells_of}
use Rattle.map_core.specs.History.{value_in, IsLegalHistory, is_in, by_any}
use Rattle.map_core.specs.Places.{lowest, word_count, key_place, value_place, Within, IsCell}
use Rattle.map_core.specs.Machine.{IsWord, Keeps, State, Passed, IsClosed, Sound}
use Rattle.map_core.specs.Passes.{look, all_numbers, placed, total, HasFilled, WhoBelow, Distinct, PassAt, HasFirst, SeesAll, FrontsOfOneHistory, CountIsHonest, HasClaim, OpenClaims, Together, PassFacts}
use Rattle.map_core.specs.Knowing.{halved, newcomer}
use Rattle.map_core.proofs.WordLemmas.{passed_on, closed_on}
use Rattle.map_core.proofs.AbsentLemmas.{absent_whole}
use Rattle.map_core.proofs.HistoryLemmas.{by_miss, by_append}
use Rattle.map_core.proofs.PassLemmas.{there_below, in_first, who_more, total_set, Apart, apart_back}
use Rattle.map_core.proofs.CountLemmas.{in_hit, in_miss, full, few_below, all_below, by_all, count_le}

-- the whole history fills three quarters of the generation below the current one
pub filled_current : (l : Layout) (fits : ℕ → ℕ → Type 0) (s : State) → Sound l fits s → s.count ≤ length s.history → HasFilled l s.current s.history
filled_current l fits s so few =
    dite (ℕ_discrete s.current (lowest l))
    (λ e. inl e)
    (λ ne.
    let low = so.moved.within.0 in
    let n : ℕ = cells_of (s.current - 1) in
    let m : ℕ = length s.history in
    let full : 3 * n ≤ 4 * s.count = so.filled (omega arith) in
    let few' : s.count ≤ m = few in
    let goal : 3 * n ≤ 4 * m = omega arith in inr goal)

-- what is true of a pass by itself, where its front is the whole history
pub whole_facts : (l : Layout) (fits : List ℕ → ℕ → ℕ → Type 0) (mark : List ℕ) (s : State) (views : List View) (i : ℕ) (v : View)
    → Sound l (fits mark) s → Together l mark s views → get_elem? views i ≡ some v → v.live ≡ true → v.front ≡ s.history → v.beside ≡ [] → v.beside_numbers ≡ [] → length s.history ≤ word_count l → PassFacts fits v
whole_facts l fits mark s views i v so to at live front beside alone small =
    let p = to.fronts.each i v at live in
    let f = to.fronts.first in
    let first_low = there_below views 0 f.view f.at in
    let low = there_below views i v at in
    let made = f.made in
    let numbers : all_numbers v ≡ v.numbers = ap (λ (x : List ℕ). v.numbers ++ x) alone ∙ append-nil v.numbers in
    let keeps : Keeps (look v.known) s.cells = p.knows in
    let few : length views ≤ l.passes = omega arith in
    let is_first : v.number ≡ 0 → v ≡ f.view = λ e. some-injective v f.view (sym (subst (λ (k : ℕ). get_elem? views k ≡ some v) (sym p.number ∙ e) at) ∙ f.at) in
    let count : v.number ≡ 0 → length views ≡ v.layout.passes - v.spare = λ e.
    let same : v.spare ≡ f.view.spare = ap (λ (x : View). x.spare) (is_first e) in
    let layout : v.layout.passes ≡ l.passes = ap (λ (x : Layout). x.passes) p.layout in
    let n : ℕ = length views in
    let a : ℕ = v.layout.passes in
    let b : ℕ = l.passes in
    let c : ℕ = v.spare in
    let d : ℕ = f.view.spare in
    let made' : n + d ≡ b = made in
    let same' : c ≡ d = same in
    let layout' : a ≡ b = layout in
    let goal : n ≡ a - c = omega arith in goal in
    let below : (n : ℕ) → is_in n v.numbers ≡ true → n < length views = λ n h. to.fronts.below i v at n (in_first n v.numbers v.beside_numbers h) in
    let distinct : Distinct v.numbers = subst Distinct numbers p.distinct in
    let tally : length (by_any v.numbers v.front) ≡ placed v = (λ k. length (by_any (sym numbers k) (front k))) ∙ p.tally in
    let layout : l ≡ v.layout = sym p.layout in
    record {
      live = live;
      alone = (beside, alone);
      own = p.own;
      distinct = distinct;
      number = subst (λ (x : Layout). v.number < x.passes) layout (let e = p.number in omega arith);
      spare = subst (λ (x : Layout). v.spare < x.passes) layout
          (dite (ℕ_discrete i 0)
          (λ e. let same : v.spare ≡ f.view.spare = ap (λ (x : View). x.spare) (is_first (p.number ∙ e)) in omega arith)
          (λ ne. let z = p.spare (omega arith) in omega arith));
      others = λ h. p.spare (let e = p.number in omega arith);
      legal = subst (λ (x : List ℕ × List Entry). IsLegalHistory (fits x.0) x.1) (λ k. (sym p.tag k, sym front k)) so.history.legal;
      tally = tally;
      made = λ e. subst (λ (x : ℕ × List Entry). WhoBelow x.0 x.1) (λ k. (count e k, sym front k)) to.fronts.who;
      few = λ e. subst (λ (x : ℕ). length v.numbers ≤ x) (count e) (few_below v.numbers (length views) distinct below);
      whole = λ e n. by_all v.numbers (length views) v.front (all_below v.numbers (length views) distinct below (n ∙ sym (count e))) (subst (WhoBelow (length views)) (sym front) to.fronts.who);
      generation = p.generation;
      currents = λ c h. subst (λ (x : Layout). Within x c) layout (let b = p.currents c h in let lo = b.0 in let hi = b.1 in let w = so.moved.within.1 in (lo, omega arith));
      filled = subst (λ (x : Layout). HasFilled x v.generation v.front) layout p.filled;
      seen = subst (λ (x : Layout). (g j : ℕ) → IsCell x g j → IsWord (look v.known (key_place x g j)) → IsWord (look v.known (value_place x g j)) → value_in v.front (look v.known (key_place x g j)) ≡ Some (look v.known (value_place x g j))) layout
          (λ g j a key value.
          let k = keeps (key_place l g j) key.0 in
          let x = keeps (value_place l g j) value.0 in
          subst (λ (y : List Entry × ℕ × ℕ). value_in y.0 y.1 ≡ Some y.2) (λ t. (sym front t, k t, x t)) (so.history.kept g j a (subst IsWord (sym k) key) (subst IsWord (sym x) value)));
      ends = subst (λ (x : Layout). (c k : ℕ) → IsWord k → is_in c v.currents ≡ true → ((h : ℕ) → c ≤ h → h < x.last → IsClosed x (look v.known) h k) → Passed x (look v.known) x.last k (cells_of x.last) → value_in v.front k ≡ None) layout
          (λ c k word current closed passed.
          let on = passed_on l (look v.known) s.cells keeps l.last k (cells_of l.last) passed in
          let shut : (h : ℕ) → c ≤ h → h < l.last → IsClosed l s.cells h k = λ h a b. closed_on l (look v.known) s.cells keeps h k word.0 (closed h a b) in
          subst (λ (y : List Entry). value_in y k ≡ None) (sym front) (absent_whole l (fits mark) s so l.last k c word (p.currents c current).1 shut refl on));
      full = subst (λ (x : Layout). (k : ℕ) → Passed x (look v.known) x.last k (cells_of x.last) → x.capacity ≤ length v.front) layout
          (λ k passed.
          let on = passed_on l (look v.known) s.cells keeps l.last k (cells_of l.last) passed in
          subst (λ (y : List Entry). l.capacity ≤ length y) (sym front) (full l (fits mark) s views so.cells so.history mark to.claims few k on));
      count_seen =
          let seen : v.count_seen ≤ s.count = p.count_seen in
          let honest : s.count ≤ length s.history = count_le l mark s views to.count in
          let n : ℕ = length s.history in
          let low : v.count_seen ≤ n = omega arith in
          subst (λ (x : List Entry). v.count_seen ≤ length x) (sym front) low;
      small = subst (λ (x : List Entry × Layout). length x.0 ≤ word_count x.1) (λ k. (sym front k, layout k)) small;
    }

-- a pass that has handed on one of its spare numbers
pub halved_facts : (fits : List ℕ → ℕ → ℕ → Type 0) (v : View) → 0 < v.spare → PassFacts fits v → PassFacts fits (halved v)
halved_facts fits v some_spare t =
    let passes : ℕ = v.layout.passes in
    let spare : ℕ = v.spare in
    let low : spare < passes = t.spare in
    record {
      live = t.live;
      alone = t.alone;
      own = t.own;
      distinct = t.distinct;
      number = t.number;
      spare = let goal : spare - 1 < passes = omega arith in goal;
      others = λ h. let z = t.others h in absurd (omega arith);
      legal = t.legal;
      tally = t.tally;
      made = λ e. who_more (passes - spare) (passes - (spare - 1)) v.front (omega arith) (t.made e);
      few = λ e. let f : length v.numbers ≤ passes - spare = t.few e in let goal : length v.numbers ≤ passes - (spare - 1) = omega arith in goal;
      whole = λ e n. let f : length v.numbers ≤ passes - spare = t.few e in let n' : length v.numbers ≡ passes - (spare - 1) = n in absurd (omega arith);
      generation = t.generation;
      currents = t.currents;
      filled = t.filled;
      seen = t.seen;
      ends = t.ends;
      full = t.full;
      count_seen = t.count_seen;
      small = t.small;
    }

none_by_new : (n : ℕ) (es : List Entry) → WhoBelow n es → by_any (n ∷ []) es ≡ []
none_by_new n [] who = refl
none_by_new n (e ∷ es) who = let lt = who.0 in by_miss (n ∷ []) e es (in_miss e.who n [] (λ s. omega arith)) ∙ none_by_new n es who.1

-- the new pass of a split has the front, and none of it is its own
pub newcomer_own : (fits : List ℕ → ℕ → ℕ → Type 0) (v : View) → 0 < v.spare → PassFacts fits v → by_any (newcomer v).numbers v.front ≡ []
newcomer_own fits v some_spare t =
    let first : v.number ≡ 0 = dite (ℕ_discrete v.number 0) (λ e. e) (λ ne. let z = t.others (omega arith) in absurd (omega arith)) in
    none_by_new (v.layout.passes - v.spare) v.front (t.made first)

pub newcomer_facts : (fits : List ℕ → ℕ → ℕ → Type 0) (v : View) → 0 < v.spare → PassFacts fits v → PassFacts fits (newcomer v)
newcomer_facts fits v some_spare t =
    let passes : ℕ = v.layout.passes in
    let spare : ℕ = v.spare in
    let low : spare < passes = t.spare in
    record {
      live = t.live;
      alone = t.alone;
      own = in_hit (passes - spare) (passes - spare) [] refl;
      distinct = (refl, tt);
      number = let goal : passes - spare < passes = omega arith in goal;
      spare = let goal : 0 < passes = omega arith in goal;
      others = λ h. refl;
      legal = t.legal;
      tally = ap (λ (x : List Entry). length x) (newcomer_own fits v some_spare t);
      made = λ e. let e' : passes - spare ≡ 0 = e in absurd (omega arith);
      few = λ e. let e' : passes - spare ≡ 0 = e in absurd (omega arith);
      whole = λ e n. let e' : passes - spare ≡ 0 = e in absurd (omega arith);
      generation = t.generation;
      currents = t.currents;
      filled = t.filled;
      seen = t.seen;
      ends = t.ends;
      full = t.full;
      count_seen = t.count_seen;
      small = t.small;
    }

pub at_new : (vs : List View) (a b : View) (j : ℕ) → get_elem? (vs ++ a ∷ []) j ≡ some b → (get_elem? vs j ≡ some b) ⊎ ((j ≡ length vs) × (a ≡ b))
at_new [] a b zero e = inr (refl, some-injective a b e)
at_new [] a b (suc j) e = absurd (some-ne-none b (sym e))
at_new (x ∷ xs) a b zero e = inl e
at_new (x ∷ xs) a b (suc j) e = ⊎_elim
    (λ (h : get_elem? xs j ≡ some b). inl h)
    (λ (h : (j ≡ length xs) × (a ≡ b)). inr (ap suc h.0, h.1))
    (at_new xs a b j e)

total_append : (f : View → ℕ) (vs : List View) (a : View) → total f (vs ++ a ∷ []) ≡ total f vs + f a
total_append f [] a = let n : ℕ = f a in let goal : n + 0 ≡ 0 + n = omega arith in goal
total_append f (v ∷ vs) a = let r = total_append f vs a in let x : ℕ = total f (vs ++ a ∷ []) in let y : ℕ = total f vs in let r' : x ≡ y + f a = r in let goal : f v + x ≡ (f v + y) + f a = omega arith in goal

-- a split keeps the facts
module _ (l : Layout) (mark : List ℕ) (s : State) (views : List View) (i : ℕ) (v : View) (at : get_elem? views i ≡ some v) (live : v.live ≡ true) (alone : (v.beside ≡ []) × (v.beside_numbers ≡ [])) (some_spare : 0 < v.spare) (old : Together l mark s views) where
  mine : PassAt l mark s i v
  mine = old.fronts.each i v at live

  is_zero : i ≡ 0
  is_zero = dite (ℕ_discrete i 0) (λ e. e) (λ ne. let z = mine.spare (omega arith) in absurd (omega arith))

  first_is : v ≡ old.fronts.first.view
  first_is = some-injective v old.fronts.first.view (sym (subst (λ (k : ℕ). get_elem? views k ≡ some v) is_zero at) ∙ old.fronts.first.at)

  made_is : length views ≡ v.layout.passes - v.spare
  made_is =
      let m = old.fronts.first.made in
      let e : v.spare ≡ old.fronts.first.view.spare = ap (λ (x : View). x.spare) first_is in
      let f : v.layout.passes ≡ l.passes = ap (λ (x : Layout). x.passes) mine.layout in
      let n : ℕ = length views in
      let a : ℕ = v.layout.passes in
      let b : ℕ = l.passes in
      let c : ℕ = v.spare in
      let d : ℕ = old.fronts.first.view.spare in
      let m' : n + d ≡ b = m in
      let e' : c ≡ d = e in
      let f' : a ≡ b = f in
      let goal : n ≡ a - c = omega arith in goal

  cut : List View
  cut = set views i (halved v)

  cut_length : length cut ≡ length views
  unfolding cut
  cut_length = length-set views i (halved v)

  half_at : PassAt l mark s i (halved v)
  half_at =
      record {
        number = mine.number;
        layout = mine.layout;
        tag = mine.tag;
        front = mine.front;
        beside = mine.beside;
        knows = mine.knows;
        own = mine.own;
        tally = mine.tally;
        spare = λ h. let z = is_zero in absurd (omega arith);
        distinct = mine.distinct;
        count_seen = mine.count_seen;
        generation = mine.generation;
        currents = mine.currents;
        filled = mine.filled;
      }

  -- none of the history is by the new pass
  none_new : by_any (newcomer v).numbers s.history ≡ []
  none_new = none_by_new (v.layout.passes - v.spare) s.history (subst (λ (n : ℕ). WhoBelow n s.history) made_is old.fronts.who)

  new_numbers : all_numbers (newcomer v) ≡ (newcomer v).numbers
  new_numbers = ap (λ (x : List ℕ). (newcomer v).numbers ++ x) alone.1

  new_at : PassAt l mark s (length views) (newcomer v)
  new_at =
      record {
        number = sym made_is;
        layout = mine.layout;
        tag = mine.tag;
        front = record { rest = mine.front.rest; joins = mine.front.joins; others = none_part v.front mine.front.rest (ap (by_any (newcomer v).numbers) mine.front.joins ∙ none_new) };
        beside = mine.beside;
        knows = mine.knows;
        own = in_hit (v.layout.passes - v.spare) (v.layout.passes - v.spare) [] refl;
        tally = ap (λ (ns : List ℕ). length (by_any ns s.history)) new_numbers ∙ ap (λ (x : List Entry). length x) none_new;
        spare = λ h. refl;
        distinct = subst Distinct (sym new_numbers) (refl, tt);
        count_seen = mine.count_seen;
        generation = mine.generation;
        currents = mine.currents;
        filled = mine.filled;
      }
    where
      none_right : (a b : List Entry) → a ++ b ≡ [] → b ≡ []
      none_right [] b e = e
      none_right (x ∷ xs) b e = absurd (cc)

      none_part : (a b : List Entry) → by_any (newcomer v).numbers (a ++ b) ≡ [] → by_any (newcomer v).numbers b ≡ []
      none_part a b e = none_right (by_any (newcomer v).numbers a) (by_any (newcomer v).numbers b) (sym (by_append (newcomer v).numbers a b) ∙ e)

  -- a view of the cut list is another's, or the halved one
  old_view : (j : ℕ) (u : View) → get_elem? cut j ≡ some u → (o : View) × (get_elem? views j ≡ some o) × (all_numbers u ≡ all_numbers o) × (u.live ≡ o.live) × (u.claim ≡ o.claim)
  unfolding cut
  old_view j u here = ⊎_elim
      (λ (e : (j ≡ i) × (halved v ≡ u)). (v, subst (λ (k : ℕ). get_elem? views k ≡ some v) (sym e.0) at, ap all_numbers (sym e.1), ap (λ (x : View). x.live) (sym e.1), ap (λ (x : View). x.claim) (sym e.1)))
      (λ (e : (j ≢ i) × (get_elem? views j ≡ some u)). (u, e.1, refl, refl, refl))
      (at_set views i j (halved v) u here)

  -- the new number is nobody's
  is_new : (j : ℕ) (u : View) → get_elem? cut j ≡ some u → Apart u (newcomer v)
  is_new j u here n h =
      let o = old_view j u here in
      let low = old.fronts.below j o.0 o.1 n (subst (λ (ns : List ℕ). is_in n ns ≡ true) o.2 h) in
      let m = made_is in
      ap (is_in n) new_numbers ∙ in_miss n (v.layout.passes - v.spare) [] (λ e. let e' : n ≡ v.layout.passes - v.spare = e in let a : ℕ = length views in let low' : n < a = low in let m' : a ≡ v.layout.passes - v.spare = m in omega arith)

  split_fronts : FrontsOfOneHistory l mark s (cut ++ newcomer v ∷ [])
  unfolding cut
  split_fronts =
      let more : length (cut ++ newcomer v ∷ []) ≡ length views + 1 = length-append cut (newcomer v ∷ []) ∙ ap (λ (n : ℕ). n + 1) cut_length in
      let m : ℕ = length views in
      record {
        each = λ j u here alive. ⊎_elim
            (λ (e : get_elem? cut j ≡ some u). ⊎_elim
            (λ (f : (j ≡ i) × (halved v ≡ u)). subst (λ (p : ℕ × View). PassAt l mark s p.0 p.1) (λ k. (sym f.0 k, f.1 k)) half_at)
            (λ (f : (j ≢ i) × (get_elem? views j ≡ some u)). old.fronts.each j u f.1 alive)
            (at_set views i j (halved v) u e))
            (λ (e : (j ≡ length cut) × (newcomer v ≡ u)). subst (λ (p : ℕ × View). PassAt l mark s p.0 p.1) (λ k. (sym (e.0 ∙ cut_length) k, e.1 k)) new_at)
            (at_new cut (newcomer v) u j here);
        spent = λ j u here dead. ⊎_elim
            (λ (e : get_elem? cut j ≡ some u). ⊎_elim
            (λ (f : (j ≡ i) × (halved v ≡ u)). absurd (true≢false (sym live ∙ (ap (λ (x : View). x.live) f.1 ∙ dead))))
            (λ (f : (j ≢ i) × (get_elem? views j ≡ some u)). old.fronts.spent j u f.1 dead)
            (at_set views i j (halved v) u e))
            (λ (e : (j ≡ length cut) × (newcomer v ≡ u)). absurd (true≢false (sym live ∙ (ap (λ (x : View). x.live) e.1 ∙ dead))))
            (at_new cut (newcomer v) u j here);
        apart = λ j k x y jx ky ne. ⊎_elim
            (λ (ej : get_elem? cut j ≡ some x). ⊎_elim
            (λ (ek : get_elem? cut k ≡ some y).
            let a = old_view j x ej in
            let b = old_view k y ek in
            λ n h. ap (is_in n) b.2 ∙ old.fronts.apart j k a.0 b.0 a.1 b.1 ne n (sym (ap (is_in n) a.2) ∙ h))
            (λ (ek : (k ≡ length cut) × (newcomer v ≡ y)). subst (λ (u : View). Apart x u) ek.1 (is_new j x ej))
            (at_new cut (newcomer v) y k ky))
            (λ (ej : (j ≡ length cut) × (newcomer v ≡ x)). ⊎_elim
            (λ (ek : get_elem? cut k ≡ some y). apart_back y x (subst (λ (u : View). Apart y u) ej.1 (is_new k y ek)))
            (λ (ek : (k ≡ length cut) × (newcomer v ≡ y)). absurd (ne (ej.0 ∙ sym ek.0)))
            (at_new cut (newcomer v) y k ky))
            (at_new cut (newcomer v) x j jx);
        below = λ j u here n h. subst (λ (c : ℕ). n < c) (sym more) (⊎_elim
            (λ (e : get_elem? cut j ≡ some u). let o = old_view j u e in let low : n < m = old.fronts.below j o.0 o.1 n (sym (ap (is_in n) o.2) ∙ h) in let goal : n < m + 1 = omega arith in goal)
            (λ (e : (j ≡ length cut) × (newcomer v ≡ u)).
            let h' : is_in n ((v.layout.passes - v.spare) ∷ []) ≡ true = sym (ap (is_in n) (ap all_numbers (sym e.1) ∙ new_numbers)) ∙ h in
            let is : n ≡ v.layout.passes - v.spare = dite (ℕ_discrete n (v.layout.passes - v.spare)) (λ t. t) (λ f. absurd (true≢false (sym h' ∙ in_miss n (v.layout.passes - v.spare) [] f))) in
            let is' : m ≡ v.layout.passes - v.spare = made_is in
            let goal : n < m + 1 = omega arith in goal)
            (at_new cut (newcomer v) u j here));
        who = subst (λ (c : ℕ). WhoBelow c s.history) (sym more) (who_more m (m + 1) s.history (omega arith) old.fronts.who);
        first =
            let f = old.fronts.first in
            let here : get_elem? cut 0 ≡ some (halved v) = subst (λ (k : ℕ). get_elem? cut k ≡ some (halved v)) is_zero (set_here views i (halved v) (there_below views i v at)) in
            let r : HasFirst l mark s (cut ++ newcomer v ∷ []) = record {
              view = halved v;
              at = at_longer cut (newcomer v ∷ []) 0 (halved v) here;
              live = live;
              made =
                  let e : v.spare ≡ f.view.spare = ap (λ (x : View). x.spare) first_is in
                  let made : m + f.view.spare ≡ l.passes = f.made in
                  let a : ℕ = length (cut ++ newcomer v ∷ []) in
                  let more' : a ≡ m + 1 = more in
                  let c : ℕ = v.spare in
                  let d : ℕ = f.view.spare in
                  let e' : c ≡ d = e in
                  let made' : m + d ≡ l.passes = made in
                  let goal : a + (c - 1) ≡ l.passes = omega arith in goal;
            } in r;
        whole =
            let c = old.fronts.whole in
            let r : SeesAll l mark s (cut ++ newcomer v ∷ []) = dite (ℕ_discrete c.who i)
            (λ e.
            let same : v ≡ c.view = some-injective v c.view (sym at ∙ subst (λ (k : ℕ). get_elem? views k ≡ some c.view) e c.at) in
            record {
              who = i;
              view = halved v;
              at = at_longer cut (newcomer v ∷ []) i (halved v) (set_here views i (halved v) (there_below views i v at));
              live = live;
              front = subst (λ (x : View). (x.front ≡ s.history) ⊎ (x.beside ≡ s.history)) (sym same) c.front;
            })
            (λ ne. record { who = c.who; view = c.view; at = at_longer cut (newcomer v ∷ []) c.who c.view (set_else views i c.who (halved v) ne ∙ c.at); live = c.live; front = c.front }) in r;
      }

  split_count : CountIsHonest l mark s (cut ++ newcomer v ∷ [])
  unfolding cut
  split_count =
      let f : View → ℕ = λ u. u.counted in
      let a = total_set f views i v (halved v) at in
      let b = total_set placed views i v (halved v) at in
      let c = total_append f cut (newcomer v) in
      let d = total_append placed cut (newcomer v) in
      let x : ℕ = total f cut in
      let y : ℕ = total f views in
      let x' : ℕ = total placed cut in
      let y' : ℕ = total placed views in
      let n : ℕ = v.counted in
      let k : ℕ = placed v in
      let a' : x + n ≡ y + n = a in
      let b' : x' + k ≡ y' + k = b in
      let p : y ≡ s.count = old.count.counted in
      let q : y' ≡ length s.history = old.count.placed in
      let z : ℕ = total f (cut ++ newcomer v ∷ []) in
      let z' : ℕ = total placed (cut ++ newcomer v ∷ []) in
      let c' : z ≡ x + 0 = c in
      let d' : z' ≡ x' + (0 + 0) = d in
      let g1 : z ≡ s.count = omega arith in
      let g2 : z' ≡ length s.history = omega arith in
      record { counted = g1; placed = g2 }

  split_claims : OpenClaims l mark s (cut ++ newcomer v ∷ [])
  unfolding cut
  split_claims =
      record {
        claimed = λ g j a unset.
            let c = old.claims.claimed g j a unset in
            let r : HasClaim l mark s (cut ++ newcomer v ∷ []) g j = dite (ℕ_discrete c.who i)
            (λ e.
            let same : v ≡ c.view = some-injective v c.view (sym at ∙ subst (λ (k : ℕ). get_elem? views k ≡ some c.view) e c.at) in
            record { who = i; view = halved v; at = at_longer cut (newcomer v ∷ []) i (halved v) (set_here views i (halved v) (there_below views i v at)); claim = ap (λ (x : View). x.claim) same ∙ c.claim })
            (λ ne. record { who = c.who; view = c.view; at = at_longer cut (newcomer v ∷ []) c.who c.view (set_else views i c.who (halved v) ne ∙ c.at); claim = c.claim }) in r;
      }

  pub split_keeps : Together l mark s (set views i (halved v) ++ newcomer v ∷ [])
  unfolding cut
  split_keeps = record { fronts = split_fronts; count = split_count; claims = split_claims }
