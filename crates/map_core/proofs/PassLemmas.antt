-- A step of one pass keeps what is true of all passes.
use Rattle.std.proofs.Common.{◌≡◌, ◌≢◌, ℕ, zero, suc, ◌+◌, ◌-◌, ◌*◌, ◌<◌, ◌≤◌, Bool, true, false, List, [], ◌∷◌, ◌++◌, length, set, Some, ◌||◌, ◌==◌, refl, sym, ap, subst, ◌∙◌, inl, inr, ⊎_elim, arith, append_assoc, append-nil, length-append, length-set, true≢false}
use mathlib.Core.Logic.{dite}
use mathlib.Core.Option.{some, some-injective, some-ne-none}
use native.Mathlib.Decide.{ℕ_discrete}
use lib.ListN.{get_elem?}
use Rattle.atomic_table.proofs.Lists.{at_set, set_here, set_else}
use Rattle.map_core.specs.declared.entry.Entry.{Entry}
use Rattle.map_core.specs.declared.layout.Layout.{Layout}
use Rattle.map_core.specs.declared.view.View.{View}
use Rattle.map_core.specs.Sizes.{cells_of}
use Rattle.map_core.specs.History.{is_in, by_any, StartsWithOwn}
use Rattle.map_core.specs.Places.{lowest}
use Rattle.map_core.specs.Machine.{Keeps, State, IsUnset}
use Rattle.map_core.specs.Passes.{look, cell, all_numbers, placed, total, HasFilled, WhoBelow, AllBy, PassAt, HasFirst, SeesAll, FrontsOfOneHistory, CountIsHonest, HasClaim, OpenClaims, Together, Turn}
use Rattle.map_core.proofs.HistoryLemmas.{by_miss, by_append, test_cases}

pub keeps_trans : (C D E : ℕ → ℕ) → Keeps C D → Keeps D E → Keeps C E
keeps_trans C D E p q x h = let e = p x h in q x (subst (λ (y : ℕ). 0 < y) (sym e) h) ∙ e

-- a list has something at i only below its length
pub there_below : (vs : List View) (i : ℕ) (v : View) → get_elem? vs i ≡ some v → i < length vs
there_below [] i v e = absurd (some-ne-none v (sym e))
there_below (x ∷ xs) zero v e = omega arith
there_below (x ∷ xs) (suc i) v e = let h = there_below xs i v e in omega arith

-- entries by i are not by a pass that lacks the number i
pub by_others : (ns : List ℕ) (i : ℕ) (es : List Entry) → AllBy i es → is_in i ns ≡ false → by_any ns es ≡ []
by_others ns i [] all not_in = refl
by_others ns i (e ∷ es) all not_in = by_miss ns e es (ap (λ (n : ℕ). is_in n ns) all.0 ∙ not_in) ∙ by_others ns i es all.1 not_in

-- nor is one that is by all of two lists of numbers by either
pub in_append : (n : ℕ) (ns ms : List ℕ) → is_in n (ns ++ ms) ≡ (is_in n ns || is_in n ms)
in_append n [] ms = refl
in_append n (k ∷ ns) ms =
    ⊎_elim
    (λ (t : (n == k) ≡ true). subst (λ (b : Bool). (b || is_in n (ns ++ ms)) ≡ ((b || is_in n ns) || is_in n ms)) (sym t) refl)
    (λ (f : (n == k) ≡ false). subst (λ (b : Bool). (b || is_in n (ns ++ ms)) ≡ ((b || is_in n ns) || is_in n ms)) (sym f) (in_append n ns ms))
    (test_cases (n == k))

pub or_false : (a b : Bool) → (a || b) ≡ false → (a ≡ false) × (b ≡ false)
or_false true b e = absurd (true≢false e)
or_false false b e = (refl, e)

pub in_first : (n : ℕ) (ns ms : List ℕ) → is_in n ns ≡ true → is_in n (ns ++ ms) ≡ true
in_first n ns ms h = in_append n ns ms ∙ subst (λ (b : Bool). (b || is_in n ms) ≡ true) (sym h) refl

pub in_second : (n : ℕ) (ns ms : List ℕ) → is_in n ms ≡ true → is_in n (ns ++ ms) ≡ true
in_second n ns ms h = in_append n ns ms ∙ ⊎_elim
    (λ (t : is_in n ns ≡ true). subst (λ (b : Bool). (b || is_in n ms) ≡ true) (sym t) refl)
    (λ (f : is_in n ns ≡ false). subst (λ (b : Bool). (b || is_in n ms) ≡ true) (sym f) h)
    (test_cases (is_in n ns))

pub not_in_parts : (n : ℕ) (ns ms : List ℕ) → is_in n (ns ++ ms) ≡ false → (is_in n ns ≡ false) × (is_in n ms ≡ false)
not_in_parts n ns ms h = or_false (is_in n ns) (is_in n ms) (sym (in_append n ns ms) ∙ h)

pub who_append : (n : ℕ) (a b : List Entry) → WhoBelow n a → WhoBelow n b → WhoBelow n (a ++ b)
who_append n [] b p q = q
who_append n (e ∷ es) b p q = (p.0, who_append n es b p.1 q)

pub who_more : (n m : ℕ) (a : List Entry) → n ≤ m → WhoBelow n a → WhoBelow m a
who_more n m [] le p = tt
who_more n m (e ∷ es) le p = let h = p.0 in (omega arith, who_more n m es le p.1)

pub who_first : (n : ℕ) (a b : List Entry) → WhoBelow n (a ++ b) → WhoBelow n a
who_first n [] b p = tt
who_first n (e ∷ es) b p = (p.0, who_first n es b p.1)

pub by_below : (i n : ℕ) (es : List Entry) → i < n → AllBy i es → WhoBelow n es
by_below i n [] h p = tt
by_below i n (e ∷ es) h p = (subst (λ (x : ℕ). x < n) (sym p.0) h, by_below i n es h p.1)

-- the history grows by entries of others
pub own_grows : (ns : List ℕ) (front log added new : List Entry) → StartsWithOwn ns front log → log ++ added ≡ new → by_any ns added ≡ [] → StartsWithOwn ns front new
own_grows ns front log added new p grows none =
    record {
      rest = p.rest ++ added;
      joins = sym (append_assoc front p.rest added) ∙ (ap (λ (x : List Entry). x ++ added) p.joins ∙ grows);
      others = by_append ns p.rest added ∙ (ap (λ (x : List Entry). x ++ by_any ns added) p.others ∙ none);
    }

pub own_whole : (ns : List ℕ) (log : List Entry) → StartsWithOwn ns log log
own_whole ns log = record { rest = []; joins = append-nil log; others = refl }

pub own_length : (ns : List ℕ) (front log : List Entry) → StartsWithOwn ns front log → length front ≤ length log
own_length ns front log p =
    let n : ℕ = length front in
    let m : ℕ = length p.rest in
    let q : ℕ = length log in
    let sum : length (front ++ p.rest) ≡ n + m = length-append front p.rest in
    let same : q ≡ n + m = sym (ap (λ (x : List Entry). length x) p.joins) ∙ sum in
    let goal : n ≤ q = omega arith in goal

-- what a front fills, a longer one does
pub filled_longer : (l : Layout) (g : ℕ) (a b : List Entry) → length a ≤ length b → HasFilled l g a → HasFilled l g b
filled_longer l g a b le = ⊎_elim
    (λ (e : g ≡ lowest l). inl e)
    (λ (f : 3 * cells_of (g - 1) ≤ 4 * length a).
    let n : ℕ = cells_of (g - 1) in
    let x : ℕ = length a in
    let y : ℕ = length b in
    let le' : x ≤ y = le in
    let f' : 3 * n ≤ 4 * x = f in
    let goal : 3 * n ≤ 4 * y = omega arith in inr goal)

-- the total after a change of one view
pub total_set : (f : View → ℕ) (vs : List View) (i : ℕ) (v w : View) → get_elem? vs i ≡ some v → total f (set vs i w) + f v ≡ total f vs + f w
total_set f [] i v w e = absurd (some-ne-none v (sym e))
total_set f (x ∷ xs) zero v w e = let s : f x ≡ f v = ap f (some-injective x v e) in let t : ℕ = total f xs in let goal : (f w + t) + f v ≡ (f x + t) + f w = omega arith in goal
total_set f (x ∷ xs) (suc i) v w e =
    let h = total_set f xs i v w e in
    let a : ℕ = total f (set xs i w) in
    let b : ℕ = total f xs in
    let goal : (f x + a) + f v ≡ (f x + b) + f w = omega arith in goal

-- another pass, while words appear and the history grows by others' entries
pub pass_on : (l : Layout) (mark : List ℕ) (s t : State) (j : ℕ) (u : View) (added : List Entry)
    → Keeps s.cells t.cells → s.current ≤ t.current → s.count ≤ t.count → s.history ++ added ≡ t.history → by_any (all_numbers u) added ≡ []
    → by_any u.numbers added ≡ [] → by_any u.beside_numbers added ≡ []
    → PassAt l mark s j u → PassAt l mark t j u
pass_on l mark s t j u added keeps current count grows none none_front none_beside p =
    record {
      number = p.number;
      layout = p.layout;
      tag = p.tag;
      front = own_grows u.numbers u.front s.history added t.history p.front grows none_front;
      beside = own_grows u.beside_numbers u.beside s.history added t.history p.beside grows none_beside;
      knows = keeps_trans (look u.known) s.cells t.cells p.knows keeps;
      own = p.own;
      tally =
          let e : by_any (all_numbers u) t.history ≡ by_any (all_numbers u) s.history =
          sym (ap (by_any (all_numbers u)) grows) ∙ (by_append (all_numbers u) s.history added ∙ (ap (λ (x : List Entry). by_any (all_numbers u) s.history ++ x) none ∙ append-nil (by_any (all_numbers u) s.history))) in
          ap (λ (x : List Entry). length x) e ∙ p.tally;
      spare = p.spare;
      distinct = p.distinct;
      count_seen = let h = p.count_seen in omega arith;
      generation = p.generation;
      currents = λ c h. let b = p.currents c h in let hi = b.1 in (b.0, omega arith);
      filled = p.filled;
    }

-- two passes' numbers stay disjoint while one keeps its own
abbrev pub Apart : View → View → Type 0
Apart v w = (n : ℕ) → is_in n (all_numbers v) ≡ true → is_in n (all_numbers w) ≡ false

pub apart_back : (v w : View) → Apart v w → Apart w v
apart_back v w p n h = ⊎_elim
    (λ (t : is_in n (all_numbers v) ≡ true). absurd (true≢false (sym h ∙ p n t)))
    (λ (f : is_in n (all_numbers v) ≡ false). f)
    (test_cases (is_in n (all_numbers v)))

module _ (l : Layout) (mark : List ℕ) (s t : State) (views : List View) (i : ℕ) (v w : View) (at : get_elem? views i ≡ some v) (old : Together l mark s views) (turn : Turn l mark s t i v w) where
  low : i < length views
  low = there_below views i v at

  long : length (set views i w) ≡ length views
  long = length-set views i w

  mine : PassAt l mark s i v
  mine = old.fronts.each i v at turn.live.0

  own_number : is_in i (all_numbers v) ≡ true
  own_number = in_first i v.numbers v.beside_numbers (subst (λ (n : ℕ). is_in n v.numbers ≡ true) mine.number mine.own)

  other : (j : ℕ) (u : View) → j ≢ i → get_elem? views j ≡ some u → u.live ≡ true → PassAt l mark t j u
  other j u ne here live =
      let not_in : is_in i (all_numbers u) ≡ false = old.fronts.apart i j v u at here (λ e. ne (sym e)) i own_number in
      let parts = not_in_parts i u.numbers u.beside_numbers not_in in
      pass_on l mark s t j u turn.added turn.keeps turn.current turn.count turn.grows (by_others (all_numbers u) i turn.added turn.mine not_in) (by_others u.numbers i turn.added turn.mine parts.0) (by_others u.beside_numbers i turn.added turn.mine parts.1)
      (old.fronts.each j u here live)

  fronts_turn : FrontsOfOneHistory l mark t (set views i w)
  fronts_turn =
      record {
        each = λ j u here live. ⊎_elim
            (λ (e : (j ≡ i) × (w ≡ u)). subst (λ (p : ℕ × View). PassAt l mark t p.0 p.1) (λ k. (sym e.0 k, e.1 k)) turn.at)
            (λ (e : (j ≢ i) × (get_elem? views j ≡ some u)). other j u e.0 e.1 live)
            (at_set views i j w u here);
        spent = λ j u here dead. ⊎_elim
            (λ (e : (j ≡ i) × (w ≡ u)). absurd (true≢false (sym turn.live.1 ∙ (ap (λ (x : View). x.live) e.1 ∙ dead))))
            (λ (e : (j ≢ i) × (get_elem? views j ≡ some u)). old.fronts.spent j u e.1 dead)
            (at_set views i j w u here);
        apart = λ j k x y jx ky ne.
            let same : (u : View) → Apart v u → Apart w u = λ u a n h. a n (subst (λ (ns : List ℕ). is_in n ns ≡ true) turn.numbers h) in
            ⊎_elim
            (λ (ej : (j ≡ i) × (w ≡ x)). ⊎_elim
            (λ (ek : (k ≡ i) × (w ≡ y)). absurd (ne (ej.0 ∙ sym ek.0)))
            (λ (ek : (k ≢ i) × (get_elem? views k ≡ some y)). subst (λ (u : View). Apart u y) ej.1 (same y (old.fronts.apart i k v y at ek.1 (λ e. ek.0 (sym e)))))
            (at_set views i k w y ky))
            (λ (ej : (j ≢ i) × (get_elem? views j ≡ some x)). ⊎_elim
            (λ (ek : (k ≡ i) × (w ≡ y)). apart_back y x (subst (λ (u : View). Apart u x) ek.1 (same x (old.fronts.apart i j v x at ej.1 (λ e. ej.0 (sym e))))))
            (λ (ek : (k ≢ i) × (get_elem? views k ≡ some y)). old.fronts.apart j k x y ej.1 ek.1 ne)
            (at_set views i k w y ky))
            (at_set views i j w x jx);
        below = λ j u here n h. subst (λ (m : ℕ). n < m) (sym long) (⊎_elim
            (λ (e : (j ≡ i) × (w ≡ u)). old.fronts.below i v at n (subst (λ (ns : List ℕ). is_in n ns ≡ true) (sym (ap all_numbers e.1) ∙ turn.numbers) h))
            (λ (e : (j ≢ i) × (get_elem? views j ≡ some u)). old.fronts.below j u e.1 n h)
            (at_set views i j w u here));
        who = subst (λ (m : ℕ). WhoBelow m t.history) (sym long) (subst (WhoBelow (length views)) turn.grows (who_append (length views) s.history turn.added old.fronts.who (by_below i (length views) turn.added low turn.mine)));
        first = dite (ℕ_discrete i 0)
            (λ e.
            let f = old.fronts.first in
            let same : v ≡ f.view = some-injective v f.view (sym (subst (λ (k : ℕ). get_elem? views k ≡ some v) e at) ∙ f.at) in
            let r : HasFirst l mark t (set views i w) = record {
              view = w;
              at = subst (λ (k : ℕ). get_elem? (set views i w) k ≡ some w) e (set_here views i w low);
              live = turn.live.1;
              made = ap (λ (x : ℕ). x + w.spare) long ∙ (ap (λ (x : ℕ). length views + x) (turn.spare ∙ ap (λ (x : View). x.spare) same) ∙ f.made);
            } in r)
            (λ ne.
            let f = old.fronts.first in
            let r : HasFirst l mark t (set views i w) = record {
              view = f.view;
              at = set_else views i 0 w (λ e. ne (sym e)) ∙ f.at;
              live = f.live;
              made = ap (λ (x : ℕ). x + f.view.spare) long ∙ f.made;
            } in r);
        whole = let r : SeesAll l mark t (set views i w) = record { who = i; view = w; at = set_here views i w low; live = turn.live.1; front = inl turn.whole } in r;
      }

  count_turn : CountIsHonest l mark t (set views i w)
  count_turn =
      let f : View → ℕ = λ u. u.counted in
      let a = total_set f views i v w at in
      let b = total_set placed views i v w at in
      let p = old.count.counted in
      let q = old.count.placed in
      let x : ℕ = total f (set views i w) in
      let y : ℕ = total f views in
      let x' : ℕ = total placed (set views i w) in
      let y' : ℕ = total placed views in
      let a' : x + v.counted ≡ y + w.counted = a in
      let b' : x' + placed v ≡ y' + placed w = b in
      let p' : y ≡ s.count = p in
      let q' : y' ≡ length s.history = q in
      let m : w.counted + s.count ≡ v.counted + t.count = turn.counted in
      let k : placed w + length s.history ≡ placed v + length t.history = turn.placed in
      let n : ℕ = placed v in
      let o : ℕ = placed w in
      let g1 : x ≡ t.count = omega arith in
      let g2 : x' ≡ length t.history = omega arith in
      record { counted = g1; placed = g2 }

  claims_turn : OpenClaims l mark t (set views i w)
  claims_turn =
      record {
        claimed = λ g j a unset. ⊎_elim
            (λ (mine_now : w.claim ≡ Some (cell g j)). let r : HasClaim l mark t (set views i w) g j = record { who = i; view = w; at = set_here views i w low; claim = mine_now } in r)
            (λ (before : IsUnset l s.cells g j × (v.claim ≢ Some (cell g j))).
            let c = old.claims.claimed g j a before.0 in
            let ne : c.who ≢ i = λ e.
            let same : v ≡ c.view = some-injective v c.view (sym at ∙ (sym (ap (get_elem? views) e) ∙ c.at)) in
            before.1 (ap (λ (x : View). x.claim) same ∙ c.claim) in
            let r : HasClaim l mark t (set views i w) g j = record { who = c.who; view = c.view; at = set_else views i c.who w ne ∙ c.at; claim = c.claim } in r)
            (turn.claims g j a unset);
      }

  -- the whole of it
  pub turns : Together l mark t (set views i w)
  turns = record { fronts = fronts_turn; count = count_turn; claims = claims_turn }
