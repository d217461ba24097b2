-- The first step of a join keeps the facts: two views become one, and one that is gone.
use Rattle.std.proofs.Common.{◌≡◌, ◌≢◌, ◌⊎◌, ℕ, suc, ◌+◌, ◌<◌, Bool, true, false, List, [], ◌∷◌, ◌++◌, length, set, Some, None, ◌||◌, refl, sym, ap, subst, ◌∙◌, inl, inr, ⊎_elim, arith, append-nil, length-append, length-set, true≢false}
use mathlib.Core.Logic.{dite}
use mathlib.Core.Option.{some, some-injective}
use native.Mathlib.Decide.{ℕ_discrete}
use lib.ListN.{get_elem?}
use Rattle.atomic_table.proofs.Lists.{at_set, set_here, set_else}
use Rattle.map_core.specs.declared.entry.Entry.{Entry}
use Rattle.map_core.specs.declared.layout.Layout.{Layout}
use Rattle.map_core.specs.declared.view.View.{View}
use Rattle.map_core.specs.History.{is_in, by_any, StartsWithOwn}
use Rattle.map_core.specs.Machine.{State}
use Rattle.map_core.specs.Passes.{cell, all_numbers, placed, total, WhoBelow, Distinct, PassAt, HasFirst, SeesAll, FrontsOfOneHistory, CountIsHonest, HasClaim, OpenClaims, Together}
use Rattle.map_core.specs.Knowing.{put_together, gone}
use Rattle.map_core.proofs.HistoryLemmas.{by_hit, by_miss, test_cases}
use Rattle.map_core.proofs.PassLemmas.{there_below, in_append, in_first, total_set, Apart, apart_back}
use Rattle.map_core.proofs.CountLemmas.{in_hit, in_miss}

-- a number in two lists together is in one of them
pub in_parts : (n : ℕ) (ns ms : List ℕ) → is_in n (ns ++ ms) ≡ true → (is_in n ns ≡ true) ⊎ (is_in n ms ≡ true)
in_parts n ns ms h = ⊎_elim
    (λ (t : is_in n ns ≡ true). inl t)
    (λ (f : is_in n ns ≡ false). inr (subst (λ (b : Bool). (b || is_in n ms) ≡ true) f (sym (in_append n ns ms) ∙ h)))
    (test_cases (is_in n ns))

pub distinct_append : (ns ms : List ℕ) → Distinct ns → Distinct ms → ((n : ℕ) → is_in n ns ≡ true → is_in n ms ≡ false) → Distinct (ns ++ ms)
distinct_append [] ms p q apart = q
distinct_append (n ∷ ns) ms p q apart = (
  in_append n ns ms ∙ subst (λ (b : Bool). (b || is_in n ms) ≡ false) (sym p.0) (apart n (in_hit n n ns refl)),
  distinct_append ns ms p.1 q (λ m h. apart m (dite (ℕ_discrete m n) (λ e. in_hit m n ns e) (λ ne. in_miss m n ns ne ∙ h))),
)

-- the entries by two disjoint lists of passes
pub by_two : (ns ms : List ℕ) (es : List Entry) → ((n : ℕ) → is_in n ns ≡ true → is_in n ms ≡ false) → length (by_any (ns ++ ms) es) ≡ length (by_any ns es) + length (by_any ms es)
by_two ns ms [] apart = refl
by_two ns ms (e ∷ es) apart =
    let r = by_two ns ms es apart in
    let a : ℕ = length (by_any (ns ++ ms) es) in
    let b : ℕ = length (by_any ns es) in
    let c : ℕ = length (by_any ms es) in
    let r' : a ≡ b + c = r in
    ⊎_elim
    (λ (t : is_in e.who ns ≡ true).
    let x = ap (λ (l : List Entry). length l) (by_hit (ns ++ ms) e es (in_first e.who ns ms t)) in
    let y = ap (λ (l : List Entry). length l) (by_hit ns e es t) in
    let z = ap (λ (l : List Entry). length l) (by_miss ms e es (apart e.who t)) in
    let a2 : ℕ = length (by_any (ns ++ ms) (e ∷ es)) in
    let b2 : ℕ = length (by_any ns (e ∷ es)) in
    let c2 : ℕ = length (by_any ms (e ∷ es)) in
    let x' : a2 ≡ suc a = x in
    let y' : b2 ≡ suc b = y in
    let z' : c2 ≡ c = z in
    let goal : a2 ≡ b2 + c2 = omega arith in goal)
    (λ (f : is_in e.who ns ≡ false).
    let y = ap (λ (l : List Entry). length l) (by_miss ns e es f) in
    let b2 : ℕ = length (by_any ns (e ∷ es)) in
    let y' : b2 ≡ b = y in
    let a2 : ℕ = length (by_any (ns ++ ms) (e ∷ es)) in
    let c2 : ℕ = length (by_any ms (e ∷ es)) in
    let both : is_in e.who (ns ++ ms) ≡ is_in e.who ms = in_append e.who ns ms ∙ subst (λ (q : Bool). (q || is_in e.who ms) ≡ is_in e.who ms) (sym f) refl in
    ⊎_elim
    (λ (t : is_in e.who ms ≡ true).
    let x = ap (λ (l : List Entry). length l) (by_hit (ns ++ ms) e es (both ∙ t)) in
    let z = ap (λ (l : List Entry). length l) (by_hit ms e es t) in
    let x' : a2 ≡ suc a = x in
    let z' : c2 ≡ suc c = z in
    let goal : a2 ≡ b2 + c2 = omega arith in goal)
    (λ (g : is_in e.who ms ≡ false).
    let x = ap (λ (l : List Entry). length l) (by_miss (ns ++ ms) e es (both ∙ g)) in
    let z = ap (λ (l : List Entry). length l) (by_miss ms e es g) in
    let x' : a2 ≡ a = x in
    let z' : c2 ≡ c = z in
    let goal : a2 ≡ b2 + c2 = omega arith in goal)
    (test_cases (is_in e.who ms)))
    (test_cases (is_in e.who ns))

-- a front of an empty history is empty
nothing_before : (ns : List ℕ) (front log : List Entry) → StartsWithOwn ns front log → log ≡ [] → front ≡ log
nothing_before ns [] log p none = sym none
nothing_before ns (e ∷ es) log p none =
    let n : ℕ = length (es ++ p.rest) in
    let long : suc n ≡ 0 = ap (λ (x : List Entry). length x) (p.joins ∙ none) in absurd (omega arith)

module _ (l : Layout) (mark : List ℕ) (s : State) (views : List View) (i j : ℕ) (v w : View) (at : get_elem? views i ≡ some v) (there : get_elem? views j ≡ some w) (ne : j ≢ i)
    (live : (v.live ≡ true) × (w.live ≡ true)) (alone : (v.beside_numbers ≡ []) × (w.beside_numbers ≡ [])) (empty : (v.beside ≡ []) × (w.beside ≡ [])) (free : w.claim ≡ None) (not_first : w.number ≢ 0) (old : Together l mark s views) where
  p : PassAt l mark s i v
  p = old.fronts.each i v at live.0

  q : PassAt l mark s j w
  q = old.fronts.each j w there live.1

  both : View
  both = put_together v w

  numbers_v : all_numbers v ≡ v.numbers
  numbers_v = ap (λ (x : List ℕ). v.numbers ++ x) alone.0 ∙ append-nil v.numbers

  numbers_w : all_numbers w ≡ w.numbers
  numbers_w = ap (λ (x : List ℕ). w.numbers ++ x) alone.1 ∙ append-nil w.numbers

  parted : (n : ℕ) → is_in n v.numbers ≡ true → is_in n w.numbers ≡ false
  parted n h = ap (is_in n) (sym numbers_w) ∙ old.fronts.apart i j v w at there (λ e. ne (sym e)) n (ap (is_in n) numbers_v ∙ h)

  both_at : PassAt l mark s i both
  unfolding both
  both_at =
      record {
        number = p.number;
        layout = p.layout;
        tag = p.tag;
        front = p.front;
        beside = q.front;
        knows = p.knows;
        own = p.own;
        tally =
            let two = by_two v.numbers w.numbers s.history parted in
            let tv = ap (λ (ns : List ℕ). length (by_any ns s.history)) (sym numbers_v) ∙ p.tally in
            let tw = ap (λ (ns : List ℕ). length (by_any ns s.history)) (sym numbers_w) ∙ q.tally in
            let more = length-append v.uncounted w.uncounted in
            let a : ℕ = length (by_any (v.numbers ++ w.numbers) s.history) in
            let b : ℕ = length (by_any v.numbers s.history) in
            let c : ℕ = length (by_any w.numbers s.history) in
            let x : ℕ = length v.uncounted in
            let y : ℕ = length w.uncounted in
            let z : ℕ = length (v.uncounted ++ w.uncounted) in
            let m : ℕ = v.counted in
            let n : ℕ = w.counted in
            let two' : a ≡ b + c = two in
            let tv' : b ≡ m + x = tv in
            let tw' : c ≡ n + y = tw in
            let more' : z ≡ x + y = more in
            let goal : a ≡ (m + n) + z = omega arith in goal;
        spare = p.spare;
        distinct = distinct_append v.numbers w.numbers (subst Distinct numbers_v p.distinct) (subst Distinct numbers_w q.distinct) parted;
        count_seen = p.count_seen;
        generation = p.generation;
        currents = p.currents;
        filled = p.filled;
      }

  mid : List View
  mid = set views i both

  end : List View
  end = set mid j gone

  mid_length : length mid ≡ length views
  unfolding mid
  mid_length = length-set views i both

  end_length : length end ≡ length views
  unfolding end
  end_length = length-set mid j gone ∙ mid_length

  there_mid : get_elem? mid j ≡ some w
  unfolding mid
  there_mid = set_else views i j both ne ∙ there

  at_end : get_elem? end i ≡ some both
  unfolding end mid
  at_end = set_else mid j i gone (λ e. ne (sym e)) ∙ set_here views i both (there_below views i v at)

  -- a view at the end: the spent one, the joined one, or another's
  whose : (k : ℕ) (u : View) → get_elem? end k ≡ some u → ((k ≡ j) × (gone ≡ u)) ⊎ ((k ≡ i) × (both ≡ u)) ⊎ ((k ≢ j) × (k ≢ i) × (get_elem? views k ≡ some u))
  unfolding end mid
  whose k u here = ⊎_elim
      (λ (e : (k ≡ j) × (gone ≡ u)). inl e)
      (λ (e : (k ≢ j) × (get_elem? mid k ≡ some u)). inr (⊎_elim
      (λ (f : (k ≡ i) × (both ≡ u)). inl f)
      (λ (f : (k ≢ i) × (get_elem? views k ≡ some u)). inr (e.0, f.0, f.1))
      (at_set views i k both u e.1)))
      (at_set mid j k gone u here)

  -- nobody else has the joined numbers
  both_apart : (k : ℕ) (u : View) → k ≢ j → k ≢ i → get_elem? views k ≡ some u → Apart both u
  unfolding both
  both_apart k u nj ni here n h = ⊎_elim
      (λ (t : is_in n v.numbers ≡ true). old.fronts.apart i k v u at here (λ e. ni (sym e)) n (ap (is_in n) numbers_v ∙ t))
      (λ (t : is_in n w.numbers ≡ true). old.fronts.apart j k w u there here (λ e. nj (sym e)) n (ap (is_in n) numbers_w ∙ t))
      (in_parts n v.numbers w.numbers h)

  first_else : 0 ≢ j → 0 ≢ i → get_elem? end 0 ≡ get_elem? views 0
  unfolding end mid
  first_else nj ni = set_else mid j 0 gone nj ∙ set_else views i 0 both ni

  -- the one that has seen all has done so still, by itself or as part of the joined pass
  join_whole : SeesAll l mark s end
  unfolding end mid both
  join_whole =
      let c = old.fronts.whole in
      let whose_front : (x : View) (k : ℕ) → x ≡ c.view → x.beside ≡ [] → PassAt l mark s k x → x.front ≡ s.history = λ x k same none at_x. ⊎_elim
      (λ (f : c.view.front ≡ s.history). ap (λ (y : View). y.front) same ∙ f)
      (λ (f : c.view.beside ≡ s.history). nothing_before x.numbers x.front s.history at_x.front (sym f ∙ (sym (ap (λ (y : View). y.beside) same) ∙ none)))
      c.front in
      let r : SeesAll l mark s end = dite (ℕ_discrete c.who j)
      (λ e.
      let same : w ≡ c.view = some-injective w c.view (sym there ∙ subst (λ (x : ℕ). get_elem? views x ≡ some c.view) e c.at) in
      record { who = i; view = both; at = at_end; live = live.0; front = inr (whose_front w j same empty.1 q) })
      (λ nj. dite (ℕ_discrete c.who i)
      (λ e.
      let same : v ≡ c.view = some-injective v c.view (sym at ∙ subst (λ (x : ℕ). get_elem? views x ≡ some c.view) e c.at) in
      record { who = i; view = both; at = at_end; live = live.0; front = inl (whose_front v i same empty.0 p) })
      (λ ni. record { who = c.who; view = c.view; at = set_else mid j c.who gone nj ∙ (set_else views i c.who both ni ∙ c.at); live = c.live; front = c.front })) in r

  join_fronts : FrontsOfOneHistory l mark s end
  unfolding both
  join_fronts =
      record {
        each = λ k u here alive. ⊎_elim
            (λ (e : (k ≡ j) × (gone ≡ u)). absurd (true≢false (sym alive ∙ ap (λ (x : View). x.live) (sym e.1))))
            (⊎_elim
            (λ (e : (k ≡ i) × (both ≡ u)). subst (λ (x : ℕ × View). PassAt l mark s x.0 x.1) (λ t. (sym e.0 t, e.1 t)) both_at)
            (λ (e : (k ≢ j) × (k ≢ i) × (get_elem? views k ≡ some u)). old.fronts.each k u e.2 alive))
            (whose k u here);
        spent = λ k u here dead. ⊎_elim
            (λ (e : (k ≡ j) × (gone ≡ u)). subst (λ (x : View). (all_numbers x ≡ []) × (placed x ≡ 0) × (x.counted ≡ 0) × (x.claim ≡ None)) e.1 (refl, refl, refl, refl))
            (⊎_elim
            (λ (e : (k ≡ i) × (both ≡ u)). absurd (true≢false (sym live.0 ∙ (ap (λ (x : View). x.live) e.1 ∙ dead))))
            (λ (e : (k ≢ j) × (k ≢ i) × (get_elem? views k ≡ some u)). old.fronts.spent k u e.2 dead))
            (whose k u here);
        apart = λ k m x y kx my nkm.
            let from_gone : (u z : View) → gone ≡ u → Apart u z = λ u z e n h. absurd (true≢false (sym h ∙ ap (λ (r : View). is_in n (all_numbers r)) (sym e))) in
            ⊎_elim
            (λ (ek : (k ≡ j) × (gone ≡ x)). from_gone x y ek.1)
            (⊎_elim
            (λ (ek : (k ≡ i) × (both ≡ x)). ⊎_elim
            (λ (em : (m ≡ j) × (gone ≡ y)). apart_back y x (from_gone y x em.1))
            (⊎_elim
            (λ (em : (m ≡ i) × (both ≡ y)). absurd (nkm (ek.0 ∙ sym em.0)))
            (λ (em : (m ≢ j) × (m ≢ i) × (get_elem? views m ≡ some y)). subst (λ (u : View). Apart u y) ek.1 (both_apart m y em.0 em.1 em.2)))
            (whose m y my))
            (λ (ek : (k ≢ j) × (k ≢ i) × (get_elem? views k ≡ some x)). ⊎_elim
            (λ (em : (m ≡ j) × (gone ≡ y)). apart_back y x (from_gone y x em.1))
            (⊎_elim
            (λ (em : (m ≡ i) × (both ≡ y)). apart_back y x (subst (λ (u : View). Apart u x) em.1 (both_apart k x ek.0 ek.1 ek.2)))
            (λ (em : (m ≢ j) × (m ≢ i) × (get_elem? views m ≡ some y)). old.fronts.apart k m x y ek.2 em.2 nkm))
            (whose m y my)))
            (whose k x kx);
        below = λ k u here n h. subst (λ (c : ℕ). n < c) (sym end_length) (⊎_elim
            (λ (e : (k ≡ j) × (gone ≡ u)). absurd (true≢false (sym h ∙ ap (λ (r : View). is_in n (all_numbers r)) (sym e.1))))
            (⊎_elim
            (λ (e : (k ≡ i) × (both ≡ u)). ⊎_elim
            (λ (t : is_in n v.numbers ≡ true). old.fronts.below i v at n (ap (is_in n) numbers_v ∙ t))
            (λ (t : is_in n w.numbers ≡ true). old.fronts.below j w there n (ap (is_in n) numbers_w ∙ t))
            (in_parts n v.numbers w.numbers (ap (λ (r : View). is_in n (all_numbers r)) e.1 ∙ h)))
            (λ (e : (k ≢ j) × (k ≢ i) × (get_elem? views k ≡ some u)). old.fronts.below k u e.2 n h))
            (whose k u here));
        who = subst (λ (c : ℕ). WhoBelow c s.history) (sym end_length) old.fronts.who;
        first =
            let f = old.fronts.first in
            let nj : 0 ≢ j = λ e. not_first (q.number ∙ sym e) in
            let r : HasFirst l mark s end = dite (ℕ_discrete 0 i)
            (λ e.
            let same : v ≡ f.view = some-injective v f.view (sym (subst (λ (k : ℕ). get_elem? views k ≡ some v) (sym e) at) ∙ f.at) in
            record {
              view = both;
              at = subst (λ (k : ℕ). get_elem? end k ≡ some both) (sym e) at_end;
              live = live.0;
              made = (λ t. end_length t + ap (λ (x : View). x.spare) same t) ∙ f.made;
            })
            (λ ni. record {
              view = f.view;
              at = first_else nj ni ∙ f.at;
              live = f.live;
              made = ap (λ (x : ℕ). x + f.view.spare) end_length ∙ f.made;
            }) in r;
        whole = join_whole;
      }

  join_count : CountIsHonest l mark s end
  unfolding end mid both
  join_count =
      let f : View → ℕ = λ u. u.counted in
      let a = total_set f views i v both at in
      let b = total_set f mid j w gone there_mid in
      let c = total_set placed views i v both at in
      let d = total_set placed mid j w gone there_mid in
      let more = length-append v.uncounted w.uncounted in
      let x : ℕ = total f views in
      let y : ℕ = total f mid in
      let z : ℕ = total f end in
      let x' : ℕ = total placed views in
      let y' : ℕ = total placed mid in
      let z' : ℕ = total placed end in
      let m : ℕ = v.counted in
      let n : ℕ = w.counted in
      let g : ℕ = length v.uncounted in
      let h : ℕ = length w.uncounted in
      let k : ℕ = length (v.uncounted ++ w.uncounted) in
      let a' : y + m ≡ x + (m + n) = a in
      let b' : z + n ≡ y + 0 = b in
      let c' : y' + (m + g) ≡ x' + ((m + n) + k) = c in
      let d' : z' + (n + h) ≡ y' + (0 + 0) = d in
      let more' : k ≡ g + h = more in
      let e : x ≡ s.count = old.count.counted in
      let e' : x' ≡ length s.history = old.count.placed in
      let g1 : z ≡ s.count = omega arith in
      let g2 : z' ≡ length s.history = omega arith in
      record { counted = g1; placed = g2 }

  join_claims : OpenClaims l mark s end
  unfolding end mid both
  join_claims =
      record {
        claimed = λ g k a unset.
            let c = old.claims.claimed g k a unset in
            let nj : c.who ≢ j = λ e.
            let same : w ≡ c.view = some-injective w c.view (sym there ∙ subst (λ (x : ℕ). get_elem? views x ≡ some c.view) e c.at) in
            let bad : None ≡ Some (cell g k) = sym free ∙ (ap (λ (x : View). x.claim) same ∙ c.claim) in absurd (cc) in
            let r : HasClaim l mark s end g k = dite (ℕ_discrete c.who i)
            (λ e.
            let same : v ≡ c.view = some-injective v c.view (sym at ∙ subst (λ (x : ℕ). get_elem? views x ≡ some c.view) e c.at) in
            record { who = i; view = both; at = at_end; claim = ap (λ (x : View). x.claim) same ∙ c.claim })
            (λ ni. record { who = c.who; view = c.view; at = set_else mid j c.who gone nj ∙ (set_else views i c.who both ni ∙ c.at); claim = c.claim }) in r;
      }

  pub join_keeps : Together l mark s (set (set views i (put_together v w)) j gone)
  unfolding end mid both
  join_keeps = record { fronts = join_fronts; count = join_count; claims = join_claims }
