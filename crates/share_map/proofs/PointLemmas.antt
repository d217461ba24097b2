-- What the walks and the count tell, as a call at its point.
use Rattle.std.proofs.Common.{◌≡◌, ℕ, ◌+◌, ◌-◌, ◌<◌, ◌≤◌, true, List, [], ◌∷◌, ◌++◌, length, Option, Some, None, IfSome, IfNone, refl, sym, ap, subst, ◌∙◌, arith, length-append}
use Rattle.map_core.specs.declared.entry.Entry.{Entry}
use Rattle.map_core.specs.declared.layout.Layout.{Layout}
use Rattle.map_core.specs.declared.view.View.{View}
use Rattle.map_core.specs.History.{value_in, IsLegalHistory, is_in, StartsWith, StartsWithOwn}
use Rattle.map_core.specs.Places.{lowest}
use Rattle.map_core.specs.Events.{entry}
use Rattle.map_core.specs.Calls.{own, IsPoint, FindsAt, PlacesAt, FoundAt, FullAt}
use Rattle.map_core.specs.Passes.{AtRest, PassFacts}
use Rattle.map_core.specs.Knowing.{all_but_first}
use Rattle.map_core.proofs.HistoryLemmas.{value_new, fits_in}
use Rattle.map_core.proofs.CallLemmas.{own_stays, map_get, starts_same, starts_trans, value_longer}
use Rattle.map_cells.specs.Seen.{CellsView, PassView, Follows}
use Rattle.map_cells.specs.Steps.{Rises, CurrentSeen, IsPlaced, CountRaised}
use Rattle.map_cells.specs.Walks.{Walks}
use Rattle.map_cells.specs.Puts.{PutsNew}
use Rattle.map_cells.specs.Passing.{BeginsCells, IsJoined}
use Rattle.map_cells.proofs.WalkLemmas.{own_then, closed_here, rises_then, walks_rise}
use Rattle.share_map.specs.Answers.{IsNew, PutTogether}

pub answer_is : (o f : Option ℕ) → IfSome o (λ v. f ≡ Some v) → IfNone o (f ≡ None) → o ≡ f
answer_is None f s n = sym n
answer_is (Some x) f s n = sym s

pub starts_length : (a b : List Entry) → StartsWith a b → length a ≤ length b
starts_length a b p = let e = ap (λ (x : List Entry). length x) p.joins in let f = length-append a p.rest in let m : ℕ = length a in let n : ℕ = length b in let r : ℕ = length p.rest in let c : ℕ = length (a ++ p.rest) in let e' : c ≡ n = e in let f' : c ≡ m + r = f in let goal : m ≤ n = omega arith in goal

-- what a call keeps that adds no entry
pub rises_follow : (p q : PassView) → q.table ≡ p.table → Rises p.knows q.knows → Follows p q
rises_follow p q table s =
    record {
      table = table;
      layout = s.layout;
      tag = s.tag;
      number = s.number;
      numbers = s.numbers;
      spare = s.spare;
      front = s.front;
      rest = λ r. record { claim = s.claim r.claim; uncounted = s.uncounted ∙ r.uncounted };
    }

pub rises_rest : (v w : View) → Rises v w → AtRest v → AtRest w
rises_rest v w s r = record { claim = s.claim r.claim; uncounted = s.uncounted ∙ r.uncounted }

module _ (fits : List ℕ → ℕ → ℕ → Type 0) where
  -- a walk, a load of the current generation, and another walk
  pub walk_then_current : (n : ℕ) (v u w : View) → Walks fits v u → CurrentSeen fits n u w → Rises v w
  walk_then_current n v u w a b = rises_then v u w (walks_rise fits v u a) b.rises

  pub current_then_walk : (v u w : View) → Rises v u → Walks fits u w → Rises v w
  current_then_walk v u w a b = rises_then v u w a (walks_rise fits u w b)

  -- the generation that was loaded was seen current
  pub current_in : (n : ℕ) (v w : View) → CurrentSeen fits n v w → is_in n w.currents ≡ true
  current_in n v w s = subst (λ (g : ℕ). is_in g w.currents ≡ true) s.generation s.facts.generation

  module _ (t : List ℕ) where
    legal_for : (w : View) → w.tag ≡ t → PassFacts fits w → IsLegalHistory (fits t) w.front
    legal_for w tag facts = subst (λ (x : List ℕ). IsLegalHistory (fits x) w.front) tag facts.legal

    -- a call that adds nothing stands at the pass's new front
    pub point_at_end : (v w : View) → v.tag ≡ t → Rises v w → PassFacts fits w → IsPoint (fits t) v w w.front
    point_at_end v w tag s facts =
        let legal = legal_for w (s.tag ∙ tag) facts in
        record { after = s.front; before = starts_same w.front; legal_here = legal; legal = legal }

    answer_fits : (k : ℕ) (front : List Entry) → IsLegalHistory (fits t) front → (answer : Option ℕ) → answer ≡ value_in front k → IfSome answer (λ x. fits t k x)
    answer_fits k front legal None is = tt
    answer_fits k front legal (Some x) is = fits_in (fits t) front k x legal (sym is)

    pub finds_at : (k : ℕ) (v w : View) (answer : Option ℕ) → v.tag ≡ t → Rises v w → PassFacts fits w → answer ≡ value_in w.front k → FindsAt (fits t) v w k answer
    finds_at k v w answer tag s facts is =
        let point = point_at_end v w tag s facts in
        record { point = point; value = is ∙ sym (map_get w.front k); value_fits = answer_fits k w.front point.legal answer is; own = s.own }

    pub found_at : (k x : ℕ) (v w : View) → v.tag ≡ t → Rises v w → PassFacts fits w → value_in w.front k ≡ Some x → FoundAt (fits t) v w k x
    found_at k x v w tag s facts is =
        let point = point_at_end v w tag s facts in
        record { point = point; value = map_get w.front k ∙ is; value_fits = fits_in (fits t) w.front k x point.legal is; own = s.own }

    pub full_at : (capacity k : ℕ) (v w : View) → v.tag ≡ t → Rises v w → PassFacts fits w → value_in w.front k ≡ None → capacity ≤ length w.front → FullAt (fits t) v w capacity k
    full_at capacity k v w tag s facts lacks full = record { point = point_at_end v w tag s facts; lacks = map_get w.front k ∙ lacks; full = full; own = s.own }

  -- what was in the old front has its value in the new one
  pub still_found : (k x : ℕ) (v w : View) → Rises v w → value_in v.front k ≡ Some x → value_in w.front k ≡ Some x
  still_found k x v w s h = value_longer v.front w.front k x s.front h

  -- so an insert finds it
  pub kept_found : (k x found : ℕ) (v w : View) → Rises v w → value_in w.front k ≡ Some found → value_in v.front k ≡ Some x → found ≡ x
  kept_found k x found v w s is h = let e : Some found ≡ Some x = sym is ∙ still_found k x v w s h in cc

  pub kept_lacks : (k x : ℕ) (v w : View) → Rises v w → value_in w.front k ≡ None → value_in v.front k ≡ Some x → ⊥
  kept_lacks k x v w s lacks h = let e : None ≡ Some x = sym lacks ∙ still_found k x v w s h in absurd (cc)

  -- a pass that has seen a count of at least the capacity has as many entries in its front
  pub full_seen : (capacity n : ℕ) (u w : View) → PassFacts fits u → Rises u w → n ≡ u.count_seen → capacity ≤ n → capacity ≤ length w.front
  full_seen capacity n u w facts s is reached =
      let a : ℕ = length u.front in
      let b : ℕ = length w.front in
      let seen : u.count_seen ≤ a = facts.count_seen in
      let grown : a ≤ b = starts_length u.front w.front s.front in omega arith

  -- a placed entry waits to be counted
  pub some_uncounted : (k x : ℕ) (u p : View) → IsPlaced fits k x u p → 0 < length p.uncounted
  some_uncounted k x u p placed =
      let e = entry u.number k x in
      let n : ℕ = length u.uncounted in
      let m : ℕ = length p.uncounted in
      let is : m ≡ n + 1 = ap (λ (es : List Entry). length es) placed.uncounted ∙ length-append u.uncounted (e ∷ []) in omega arith

  -- an entry was placed and then counted, and its pass may have helped
  module _ (t : List ℕ) (g k x m : ℕ) (v u p w z : View) (tag : v.tag ≡ t) (fit : fits t k x) (current : is_in g u.currents ≡ true) (seen : Rises v u) (put : PutsNew fits g k x u p) (raised : CountRaised fits m p w) where
    pub fresh : IsPlaced fits k x u p
    fresh = put.fresh (subst (λ (y : List ℕ). fits y k x) (sym (seen.tag ∙ tag)) fit) (closed_here u g k current)

    pub counted_rest : v.uncounted ≡ [] → AtRest w
    counted_rest none =
        record {
          claim = raised.claim ∙ put.claim;
          uncounted = raised.uncounted ∙ ap all_but_first (fresh.uncounted ∙ (λ i. (seen.uncounted ∙ none) i ++ entry u.number k x ∷ []));
        }

    -- no more own entries than the count
    pub few_own : v.uncounted ≡ [] → length (own w) ≤ m
    few_own none =
        let a : ℕ = length (own w) in
        let low = raised.low in
        let b : ℕ = length w.uncounted in
        let low' : a ≤ m + b = low in
        let none_left : b ≡ 0 = ap (λ (es : List Entry). length es) (counted_rest none).uncounted in
        let goal : a ≤ m = omega arith in goal

    pub same_generation : u.generation ≡ g → w.generation ≡ g
    same_generation e = raised.looks.steps.generation ∙ (put.steps.generation ∙ e)

    -- no value was in the old front
    pub placed_new : (y : ℕ) → value_in v.front k ≡ Some y → ⊥
    placed_new y h =
        let lower : List Entry = fresh.newest.before in
        let front : StartsWith v.front lower = starts_trans v.front u.front lower seen.front fresh.newest.old in
        let e : None ≡ Some y = sym fresh.newest.lacks ∙ value_longer v.front lower k y front h in absurd (cc)

    module _ (after : Rises w z) (facts : PassFacts fits z) where
      pub placed_at : PlacesAt (fits t) v z k x
      placed_at =
          let number : u.number ≡ v.number = seen.number in
          let lower : List Entry = fresh.newest.before in
          let e : Entry = entry v.number k x in
          let ends : lower ++ e ∷ [] ≡ p.front = ap (λ (i : ℕ). lower ++ entry i k x ∷ []) (sym number) ∙ fresh.newest.front in
          let front : StartsWith v.front lower = starts_trans v.front u.front lower seen.front fresh.newest.old in
          let numbers : z.numbers ≡ p.numbers = after.numbers ∙ raised.looks.steps.numbers in
          let mine : StartsWithOwn p.numbers p.front z.front = own_then p.numbers w.numbers p.front w.front z.front raised.looks.steps.numbers raised.looks.mine after.mine in
          let last : StartsWithOwn z.numbers (lower ++ e ∷ []) z.front = subst (λ (y : List ℕ × List Entry). StartsWithOwn y.0 y.1 z.front) (λ i. (sym numbers i, sym ends i)) mine in
          let before : StartsWith (lower ++ e ∷ []) z.front = record { rest = last.rest; joins = last.joins } in
          let same_tag : z.tag ≡ t = after.tag ∙ (raised.looks.steps.tag ∙ (put.steps.tag ∙ (seen.tag ∙ tag))) in
          record {
            lower = lower;
            point = record {
              after = starts_trans v.front lower (lower ++ e ∷ []) front record { rest = e ∷ []; joins = refl };
              before = before;
              legal_here = subst (IsLegalHistory (fits t)) (sym ends) (legal_for t p (put.steps.tag ∙ (seen.tag ∙ tag)) put.facts);
              legal = legal_for t z same_tag facts;
            };
            last = last;
            front = front;
            lacks = map_get lower k ∙ fresh.newest.lacks;
            stands = map_get z.front k ∙ value_longer (lower ++ e ∷ []) z.front k x before (value_new lower e fresh.newest.lacks);
            own = after.own ∙ (raised.looks.own ∙ (fresh.own ∙ (λ i. seen.own i ++ entry (number i) k x ∷ [])));
          }

      pub placed_follow : (a b : PassView) → a.knows ≡ v → b.knows ≡ z → b.table ≡ a.table → AtRest z → Follows a b
      placed_follow a b from to table rest =
          let s = put.steps in
          let r = raised.looks.steps in
          subst (λ (y : View × View). Follows record { table = a.table; knows = y.0 } record { table = b.table; knows = y.1 }) (λ i. (sym from i, sym to i)) record {
            table = table;
            layout = after.layout ∙ (r.layout ∙ (s.layout ∙ seen.layout));
            tag = after.tag ∙ (r.tag ∙ (s.tag ∙ seen.tag));
            number = after.number ∙ (r.number ∙ (s.number ∙ seen.number));
            numbers = after.numbers ∙ (r.numbers ∙ (s.numbers ∙ seen.numbers));
            spare = after.spare ∙ (r.spare ∙ (s.spare ∙ seen.spare));
            front = starts_trans v.front u.front z.front seen.front (starts_trans u.front p.front z.front s.front (starts_trans p.front w.front z.front r.front after.front));
            rest = λ _. rest;
          }

-- the own entries of a joined pass
pub put_together : (fits : List ℕ → ℕ → ℕ → Type 0) (v u w : View) → IsJoined fits v u w → PutTogether v u w
put_together fits v u w j =
    let a = j.joins in
    record {
      first = own_stays v w.front a.mine;
      second = own_stays u w.front a.theirs;
      all = a.all;
      keeps = λ key x had. value_longer v.front w.front key x record { rest = a.mine.rest; joins = a.mine.joins } had;
      keeps_theirs = λ key x had. value_longer u.front w.front key x record { rest = a.theirs.rest; joins = a.theirs.joins } had;
    }

pub is_new : (l : Layout) (capacity passes : ℕ) (mark : List ℕ) (t : CellsView) (p : PassView) → l.capacity ≡ capacity → l.passes ≡ passes → BeginsCells l mark t p → IsNew capacity passes mark t p
is_new l capacity passes mark t p a b h =
    let is = h.knows in
    record {
      capacity_is = ap (λ (x : Layout). x.capacity) h.layout ∙ a;
      passes_are = ap (λ (x : Layout). x.passes) h.layout ∙ b;
      tag = h.tag;
      of_table = h.of_cells;
      rest = record { claim = ap (λ (x : View). x.claim) is; uncounted = ap (λ (x : View). x.uncounted) is };
      number = ap (λ (x : View). x.number) is;
      numbers = ap (λ (x : View). x.numbers) is;
      spare = ap (λ (x : View). x.spare) is ∙ ap (λ (n : ℕ). n - 1) b;
      front = ap (λ (x : View). x.front) is;
      generation = ap (λ (x : View). x.generation) is ∙ ap lowest (sym h.layout);
    }
