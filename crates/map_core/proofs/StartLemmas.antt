-- A table at the start.
use Rattle.std.proofs.Common.{◌≡◌, ℕ, zero, suc, ◌-◌, ◌<◌, ◌≤◌, true, List, [], ◌∷◌, length, refl, sym, ap, subst, ◌∙◌, inl, arith, true≢false}
use mathlib.Core.Logic.{dite}
use mathlib.Core.Option.{some, some-injective, some-ne-none}
use native.Mathlib.Decide.{ℕ_discrete}
use lib.ListN.{get_elem?}
use Rattle.map_core.specs.declared.layout.Layout.{Layout}
use Rattle.map_core.specs.declared.view.View.{View}
use Rattle.map_core.specs.Places.{lowest, key_place, Within}
use Rattle.map_core.specs.Machine.{State}
use Rattle.map_core.specs.History.{is_in}
use Rattle.map_core.specs.Passes.{all_numbers, PassAt, HasFirst, SeesAll, FrontsOfOneHistory, CountIsHonest, OpenClaims, Together, PassFacts}
use Rattle.map_core.specs.Knowing.{first_view}
use Rattle.map_core.proofs.SizeLemmas.{cells_pos}
use Rattle.map_core.proofs.PlaceLemmas.{lowest_within}
use Rattle.map_core.proofs.CountLemmas.{in_hit, in_miss}

module _ (l : Layout) (mark : List ℕ) (s : State) (cells : (q : ℕ) → s.cells q ≡ 0) (current : s.current ≡ lowest l) (count : s.count ≡ 0) (log : s.history ≡ []) where
  the_first : View
  the_first = first_view l mark

  only_one : (i : ℕ) (v : View) → get_elem? (the_first ∷ []) i ≡ some v → (i ≡ 0) × (the_first ≡ v)
  only_one zero v e = (refl, some-injective the_first v e)
  only_one (suc i) v e = absurd (some-ne-none v (sym e))

  first_at : PassAt l mark s 0 the_first
  unfolding the_first
  first_at =
      record {
        number = refl;
        layout = refl;
        tag = refl;
        front = record { rest = []; joins = sym log; others = refl };
        beside = record { rest = []; joins = sym log; others = refl };
        knows = λ q h. absurd (omega arith);
        own = in_hit 0 0 [] refl;
        tally = ap (λ es. length (Rattle.map_core.specs.History.by_any (0 ∷ []) es)) log;
        spare = λ h. absurd (omega arith);
        distinct = (refl, tt);
        count_seen = omega arith;
        generation = in_hit (lowest l) (lowest l) [] refl;
        currents = λ c h. dite (ℕ_discrete c (lowest l)) (λ e. (omega arith, omega arith)) (λ ne. absurd (true≢false (sym h ∙ in_miss c (lowest l) [] ne)));
        filled = inl refl;
      }

  pub start_together : Together l mark s (first_view l mark ∷ [])
  unfolding the_first
  start_together =
      record {
        fronts = record {
          each = λ i v at live. let o = only_one i v at in subst (λ (x : ℕ × View). PassAt l mark s x.0 x.1) (λ t. (sym o.0 t, o.1 t)) first_at;
          spent = λ i v at dead. let o = only_one i v at in absurd (true≢false (ap (λ (x : View). x.live) o.1 ∙ dead));
          apart = λ i j v w at there ne. let a = only_one i v at in let b = only_one j w there in absurd (ne (a.0 ∙ sym b.0));
          below = λ i v at n h.
              let o = only_one i v at in
              let h' : is_in n (0 ∷ []) ≡ true = ap (λ (x : View). is_in n (all_numbers x)) o.1 ∙ h in
              dite (ℕ_discrete n 0) (λ e. omega arith) (λ ne. absurd (true≢false (sym h' ∙ in_miss n 0 [] ne)));
          who = subst (Rattle.map_core.specs.Passes.WhoBelow 1) (sym log) tt;
          first = let r : HasFirst l mark s (first_view l mark ∷ []) = record {
            view = first_view l mark;
            at = refl;
            live = refl;
            made = let p = l.passes_fit.0 in omega arith;
          } in r;
          whole = let r : SeesAll l mark s (first_view l mark ∷ []) = record { who = 0; view = first_view l mark; at = refl; live = refl; front = inl (sym log) } in r;
        };
        count = record { counted = sym count; placed = sym (ap (λ es. length es) log) };
        claims = record { claimed = λ g i a unset. let z = cells (key_place l g i) in let p = unset.0.0 in absurd (omega arith) };
      }

-- what the first pass knows by itself
pub first_facts : (fits : List ℕ → ℕ → ℕ → Type 0) (l : Layout) (mark : List ℕ) → PassFacts fits (first_view l mark)
first_facts fits l mark =
    let passes : ℕ = l.passes in
    let some_pass : 1 ≤ passes = l.passes_fit.0 in
    record {
      live = refl;
      alone = (refl, refl);
      own = in_hit 0 0 [] refl;
      distinct = (refl, tt);
      number = let goal : 0 < passes = omega arith in goal;
      spare = let goal : passes - 1 < passes = omega arith in goal;
      others = λ h. absurd (omega arith);
      legal = tt;
      tally = refl;
      made = λ e. tt;
      few = λ e. let goal : 1 ≤ passes - (passes - 1) = omega arith in goal;
      whole = λ e n. refl;
      generation = in_hit (lowest l) (lowest l) [] refl;
      currents = λ c h. dite (ℕ_discrete c (lowest l)) (λ e. subst (Within l) (sym e) (lowest_within l)) (λ ne. absurd (true≢false (sym h ∙ in_miss c (lowest l) [] ne)));
      filled = inl refl;
      seen = λ g i a key value. let pos = key.0 in absurd (omega arith);
      full = λ k passed. let pos = (passed.others 0 (cells_pos l.last)).0.0 in absurd (omega arith);
      ends = λ c k word current closed passed. let pos = (passed.others 0 (cells_pos l.last)).0.0 in absurd (omega arith);
      count_seen = omega arith;
      small = omega arith;
    }
