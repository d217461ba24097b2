-- Facts that several calls want of a pass.
use Rattle.std.proofs.Common.{◌≡◌, ◌≢◌, ℕ, ◌+◌, ◌-◌, ◌<◌, ◌≤◌, true, false, List, [], ◌∷◌, ◌++◌, length, length-append, sym, ap, subst, ◌∙◌, ⊎_elim, true≢false, arith}
use mathlib.Core.Logic.{dite}
use native.Mathlib.Decide.{ℕ_discrete}
use Rattle.map_core.specs.declared.entry.Entry.{Entry}
use Rattle.map_core.specs.declared.view.View.{View}
use Rattle.map_core.specs.History.{IsLegalHistory, is_in, by_any, StartsWithOwn}
use Rattle.map_core.specs.Places.{word_count}
use Rattle.map_core.specs.Passes.{placed, AtRest, Distinct, PassFacts}
use Rattle.map_core.specs.Knowing.{halved, newcomer, put_together}
use Rattle.map_core.specs.Calls.{own}
use Rattle.map_core.proofs.FactLemmas.{halved_facts, newcomer_facts, newcomer_own}
use Rattle.map_core.proofs.HistoryLemmas.{by_hit, by_miss, test_cases}
use Rattle.map_core.proofs.PassLemmas.{not_in_parts}
use Rattle.map_core.proofs.CountLemmas.{in_miss}
use Rattle.map_cells.specs.Passing.{IsSplit, IsJoined, Settles}
use Rattle.map_cells.proofs.WordSteps.{most_words, words_small}

pub by_length : (ns : List ℕ) (es : List Entry) → length (by_any ns es) ≤ length es
by_length ns [] = omega arith
by_length ns (e ∷ es) =
    let h = by_length ns es in
    let a : ℕ = length (by_any ns es) in
    let b : ℕ = length es in
    let h' : a ≤ b = h in
    ⊎_elim
    (λ (t : is_in e.who ns ≡ true). subst (λ (x : List Entry). length x ≤ length (e ∷ es)) (sym (by_hit ns e es t)) (let goal : a + 1 ≤ b + 1 = omega arith in omega arith))
    (λ (f : is_in e.who ns ≡ false). subst (λ (x : List Entry). length x ≤ length (e ∷ es)) (sym (by_miss ns e es f)) (omega arith))
    (test_cases (is_in e.who ns))

-- no pass has placed more than there are words
pub placed_small : (fits : List ℕ → ℕ → ℕ → Type 0) (v : View) → PassFacts fits v → placed v ≤ most_words
placed_small fits v facts =
    let a = facts.tally in
    let b = by_length v.numbers v.front in
    let c = facts.small in
    let d = words_small v.layout in
    let x : ℕ = length (by_any v.numbers v.front) in
    let y : ℕ = length v.front in
    let z : ℕ = word_count v.layout in
    let p : ℕ = placed v in
    let a' : x ≡ p = a in
    let b' : x ≤ y = b in
    let c' : y ≤ z = c in
    let d' : z ≤ most_words = d in
    let goal : p ≤ most_words = omega arith in goal

pub placed_joined : (v u w : View) → w.counted ≡ (put_together v u).counted → w.uncounted ≡ (put_together v u).uncounted → placed w ≡ placed v + placed u
placed_joined v u w counted uncounted =
    let n = length-append v.uncounted u.uncounted in
    let a : ℕ = length v.uncounted in
    let b : ℕ = length u.uncounted in
    let c : ℕ = length (v.uncounted ++ u.uncounted) in
    let d : ℕ = length w.uncounted in
    let n' : c ≡ a + b = n in
    let e : d ≡ c = ap (λ (x : List Entry). length x) uncounted in
    let f : w.counted ≡ v.counted + u.counted = counted in
    let goal : w.counted + d ≡ (v.counted + a) + (u.counted + b) = omega arith in goal

-- a split, by the two views that it leaves
pub is_split : (fits : List ℕ → ℕ → ℕ → Type 0) (v w u : View) → w ≡ halved v → u ≡ newcomer v → 0 < v.spare → PassFacts fits v → IsSplit fits v w u
is_split fits v w u half new some_spare facts =
    let passes : ℕ = v.layout.passes in
    let spare : ℕ = v.spare in
    let low : spare < passes = facts.spare in
    let one_less : (spare - 1) + 1 ≡ spare = omega arith in
    let later : passes - spare ≢ 0 = λ e. omega arith in
    let number : u.number ≡ passes - spare = ap (λ (x : View). x.number) new in
    record {
      old = half;
      new = new;
      splits = record {
        front = ap (λ (x : View). x.front) half;
        number = ap (λ (x : View). x.number) half;
        numbers = ap (λ (x : View). x.numbers) half;
        spare = ap (λ (x : View). x.spare + 1) half ∙ one_less;
        tag = ap (λ (x : View). x.tag) half;
      };
      number = number;
      not_first = λ e. later (sym number ∙ e);
      own = ap (λ (x : View). own x) new ∙ newcomer_own fits v some_spare facts;
      facts = subst (PassFacts fits) (sym half) (halved_facts fits v some_spare facts);
      new_facts = subst (PassFacts fits) (sym new) (newcomer_facts fits v some_spare facts);
    }

-- two parts of a list of different numbers are disjoint
pub parts_apart : (ns ms : List ℕ) → Distinct (ns ++ ms) → (n : ℕ) → is_in n ns ≡ true → is_in n ms ≡ false
parts_apart [] ms d n h = absurd (true≢false (sym h))
parts_apart (k ∷ ns) ms d n h =
    dite (ℕ_discrete n k)
    (λ e. ap (λ (x : ℕ). is_in x ms) e ∙ (not_in_parts k ns ms d.0).1)
    (λ ne. parts_apart ns ms d.1 n (sym (in_miss n k ns ne) ∙ h))

-- both steps of a join together
pub joined : (fits : List ℕ → ℕ → ℕ → Type 0) (v u m w : View) → m ≡ put_together v u → Settles fits m w → PassFacts fits v → PassFacts fits u → AtRest v → AtRest u → IsJoined fits v u w
joined fits v u m w is s facts_v facts_u rest_v rest_u =
    let counted : w.counted ≡ (put_together v u).counted = s.counted ∙ ap (λ (x : View). x.counted) is in
    let uncounted : w.uncounted ≡ (put_together v u).uncounted = s.uncounted ∙ ap (λ (x : View). x.uncounted) is in
    let numbers : w.numbers ≡ v.numbers ++ u.numbers = s.numbers ∙ ap (λ (x : View). x.numbers ++ x.beside_numbers) is in
    let tag : w.tag ≡ v.tag = s.tag ∙ ap (λ (x : View). x.tag) is in
    let sum : placed w ≡ placed v + placed u = placed_joined v u w counted uncounted in
    record {
      joins = record {
        legal = subst (λ (x : List ℕ). IsLegalHistory (fits x) w.front) tag s.facts.legal;
        mine = subst (λ (x : View). StartsWithOwn x.numbers x.front w.front) is s.mine;
        theirs = subst (λ (x : View). StartsWithOwn x.beside_numbers x.beside w.front) is s.theirs;
        apart = parts_apart v.numbers u.numbers (subst Distinct numbers s.facts.distinct);
        all = s.facts.tally ∙ (sum ∙ (λ t. sym facts_v.tally t + sym facts_u.tally t));
        number = s.number ∙ ap (λ (x : View). x.number) is;
        numbers = numbers;
        spare = s.spare ∙ ap (λ (x : View). x.spare) is;
        tag = tag;
      };
      facts = s.facts;
      layout = s.layout ∙ ap (λ (x : View). x.layout) is;
      generation = s.generation ∙ ap (λ (x : View). x.generation) is;
      currents = s.currents ∙ ap (λ (x : View). x.currents) is;
      rest = record {
        claim = s.claim ∙ (ap (λ (x : View). x.claim) is ∙ rest_v.claim);
        uncounted = uncounted ∙ (λ k. rest_v.uncounted k ++ rest_u.uncounted k);
      };
      placed = sum;
      known = s.known ∙ ap (λ (x : View). x.known) is;
      count_seen = s.count_seen ∙ ap (λ (x : View). x.count_seen) is;
    }
