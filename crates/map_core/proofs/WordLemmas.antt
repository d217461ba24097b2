-- What stays while words that are 0 become others, and where a walk ends.
use Rattle.std.proofs.Common.{◌≡◌, ◌≢◌, ◌⊎◌, ℕ, ◌<◌, sym, ap, subst, ◌∙◌, inl, inr, ⊎_elim, arith}
use mathlib.Core.Logic.{dite}
use native.Mathlib.Decide.{ℕ_discrete, dec_lt}
use Rattle.map_core.specs.declared.layout.Layout.{Layout}
use Rattle.map_core.specs.Sizes.{cells_of}
use Rattle.map_core.specs.Places.{key_place, value_place, spot, IsCell}
use Rattle.map_core.specs.Machine.{greatest, IsWord, Keeps, Only, Passed, Reaches, IsClosed, IsPublished, IsSettled, IsDone, IsFinal, OneCellPerKey}

pub keeps_at : (p : ℕ) (C D : ℕ → ℕ) → C p ≡ 0 → Only p C D → Keeps C D
keeps_at p C D zero_at only q some_there = dite (ℕ_discrete q p) (λ e. let z : C q ≡ 0 = ap C e ∙ zero_at in absurd (omega arith)) (λ ne. only q ne)

pub keeps_word : (C D : ℕ → ℕ) → Keeps C D → (q : ℕ) → IsWord (C q) → IsWord (D q)
keeps_word C D keeps q w = subst IsWord (sym (keeps q w.0)) w

pub keeps_value : (C D : ℕ → ℕ) → Keeps C D → (q w : ℕ) → 0 < w → C q ≡ w → D q ≡ w
keeps_value C D keeps q w pos e = keeps q (subst (λ (x : ℕ). 0 < x) (sym e) pos) ∙ e

module _ (l : Layout) (C D : ℕ → ℕ) (keeps : Keeps C D) where
  pub passed_on : (g k d : ℕ) → Passed l C g k d → Passed l D g k d
  passed_on g k d p =
      record { others = λ j h. let w = p.others j h in subst (λ (x : ℕ). IsWord x × (x ≢ k)) (sym (keeps (key_place l g (spot g k j)) w.0.0)) w }

  pub reaches_on : (g i k : ℕ) → Reaches l C g i k → Reaches l D g i k
  reaches_on g i k r = record { steps = r.steps; within = r.within; place = r.place; passed = passed_on g k r.steps r.passed }

  pub published_on : (g k v : ℕ) → IsPublished l C g k v → IsPublished l D g k v
  published_on g k v p =
      record {
        index = p.index;
        cell = p.cell;
        key_is = keeps_value C D keeps (key_place l g p.index) k p.key.0 p.key_is;
        value_is = keeps_value C D keeps (value_place l g p.index) v p.value.0 p.value_is;
        key = p.key;
        value = p.value;
      }

  pub closed_on : (g k : ℕ) → 0 < k → IsClosed l C g k → IsClosed l D g k
  closed_on g k pos c =
      let at : ℕ = spot g k c.steps in
      record {
        steps = c.steps;
        within = c.within;
        passed = passed_on g k c.steps c.passed;
        end = ⊎_elim
            (λ (e : c.steps ≡ cells_of g). inl e)
            (λ (e : (C (key_place l g at) ≡ greatest) ⊎ ((C (key_place l g at) ≡ k) × (C (value_place l g at) ≡ greatest))). inr (⊎_elim
            (λ (s : C (key_place l g at) ≡ greatest). inl (keeps_value C D keeps (key_place l g at) greatest (omega arith) s))
            (λ (s : (C (key_place l g at) ≡ k) × (C (value_place l g at) ≡ greatest)). inr (keeps_value C D keeps (key_place l g at) k pos s.0, keeps_value C D keeps (value_place l g at) greatest (omega arith) s.1))
            e))
            c.end;
      }

  pub done_on : (g i : ℕ) → IsDone l C g i → IsDone l D g i
  done_on g i =
      ⊎_elim
      (λ (s : C (key_place l g i) ≡ greatest). inl (keeps_value C D keeps (key_place l g i) greatest (omega arith) s))
      (λ (s : 0 < C (value_place l g i)). inr (subst (λ (x : ℕ). 0 < x) (sym (keeps (value_place l g i) s)) s))

  pub settled_on : (g k : ℕ) → 0 < k → IsSettled l C g k → IsSettled l D g k
  settled_on g k pos = ⊎_elim
      (λ (c : IsClosed l C g k). inl (closed_on g k pos c))
      (λ (p : (v : ℕ) × IsPublished l C g k v). inr (p.0, published_on g k p.0 p.1))

  pub final_on : (g : ℕ) → IsFinal l C g → IsFinal l D g
  final_on g f = record { done = λ i a. done_on g i (f.done i a) }

-- the walk of a key has one end
pub one_end : (l : Layout) (C : ℕ → ℕ) (g k d e : ℕ) → Passed l C g k d → Passed l C g k e
    → ((IsWord (C (key_place l g (spot g k d))) × (C (key_place l g (spot g k d)) ≢ k)) → ⊥)
    → ((IsWord (C (key_place l g (spot g k e))) × (C (key_place l g (spot g k e)) ≢ k)) → ⊥)
    → d ≡ e
one_end l C g k d e p q ends_d ends_e =
    dite (dec_lt d e) (λ lt. absurd (ends_d (q.others d lt))) (λ ge. dite (dec_lt e d) (λ lt. absurd (ends_e (p.others e lt))) (λ le. omega arith))

-- a key of a generation stands in one cell
pub one_cell : (l : Layout) (C : ℕ → ℕ) → OneCellPerKey l C → (g i j k : ℕ) → IsWord k → IsCell l g i → IsCell l g j → C (key_place l g i) ≡ k → C (key_place l g j) ≡ k → i ≡ j
one_cell l C m g i j k w a b ei ej =
    let r = subst (λ (x : ℕ). Reaches l C g i x) ei (m.walked g i a (subst IsWord (sym ei) w)) in
    let s = subst (λ (x : ℕ). Reaches l C g j x) ej (m.walked g j b (subst IsWord (sym ej) w)) in
    let er : C (key_place l g (spot g k r.steps)) ≡ k = subst (λ (x : ℕ). C (key_place l g x) ≡ k) r.place ei in
    let es : C (key_place l g (spot g k s.steps)) ≡ k = subst (λ (x : ℕ). C (key_place l g x) ≡ k) s.place ej in
    let same = one_end l C g k r.steps s.steps r.passed s.passed (λ t. t.1 er) (λ t. t.1 es) in
    r.place ∙ (ap (spot g k) same ∙ sym s.place)
