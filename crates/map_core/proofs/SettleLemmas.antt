-- Where a key is closed it is published nowhere in that generation, and a final generation closes or publishes each key.
use Rattle.std.proofs.Common.{◌≡◌, ◌≢◌, ◌⊎◌, ℕ, zero, suc, ◌<◌, refl, sym, ap, subst, ◌∙◌, inl, inr, ⊎_elim, arith}
use mathlib.Core.Logic.{dite}
use native.Mathlib.Decide.{ℕ_discrete, dec_lt}
use Rattle.map_core.specs.declared.layout.Layout.{Layout}
use Rattle.map_core.specs.Sizes.{cells_of}
use Rattle.map_core.specs.Places.{key_place, value_place, spot, Within, IsCell}
use Rattle.map_core.specs.Machine.{greatest, IsWord, Passed, Reaches, IsClosed, IsPublished, IsSettled, IsFinal, OneCellPerKey}
use Rattle.map_core.proofs.PlaceLemmas.{spot_cell}
use Rattle.map_core.proofs.WordLemmas.{one_end, one_cell}

module _ (l : Layout) (C : ℕ → ℕ) (m : OneCellPerKey l C) where
  -- a step at which the walk of k ends
  abbrev EndsAt : ℕ → ℕ → ℕ → Type 0
  EndsAt g k d = (IsWord (C (key_place l g (spot g k d))) × (C (key_place l g (spot g k d)) ≢ k)) → ⊥

  -- the walk of a key to its cell
  walk_to : (g i k : ℕ) → IsCell l g i → IsWord k → C (key_place l g i) ≡ k → Reaches l C g i k
  walk_to g i k a w is = subst (λ (x : ℕ). Reaches l C g i x) is (m.walked g i a (subst IsWord (sym is) w))

  -- where a key is closed and stands in a cell, the cell is closed
  pub closed_value : (g i k : ℕ) → IsCell l g i → IsWord k → C (key_place l g i) ≡ k → IsClosed l C g k → C (value_place l g i) ≡ greatest
  closed_value g i k a w is c =
      let r = walk_to g i k a w is in
      let there : C (key_place l g (spot g k r.steps)) ≡ k = subst (λ (x : ℕ). C (key_place l g x) ≡ k) r.place is in
      let at : ℕ = spot g k c.steps in
      ⊎_elim
      (λ (whole : c.steps ≡ cells_of g). let lt = r.within in absurd ((c.passed.others r.steps (omega arith)).1 there))
      (⊎_elim
      (λ (sealed : C (key_place l g at) ≡ greatest).
      let same : c.steps ≡ r.steps = one_end l C g k c.steps r.steps c.passed r.passed (λ t. let lt = t.0.1 in omega arith) (λ t. t.1 there) in
      let both : C (key_place l g at) ≡ k = subst (λ (x : ℕ). C (key_place l g (spot g k x)) ≡ k) (sym same) there in
      let lt = w.1 in absurd (omega arith))
      (λ (end : (C (key_place l g at) ≡ k) × (C (value_place l g at) ≡ greatest)).
      let same : c.steps ≡ r.steps = one_end l C g k c.steps r.steps c.passed r.passed (λ t. t.1 end.0) (λ t. t.1 there) in
      subst (λ (x : ℕ). C (value_place l g x) ≡ greatest) (ap (spot g k) same ∙ sym r.place) end.1))
      c.end

  -- no key is closed and published in one generation
  pub not_both : (g k v : ℕ) → IsClosed l C g k → IsPublished l C g k v → ⊥
  not_both g k v c p = let e = closed_value g p.index k p.cell p.key p.key_is c in let v_is = p.value_is in let lt = p.value.1 in omega arith

  -- a key whose walk ends at an empty key word is neither closed nor published
  pub empty_open : (g i k : ℕ) → IsWord k → C (key_place l g i) ≡ 0 → Reaches l C g i k → IsClosed l C g k → ⊥
  empty_open g i k w empty r c =
      let here : C (key_place l g (spot g k r.steps)) ≡ 0 = subst (λ (x : ℕ). C (key_place l g x) ≡ 0) r.place empty in
      let ends : EndsAt g k r.steps = λ t. let pos = t.0.0 in omega arith in
      let at : ℕ = spot g k c.steps in
      ⊎_elim
      (λ (whole : c.steps ≡ cells_of g). let lt = r.within in ends (c.passed.others r.steps (omega arith)))
      (⊎_elim
      (λ (sealed : C (key_place l g at) ≡ greatest).
      let same : c.steps ≡ r.steps = one_end l C g k c.steps r.steps c.passed r.passed (λ t. let lt = t.0.1 in omega arith) ends in
      let both : C (key_place l g at) ≡ 0 = subst (λ (x : ℕ). C (key_place l g (spot g k x)) ≡ 0) (sym same) here in omega arith)
      (λ (end : (C (key_place l g at) ≡ k) × (C (value_place l g at) ≡ greatest)).
      let same : c.steps ≡ r.steps = one_end l C g k c.steps r.steps c.passed r.passed (λ t. t.1 end.0) ends in
      let both : C (key_place l g at) ≡ 0 = subst (λ (x : ℕ). C (key_place l g (spot g k x)) ≡ 0) (sym same) here in
      let k_is : C (key_place l g at) ≡ k = end.0 in
      let pos = w.0 in omega arith))
      c.end

  pub empty_lacks : (g i k v : ℕ) → C (key_place l g i) ≡ 0 → Reaches l C g i k → IsPublished l C g k v → ⊥
  empty_lacks g i k v empty walk p =
      let r = walk_to g p.index k p.cell p.key p.key_is in
      let here : C (key_place l g (spot g k walk.steps)) ≡ 0 = subst (λ (x : ℕ). C (key_place l g x) ≡ 0) walk.place empty in
      let there : C (key_place l g (spot g k r.steps)) ≡ k = subst (λ (x : ℕ). C (key_place l g x) ≡ k) r.place p.key_is in
      let same = one_end l C g k walk.steps r.steps walk.passed r.passed (λ t. let pos = t.0.0 in omega arith) (λ t. t.1 there) in
      let both : C (key_place l g (spot g k walk.steps)) ≡ k = subst (λ (x : ℕ). C (key_place l g (spot g k x)) ≡ k) (sym same) there in
      let pos = p.key.0 in omega arith

  -- nor is a key with an unset value
  pub unset_open : (g i k : ℕ) → IsCell l g i → IsWord k → C (key_place l g i) ≡ k → C (value_place l g i) ≡ 0 → IsClosed l C g k → ⊥
  unset_open g i k a w is unset c = let e = closed_value g i k a w is c in omega arith

  pub unset_lacks : (g i k v : ℕ) → IsCell l g i → IsWord k → C (key_place l g i) ≡ k → C (value_place l g i) ≡ 0 → IsPublished l C g k v → ⊥
  unset_lacks g i k v a w is unset p =
      let same = one_cell l C m g i p.index k w a p.cell is p.key_is in
      let value : C (value_place l g i) ≡ v = subst (λ (x : ℕ). C (value_place l g x) ≡ v) (sym same) p.value_is in
      let pos = p.value.0 in omega arith

  -- the walk of k ends before step n, or passes n cells
  first_end : (g k n : ℕ) → Passed l C g k n ⊎ ((d : ℕ) × (d < n) × Passed l C g k d × EndsAt g k d)
  first_end g k zero = inl record { others = λ j lt. absurd (omega arith) }
  first_end g k (suc n) = ⊎_elim
      (λ (p : Passed l C g k n).
      let x : ℕ = C (key_place l g (spot g k n)) in
      let stops : EndsAt g k n → Passed l C g k (suc n) ⊎ ((d : ℕ) × (d < suc n) × Passed l C g k d × EndsAt g k d) = λ e. inr (n, omega arith, p, e) in
      dite (ℕ_discrete x 0)
      (λ z. stops (λ t. let pos = t.0.0 in omega arith))
      (λ nz. dite (dec_lt x greatest)
      (λ lt. dite (ℕ_discrete x k)
      (λ e. stops (λ t. t.1 e))
      (λ ne. inl record {
        others = λ j h. dite (ℕ_discrete j n)
            (λ e. subst (λ (y : ℕ). IsWord (C (key_place l g (spot g k y))) × (C (key_place l g (spot g k y)) ≢ k)) (sym e) ((omega arith, lt), ne))
            (λ other. p.others j (omega arith));
      }))
      (λ ge. stops (λ t. ge t.0.1))))
      (λ (r : (d : ℕ) × (d < n) × Passed l C g k d × EndsAt g k d). let lt = r.1 in inr (r.0, omega arith, r.2, r.3))
      (first_end g k n)

  -- a final generation closes or publishes each key
  pub final_settles : (g k : ℕ) → Within l g → IsWord k → IsFinal l C g → IsSettled l C g k
  final_settles g k w word final = ⊎_elim
      (λ (p : Passed l C g k (cells_of g)). inl record { steps = cells_of g; within = omega arith; passed = p; end = inl refl })
      (λ (r : (d : ℕ) × (d < cells_of g) × Passed l C g k d × EndsAt g k d).
      let d : ℕ = r.0 in
      let i : ℕ = spot g k d in
      let a : IsCell l g i = spot_cell l g k d w in
      let lt = r.1 in
      ⊎_elim
      (λ (sealed : C (key_place l g i) ≡ greatest). inl record { steps = d; within = omega arith; passed = r.2; end = inr (inl sealed) })
      (λ (there : 0 < C (value_place l g i)).
      dite (ℕ_discrete (C (key_place l g i)) k)
      (λ is. dite (ℕ_discrete (C (value_place l g i)) greatest)
      (λ e. inl record { steps = d; within = omega arith; passed = r.2; end = inr (inr (is, e)) })
      (λ ne. let most = m.bounded g i a in inr (C (value_place l g i), record { index = i; cell = a; key_is = is; value_is = refl; key = word; value = (there, omega arith) })))
      (λ isnt. absurd (r.3 (m.keyed g i a there, isnt))))
      (final.done i a))
      (first_end g k (cells_of g))
