-- Where a walk ends with no value, the history lacks the key.
use Rattle.std.proofs.Common.{◌≡◌, ℕ, ◌<◌, ◌≤◌, Option, Some, None, refl, sym, subst, inl, ⊎_elim, arith}
use mathlib.Core.Logic.{dite}
use native.Mathlib.Decide.{ℕ_discrete, dec_lt}
use Rattle.map_core.specs.declared.layout.Layout.{Layout}
use Rattle.map_core.specs.Sizes.{cells_of}
use Rattle.map_core.specs.History.{value_in}
use Rattle.map_core.specs.Places.{key_place, value_place, Within, IsCell}
use Rattle.map_core.specs.Machine.{IsWord, Passed, Reaches, IsClosed, IsPublished, IsSettled, State, Sound}
use Rattle.map_core.proofs.SettleLemmas.{not_both, empty_open, empty_lacks, unset_open, unset_lacks}

-- c is at most the current generation, and the key is closed in each generation from c up to below g
module _ (l : Layout) (fits : ℕ → ℕ → Type 0) (s : State) (so : Sound l fits s) (g k c : ℕ) (word : IsWord k) (seen : c ≤ s.current)
    (closed : (h : ℕ) → c ≤ h → h < g → IsClosed l s.cells h k) where
  -- a pair of the history stands in generation c or a higher one
  from_current : (v : ℕ) → value_in s.history k ≡ Some v → (h : ℕ) × (c ≤ h) × IsPublished l s.cells h k v
  from_current v e =
      let p = so.history.stands k v e in
      dite (dec_lt p.0 s.current)
      (λ low. let up = so.moved.carried p.0 k v low p.1 in let hi = up.1 in (up.0, omega arith, up.2))
      (λ high. (p.0, omega arith, p.1))

  pub absent : ((v : ℕ) → IsPublished l s.cells g k v → ⊥) → ((h v : ℕ) → g < h → IsPublished l s.cells h k v → ⊥) → value_in s.history k ≡ None
  absent not_here not_above = none_or (value_in s.history k) refl
    where
      none_or : (o : Option ℕ) → value_in s.history k ≡ o → value_in s.history k ≡ None
      none_or None e = e
      none_or (Some v) e =
          let p = from_current v e in
          dite (dec_lt p.0 g)
          (λ low. absurd (not_both l s.cells so.cells p.0 k v (closed p.0 p.1 low) p.2))
          (λ high. dite (ℕ_discrete p.0 g)
          (λ is. absurd (not_here v (subst (λ (x : ℕ). IsPublished l s.cells x k v) is p.2)))
          (λ ne. absurd (not_above p.0 v (omega arith) p.2)))

  -- a key that isn't settled here stands in no higher generation
  no_higher : Within l g → (IsSettled l s.cells g k → ⊥) → (h v : ℕ) → g < h → IsPublished l s.cells h k v → ⊥
  no_higher within not_settled h v lt p =
      not_settled (subst (λ (x : ℕ). IsSettled l s.cells g x) p.key_is (so.closed.lower g h p.index within lt p.cell (subst IsWord (sym p.key_is) p.key)))

  -- at an empty key word
  pub absent_at_empty : (i : ℕ) → IsCell l g i → s.cells (key_place l g i) ≡ 0 → Reaches l s.cells g i k → value_in s.history k ≡ None
  absent_at_empty i cell empty walk =
      let not_here : (v : ℕ) → IsPublished l s.cells g k v → ⊥ = λ v. empty_lacks l s.cells so.cells g i k v empty walk in
      absent not_here (no_higher cell.0 (⊎_elim
      (λ (x : IsClosed l s.cells g k). empty_open l s.cells so.cells g i k word empty walk x)
      (λ (x : (v : ℕ) × IsPublished l s.cells g k v). not_here x.0 x.1)))

  -- at the key's own cell with no value
  pub absent_unset : (i : ℕ) → IsCell l g i → s.cells (key_place l g i) ≡ k → s.cells (value_place l g i) ≡ 0 → value_in s.history k ≡ None
  absent_unset i cell key unset =
      let not_here : (v : ℕ) → IsPublished l s.cells g k v → ⊥ = λ v. unset_lacks l s.cells so.cells g i k v cell word key unset in
      absent not_here (no_higher cell.0 (⊎_elim
      (λ (x : IsClosed l s.cells g k). unset_open l s.cells so.cells g i k cell word key unset x)
      (λ (x : (v : ℕ) × IsPublished l s.cells g k v). not_here x.0 x.1)))

  -- at the end of the last generation, which is full of other keys
  pub absent_whole : g ≡ l.last → Passed l s.cells g k (cells_of g) → value_in s.history k ≡ None
  absent_whole is passed =
      absent (λ v p. not_both l s.cells so.cells g k v record { steps = cells_of g; within = omega arith; passed = passed; end = inl refl } p)
      (λ h v lt p. let hi = p.cell.0.1 in omega arith)
