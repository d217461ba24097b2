-- What a pass has seen moved is moved, and stays so.
use Rattle.std.proofs.Common.{◌≡◌, ◌⊎◌, ℕ, ◌/◌, ◌<◌, sym, subst, inl, inr, ⊎_elim, arith}
use Rattle.map_core.specs.declared.layout.Layout.{Layout}
use Rattle.map_core.specs.Places.{key_place, value_place, IsCell}
use Rattle.map_core.specs.Machine.{greatest, IsWord, Keeps, IsPublished, IsMoved, CellMoved, BlockMoved}
use Rattle.map_core.proofs.WordLemmas.{keeps_value, published_on}

module _ (l : Layout) (C D : ℕ → ℕ) (keeps : Keeps C D) where
  pub cell_moved_on : (g i : ℕ) → CellMoved l C g i → CellMoved l D g i
  cell_moved_on g i m =
      record {
        how = ⊎_elim
            (λ (sealed : C (key_place l g i) ≡ greatest). inl (keeps_value C D keeps (key_place l g i) greatest (omega arith) sealed))
            (λ (key : IsWord (C (key_place l g i)) × ((C (value_place l g i) ≡ greatest) ⊎ ((h : ℕ) × (g < h) × IsPublished l C h (C (key_place l g i)) (C (value_place l g i))))).
            let k = keeps (key_place l g i) key.0.0 in
            inr (
              subst IsWord (sym k) key.0,
              ⊎_elim
                  (λ (closed : C (value_place l g i) ≡ greatest). inl (keeps_value C D keeps (value_place l g i) greatest (omega arith) closed))
                  (λ (up : (h : ℕ) × (g < h) × IsPublished l C h (C (key_place l g i)) (C (value_place l g i))).
                  let v = keeps (value_place l g i) up.2.value.0 in
                  inr (up.0, up.1, subst (λ (p : ℕ × ℕ). IsPublished l D up.0 p.0 p.1) (λ t. (sym k t, sym v t)) (published_on l C D keeps up.0 (C (key_place l g i)) (C (value_place l g i)) up.2)))
                  key.1,
            ))
            m.how;
      }

  pub block_moved_on : (g b : ℕ) → BlockMoved l C g b → BlockMoved l D g b
  block_moved_on g b m = record { cells = λ i a at. cell_moved_on g i (m.cells i a at) }

-- a block whose cells are moved is done, and each of its pairs stands in a higher generation
pub block_is_moved : (l : Layout) (C : ℕ → ℕ) (g b : ℕ) → BlockMoved l C g b → IsMoved l C g b
block_is_moved l C g b m =
    record {
      done = λ i a at. ⊎_elim
          (λ (sealed : C (key_place l g i) ≡ greatest). inl sealed)
          (λ (key : IsWord (C (key_place l g i)) × ((C (value_place l g i) ≡ greatest) ⊎ ((h : ℕ) × (g < h) × IsPublished l C h (C (key_place l g i)) (C (value_place l g i))))).
          inr (⊎_elim
          (λ (closed : C (value_place l g i) ≡ greatest). let goal : 0 < C (value_place l g i) = omega arith in goal)
          (λ (up : (h : ℕ) × (g < h) × IsPublished l C h (C (key_place l g i)) (C (value_place l g i))). up.2.value.0)
          key.1))
          (m.cells i a at).how;
      moved = λ i a at word value. ⊎_elim
          (λ (sealed : C (key_place l g i) ≡ greatest). let lt = word.1 in absurd (omega arith))
          (λ (key : IsWord (C (key_place l g i)) × ((C (value_place l g i) ≡ greatest) ⊎ ((h : ℕ) × (g < h) × IsPublished l C h (C (key_place l g i)) (C (value_place l g i))))).
          ⊎_elim
          (λ (closed : C (value_place l g i) ≡ greatest). let lt = value.1 in absurd (omega arith))
          (λ (up : (h : ℕ) × (g < h) × IsPublished l C h (C (key_place l g i)) (C (value_place l g i))). up)
          key.1)
          (m.cells i a at).how;
    }
