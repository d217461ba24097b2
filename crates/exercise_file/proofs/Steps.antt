-- One piece more.
use Rattle.std.specs.Prelude.{◌≡◌, ℕ, zero, suc, ◌+◌, List, ◌++◌}
use Rattle.std.specs.List.{flat_map, range_with_len}
use Rattle.std.proofs.Common.{arith, ap, sym, ◌∙◌, append_assoc, append-nil}
use Rattle.exercise_file.specs.Generated.{pieces}

last_piece : (f : ℕ → List ℕ) (a n : ℕ) → flat_map f (range_with_len a (suc n)) ≡ flat_map f (range_with_len a n) ++ f (a + n)
last_piece f a zero = let same : a ≡ a + 0 = omega arith in append-nil (f a) ∙ ap f same
last_piece f a (suc n) =
    let same : a + 1 + n ≡ a + suc n = omega arith in
    ap (λ (t : List ℕ). f a ++ t) (last_piece f (a + 1) n ∙ ap (λ k. flat_map f (range_with_len (a + 1) n) ++ f k) same) ∙ sym (append_assoc (f a) (flat_map f (range_with_len (a + 1) n)) (f (a + suc n)))

pub pieces_step : (f : ℕ → List ℕ) (old mid new : List ℕ) (i : ℕ) → mid ≡ old ++ pieces f i → new ≡ mid ++ f i → new ≡ old ++ pieces f (i + 1)
pieces_step f old mid new i done more =
    let same : 0 + i ≡ i = omega arith in
    let next : i + 1 ≡ suc i = omega arith in
    let step : pieces f (i + 1) ≡ pieces f i ++ f i = ap (pieces f) next ∙ last_piece f 0 i ∙ ap (λ k. pieces f i ++ f k) same in
    more ∙ ap (λ (t : List ℕ). t ++ f i) done ∙ append_assoc old (pieces f i) (f i) ∙ ap (λ (t : List ℕ). old ++ t) (sym step)
