-- The words of draws at the start.
use Rattle.std.proofs.Common.{◌≡◌, ℕ, zero, suc, ◌+◌, ◌<◌, List, [], ◌∷◌, ◌++◌, length, slice_index, replicate, refl, sym, ap, ◌∙◌, arith, add-one, length-append}
use mathlib.Core.Logic.{dite}
use native.Mathlib.Decide.{ℕ_discrete}
use Rattle.unit_draws.specs.Windows.{first_words, window_count, window_length, window_lengths}

-- a list behind another
index_first : (xs ys : List ℕ) (q : ℕ) → q < length xs → slice_index (xs ++ ys) q ≡ slice_index xs q
index_first [] ys q low = absurd (omega (arith, low))
index_first (x ∷ xs) ys zero low = refl
index_first (x ∷ xs) ys (suc q) low = index_first xs ys q (omega (arith, low))

index_behind : (xs ys : List ℕ) (n q : ℕ) → length xs ≡ n → slice_index (xs ++ ys) (n + q) ≡ slice_index ys q
index_behind [] ys n q is = let z : n + q ≡ q = omega arith in ap (slice_index ys) z
index_behind (x ∷ xs) ys n q is =
    let m : ℕ = length xs in
    let long : n ≡ suc m = sym is in
    let next : n + q ≡ suc (m + q) = omega arith in
    ap (slice_index (x ∷ (xs ++ ys))) next ∙ index_behind xs ys m q refl

zeros : (n q : ℕ) → slice_index (replicate n 0) q ≡ 0
zeros zero q = refl
zeros (suc n) zero = refl
zeros (suc n) (suc q) = zeros n q

zeros_length : (n : ℕ) → length {A = ℕ} (replicate n 0) ≡ n
zeros_length zero = refl
zeros_length (suc n) = ap suc (zeros_length n)

lengths_length : (units n : ℕ) → length (window_lengths units n) ≡ n
lengths_length units zero = refl
lengths_length units (suc n) =
    let rest = lengths_length units n in
    let all = length-append (window_lengths units n) (window_length units n ∷ []) in omega (arith, rest, all)

lengths_at : (units n w : ℕ) → w < n → slice_index (window_lengths units n) w ≡ window_length units w
lengths_at units zero w low = absurd (omega (arith, low))
lengths_at units (suc n) w low =
    let long = lengths_length units n in
    dite (ℕ_discrete w n)
    (λ is. let here : n + 0 ≡ w = omega (arith, is) in
    ap (slice_index (window_lengths units (suc n))) (sym here) ∙ index_behind (window_lengths units n) (window_length units n ∷ []) n 0 long ∙ ap (window_length units) (sym is))
    (λ isnt. index_first (window_lengths units n) (window_length units n ∷ []) w (omega (arith, low, isnt, long)) ∙ lengths_at units n w (omega (arith, low, isnt)))

-- one window more
pub lengths_next : (units n : ℕ) → window_lengths units (n + 1) ≡ window_lengths units n ++ window_length units n ∷ []
lengths_next units n = ap (window_lengths units) (add-one n)

module _ (units : ℕ) where
  pub first_length : length (first_words units) ≡ window_count units + window_count units
  unfolding first_words
  first_length =
      let zero_length = zeros_length (window_count units) in
      let rest_length = lengths_length units (window_count units) in
      let all = length-append (replicate (window_count units) 0) (window_lengths units (window_count units)) in omega (arith, zero_length, rest_length, all)

  pub first_next : (q : ℕ) → q < window_count units → slice_index (first_words units) q ≡ 0
  unfolding first_words
  first_next q low =
      let zero_length = zeros_length (window_count units) in
      index_first (replicate (window_count units) 0) (window_lengths units (window_count units)) q (omega (arith, low, zero_length)) ∙ zeros (window_count units) q

  pub first_least : (w : ℕ) → w < window_count units → slice_index (first_words units) (window_count units + w) ≡ window_length units w
  unfolding first_words
  first_least w low =
      index_behind (replicate (window_count units) 0) (window_lengths units (window_count units)) (window_count units) w (zeros_length (window_count units)) ∙ lengths_at units (window_count units) w low
