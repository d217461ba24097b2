-- One group more, from the last to the first.
use Rattle.std.proofs.lemmas.Bool.Decides.{nat_tests}
use Rattle.std.proofs.Common.{◌≡◌, sym, ℕ, zero, suc, ◌+◌, ◌*◌, ◌%◌, ◌<◌, ◌≤◌, ◌^◌, List, [], ◌∷◌, length, get_or, drop, ap, ◌∙◌, refl, add-one, drop-cons, arith, None}
use Rattle.std.proofs.Common.{ℤ, pos, negsuc, ◌+ℤ◌, ◌*ℤ◌, neg_ℤ, ◌≤ℤ◌, ◌<ℤ◌}
use Rattle.std.proofs.lemmas.Int.{ints}
use Rattle.dw_fields.specs.Leb.{leb_sum, signed_leb_sum, within_signed, within_unsigned}

pub leb_step : (xs : List ℕ) (k : ℕ) → k < length xs → leb_sum (drop k xs) ≡ leb_sum (drop (k + 1) xs) * 128 + get_or xs k 0 % 128
leb_step xs k h = rw (add-one, drop-cons xs k 0 h) refl

pub leb_le : (k : ℕ) (xs : List ℕ) → leb_sum (drop k xs) ≤ leb_sum xs
leb_le zero xs = omega arith
leb_le (suc k) [] = omega arith
leb_le (suc k) (x ∷ xs) = omega (arith, leb_le k xs)

pub leb_too_large : (xs : List ℕ) (left now value : ℕ) → 0 < left → left ≤ length xs → now + 1 ≡ left → value ≡ leb_sum (drop left xs) → 144115188075855871 < value → None ≡ within_unsigned (leb_sum xs)
leb_too_large xs left now value some inside step sum large =
    let s : leb_sum (drop now xs) ≡ leb_sum (drop (now + 1) xs) * 128 + get_or xs now 0 % 128 = leb_step xs now (omega arith) in
    let e : leb_sum (drop (now + 1) xs) ≡ value = ap (λ k. leb_sum (drop k xs)) step ∙ sym sum in
    let m : leb_sum (drop now xs) ≤ leb_sum xs = leb_le now xs in
    let big : 2 ^ 64 ≤ leb_sum xs = omega arith in
    grind (arith, nat_tests)

pub signed_leb_step : (xs : List ℕ) (k : ℕ) → k + 1 < length xs → signed_leb_sum (drop k xs) ≡ signed_leb_sum (drop (k + 1) xs) *ℤ pos 128 +ℤ pos (get_or xs k 0 % 128)
signed_leb_step xs k h =
    let here : drop k xs ≡ get_or xs k 0 ∷ drop (suc k) xs = drop-cons xs k 0 (omega arith) in
    let next : drop (suc k) xs ≡ get_or xs (suc k) 0 ∷ drop (suc (suc k)) xs = drop-cons xs (suc k) 0 (omega arith) in
    rw (add-one, here, next) refl

stays_large : (k : ℕ) (xs : List ℕ) → k < length xs → pos (2 ^ 63) ≤ℤ signed_leb_sum (drop k xs) → pos (2 ^ 63) ≤ℤ signed_leb_sum xs
stays_large zero xs inside large = large
stays_large (suc k) [] inside large = absurd (omega arith)
stays_large (suc k) (x ∷ []) inside large = absurd (omega arith)
stays_large (suc k) (x ∷ y ∷ ys) inside large =
    let before : pos (2 ^ 63) ≤ℤ signed_leb_sum (y ∷ ys) = stays_large k (y ∷ ys) (omega arith) large in
    omega (arith, ints)

stays_small : (k : ℕ) (xs : List ℕ) → k < length xs → signed_leb_sum (drop k xs) <ℤ neg_ℤ (pos (2 ^ 63)) → signed_leb_sum xs <ℤ neg_ℤ (pos (2 ^ 63))
stays_small zero xs inside small = small
stays_small (suc k) [] inside small = absurd (omega arith)
stays_small (suc k) (x ∷ []) inside small = absurd (omega arith)
stays_small (suc k) (x ∷ y ∷ ys) inside small =
    let before : signed_leb_sum (y ∷ ys) <ℤ neg_ℤ (pos (2 ^ 63)) = stays_small k (y ∷ ys) (omega arith) small in
    omega (arith, ints)

pub within_signed_large : (z : ℤ) → pos (2 ^ 63) ≤ℤ z → None ≡ within_signed z
within_signed_large (pos n) large = let h : 2 ^ 63 ≤ n = omega (arith, ints) in grind (arith, nat_tests)
within_signed_large (negsuc n) large = absurd (omega (arith, ints))

pub within_signed_small : (z : ℤ) → z <ℤ neg_ℤ (pos (2 ^ 63)) → None ≡ within_signed z
within_signed_small (pos n) small = absurd (omega (arith, ints))
within_signed_small (negsuc n) small = let h : 2 ^ 63 ≤ n = omega (arith, ints) in grind (arith, nat_tests)

pub signed_leb_back : (xs : List ℕ) (left now : ℕ) (value : ℤ) → left < length xs → now + 1 ≡ left → value ≡ signed_leb_sum (drop left xs) → signed_leb_sum (drop now xs) ≡ value *ℤ pos 128 +ℤ pos (get_or xs now 0 % 128)
signed_leb_back xs left now value inside step sum =
    let s : signed_leb_sum (drop now xs) ≡ signed_leb_sum (drop (now + 1) xs) *ℤ pos 128 +ℤ pos (get_or xs now 0 % 128) = signed_leb_step xs now (omega arith) in
    let e : signed_leb_sum (drop (now + 1) xs) ≡ value = ap (λ k. signed_leb_sum (drop k xs)) step ∙ sym sum in
    omega (arith, ints)

pub signed_leb_too_large : (xs : List ℕ) (left now : ℕ) (value : ℤ) → left < length xs → now + 1 ≡ left → value ≡ signed_leb_sum (drop left xs) → pos 72057594037927936 ≤ℤ value → None ≡ within_signed (signed_leb_sum xs)
signed_leb_too_large xs left now value inside step sum large =
    let s : signed_leb_sum (drop now xs) ≡ signed_leb_sum (drop (now + 1) xs) *ℤ pos 128 +ℤ pos (get_or xs now 0 % 128) = signed_leb_step xs now (omega arith) in
    let e : signed_leb_sum (drop (now + 1) xs) ≡ value = ap (λ k. signed_leb_sum (drop k xs)) step ∙ sym sum in
    let big : pos (2 ^ 63) ≤ℤ signed_leb_sum (drop now xs) = omega (arith, ints) in
    within_signed_large (signed_leb_sum xs) (stays_large now xs (omega arith) big)

pub signed_leb_too_small : (xs : List ℕ) (left now : ℕ) (value : ℤ) → left < length xs → now + 1 ≡ left → value ≡ signed_leb_sum (drop left xs) → value <ℤ neg_ℤ (pos 72057594037927936) → None ≡ within_signed (signed_leb_sum xs)
signed_leb_too_small xs left now value inside step sum small =
    let s : signed_leb_sum (drop now xs) ≡ signed_leb_sum (drop (now + 1) xs) *ℤ pos 128 +ℤ pos (get_or xs now 0 % 128) = signed_leb_step xs now (omega arith) in
    let e : signed_leb_sum (drop (now + 1) xs) ≡ value = ap (λ k. signed_leb_sum (drop k xs)) step ∙ sym sum in
    let low : get_or xs now 0 % 128 < 128 = omega arith in
    let tiny : signed_leb_sum (drop now xs) <ℤ neg_ℤ (pos (2 ^ 63)) = omega (arith, ints) in
    within_signed_small (signed_leb_sum xs) (stays_small now xs (omega arith) tiny)
