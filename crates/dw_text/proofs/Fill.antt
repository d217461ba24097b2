-- Steps of filling digits from the end.
use Rattle.std.proofs.Common.{ℕ, zero, suc, ◌+◌, ◌-◌, ◌/◌, ◌%◌, ◌^◌, ◌<◌, ◌≤◌, ◌≡◌, refl, sym, ap, ◌∙◌, true, false, ◌==◌, if◌then◌else◌, List, [], ◌∷◌, ◌++◌, length, drop, set, arith}
use Rattle.std.proofs.Math.Nat.{div-lt_iff_lt-mul, div-eq_of_lt, mod-eq_of_lt, pow-suc, pow-zero}
use Rattle.std.proofs.Common.{append_assoc, append-nil, drop_of_length-le}
use Rattle.std.proofs.lemmas.List.{drop-set}
use Rattle.std.proofs.lemmas.Bool.Decides.{nat_tests}
use Rattle.std.specs.Fmt.{digits, digits_onto, digit_glyph}
use Rattle.std.proofs.lemmas.Fmt.{length-decimal-le}
use Rattle.std.proofs.Common.{subst, Bool, ◌&&◌, T, eqb, eqb→eq, get_or, eq-zero-or-pos, inl, inr, ◌*◌}
use lib.Ieee.Fits.{and_l, and_r}
use Rattle.dw_text.specs.Numbers.{decimal, hex, last_digits, sixteen}
use Rattle.dw_text.specs.declared.digits.TheConstants.{PAIRS}

-- the digits of n, the last k at most, before those that stand
unfoldable pub onto : ℕ → ℕ → List ℕ → List ℕ
onto k n acc = digits_onto k 16 false n acc

onto_none : (k n : ℕ) (acc : List ℕ) → digits_onto k 16 false n acc ≡ digits_onto k 16 false n [] ++ acc
onto_none zero n acc = refl
onto_none (suc k) n acc = elim (n / 16 == 0) as (λ b. (if b then digit_glyph false (n % 16) ∷ acc else digits_onto k 16 false (n / 16) (digit_glyph false (n % 16) ∷ acc)) ≡ (if b then digit_glyph false (n % 16) ∷ [] else digits_onto k 16 false (n / 16) (digit_glyph false (n % 16) ∷ [])) ++ acc) [
  | true ↦ refl
  | false ↦ onto_none k (n / 16) (digit_glyph false (n % 16) ∷ acc) ∙ sym (ap (λ x. x ++ acc) (onto_none k (n / 16) (digit_glyph false (n % 16) ∷ [])) ∙ append_assoc (digits_onto k 16 false (n / 16) []) (digit_glyph false (n % 16) ∷ []) acc)
]

pub onto_begin : (n : ℕ) (acc : List ℕ) → onto 64 n acc ≡ digits 16 false n ++ acc
unfolding onto digits
onto_begin n acc = onto_none 64 n acc

-- a digit is put before those that stand
pub put_before : (filled : List ℕ) (first x : ℕ) → 0 < first → first ≤ length filled → drop (first - 1) (set filled (first - 1) x) ≡ x ∷ drop first filled
put_before filled zero x some within = absurd (omega arith)
put_before filled (suc k) x some within =
    let e : suc k - 1 ≡ k = omega arith in
    let f : k + 1 ≡ suc k = omega arith in
    rw e (drop-set filled k x (omega arith) ∙ ap (λ j. x ∷ drop j filled) f)

step : (k n : ℕ) (acc : List ℕ) → 16 ≤ n → digits_onto (suc k) 16 false n acc ≡ digits_onto k 16 false (n / 16) (digit_glyph false (n % 16) ∷ acc)
step k n acc more = grind (arith, nat_tests)

stop : (k n : ℕ) (acc : List ℕ) → n < 16 → digits_onto (suc k) 16 false n acc ≡ digit_glyph false n ∷ acc
stop k n acc less =
    let none : n / 16 ≡ 0 = div-eq_of_lt less in
    let same : n % 16 ≡ n = mod-eq_of_lt less in
    rw (none, same)

pub onto_more : (n left : ℕ) (acc : List ℕ) → 16 ≤ n → 0 < left → onto (48 + left) n acc ≡ onto (48 + (left - 1)) (n / 16) (digit_glyph false (n % 16) ∷ acc)
unfolding onto
onto_more n left acc more some =
    let e : 48 + left ≡ suc (48 + (left - 1)) = omega arith in
    rw e (step (48 + (left - 1)) n acc more)

pub onto_last : (n left : ℕ) (acc : List ℕ) → n < 16 → 0 < left → onto (48 + left) n acc ≡ digit_glyph false n ∷ acc
unfolding onto
onto_last n left acc less some =
    let e : 48 + left ≡ suc (48 + (left - 1)) = omega arith in
    rw e (stop (48 + (left - 1)) n acc less)

pub quotient_small : (n left : ℕ) → 0 < left → n < 16 ^ left → n / 16 < 16 ^ (left - 1)
quotient_small n zero some small = absurd (omega arith)
quotient_small n (suc k) some small =
    let e : suc k - 1 ≡ k = omega arith in
    let q = pow-suc 16 k in
    rw e ((div-lt_iff_lt-mul {k = 16} {x = n} {y = 16 ^ k} (omega arith)).1 (omega arith))

pub left_above : (n left : ℕ) → 16 ≤ n → n < 16 ^ left → 1 < left
left_above n zero large small = absurd (omega (arith, pow-zero 16))
left_above n (suc zero) large small = absurd (omega arith)
left_above n (suc (suc k)) large small = omega arith

-- sixteen digits
pub sixteen_begin : (n : ℕ) (filled : List ℕ) → length filled ≡ 16 → last_digits 16 n ++ drop 16 filled ≡ sixteen n
unfolding sixteen
sixteen_begin n filled long = rw (drop_of_length-le filled {i = 16} (omega arith)) (append-nil (last_digits 16 n))

pub sixteen_more : (first n : ℕ) (filled : List ℕ) → 0 < first → first ≤ length filled
    → last_digits (first - 1) (n / 16) ++ drop (first - 1) (set filled (first - 1) (digit_glyph false (n % 16))) ≡ last_digits first n ++ drop first filled
unfolding last_digits
sixteen_more zero n filled some within = absurd (omega arith)
sixteen_more (suc k) n filled some within =
    let e : suc k - 1 ≡ k = omega arith in
    ap (λ x. last_digits (suc k - 1) (n / 16) ++ x) (put_before filled (suc k) (digit_glyph false (n % 16)) some within)
    ∙ ap (λ j. last_digits j (n / 16) ++ (digit_glyph false (n % 16) ∷ drop (suc k) filled)) e
    ∙ sym (append_assoc (last_digits k (n / 16)) (digit_glyph false (n % 16) ∷ []) (drop (suc k) filled))

pub sixteen_end : (first n : ℕ) (filled : List ℕ) → first ≡ 0 → last_digits first n ++ drop first filled ≡ filled
unfolding last_digits
sixteen_end zero n filled e = refl
sixteen_end (suc k) n filled e = absurd (omega arith)

pub few_digits : (n : ℕ) → n < 2 ^ 64 → length (decimal n) ≤ 20
few_digits n fits = length-decimal-le 20 n (omega arith) (omega arith) fits

-- the table of pairs is walked over once
abbrev are_pairs : ℕ → Bool
are_pairs zero = true
are_pairs (suc b) = (eqb (get_or PAIRS (b * 2) 0) (digit_glyph false (b / 16)) && eqb (get_or PAIRS (b * 2 + 1) 0) (digit_glyph false (b % 16))) && are_pairs b

pair_below : (n b : ℕ) → T (are_pairs n) → b < n → (get_or PAIRS (b * 2) 0 ≡ digit_glyph false (b / 16)) × (get_or PAIRS (b * 2 + 1) 0 ≡ digit_glyph false (b % 16))
pair_below zero b t h = absurd (omega arith)
pair_below (suc n) b t h =
    elim (eq-zero-or-pos (n - b)) [
      | inl z ↦ let e : b ≡ n = omega arith in let a = and_l _ (are_pairs n) t in rw e (eqb→eq _ _ (and_l _ _ a), eqb→eq _ _ (and_r _ _ a))
      | inr g ↦ pair_below n b (and_r _ (are_pairs n) t) (omega arith)
    ]

pub pair_at : (b : ℕ) → b < 256 → (get_or PAIRS (b * 2) 0 ≡ digit_glyph false (b / 16)) × (get_or PAIRS (b * 2 + 1) 0 ≡ digit_glyph false (b % 16))
pair_at b h = pair_below 256 b tt h

-- two digits at a time
pub onto_two : (n left : ℕ) (acc : List ℕ) → 256 ≤ n → 1 < left
    → onto (48 + left) n acc ≡ onto (48 + (left - 2)) (n / 256) (digit_glyph false (n % 256 / 16) ∷ digit_glyph false (n % 256 % 16) ∷ acc)
onto_two n left acc more some =
    let a : n / 16 / 16 ≡ n / 256 = omega arith in
    let b : n / 16 % 16 ≡ n % 256 / 16 = omega arith in
    let c : n % 16 ≡ n % 256 % 16 = omega arith in
    let d : left - 1 - 1 ≡ left - 2 = omega arith in
    onto_more n left acc (omega arith) (omega arith)
    ∙ onto_more (n / 16) (left - 1) (digit_glyph false (n % 16) ∷ acc) (omega arith) (omega arith)
    ∙ (λ i. onto (48 + d i) (a i) (digit_glyph false (b i) ∷ digit_glyph false (c i) ∷ acc))

pub quotient_two : (n left : ℕ) → 256 ≤ n → n < 16 ^ left → (2 < left) × (n / 256 < 16 ^ (left - 2))
quotient_two n left more small =
    let one = left_above n left (omega arith) small in
    let less = quotient_small n left (omega arith) small in
    let two = left_above (n / 16) (left - 1) (omega arith) less in
    let a : n / 16 / 16 ≡ n / 256 = omega arith in
    let d : left - 1 - 1 ≡ left - 2 = omega arith in
    (omega arith, subst (λ m. m < 16 ^ (left - 2)) a (subst (λ m. n / 16 / 16 < 16 ^ m) d (quotient_small (n / 16) (left - 1) (omega arith) less)))

-- a number of two digits
pub hex_pair : (n : ℕ) → 16 ≤ n → n < 256 → hex n ≡ digit_glyph false (n / 16) ∷ digit_glyph false (n % 16) ∷ []
hex_pair n more less =
    sym (append-nil (hex n))
    ∙ sym (onto_begin n [])
    ∙ onto_more n 16 [] more (omega arith)
    ∙ onto_last (n / 16) 15 (digit_glyph false (n % 16) ∷ []) (omega arith) (omega arith)

pub hex_one : (n : ℕ) → n < 16 → hex n ≡ digit_glyph false n ∷ []
hex_one n less = sym (append-nil (hex n)) ∙ sym (onto_begin n []) ∙ onto_last n 16 [] less (omega arith)

-- the one or two digits that are left
pub onto_small : (n left : ℕ) (acc : List ℕ) → n < 256 → 1 < left → onto (48 + left) n acc ≡ hex n ++ acc
onto_small n left acc less some =
    elim (eq-zero-or-pos (16 - n)) [
      | inl two ↦
          onto_more n left acc (omega arith) (omega arith)
          ∙ onto_last (n / 16) (left - 1) (digit_glyph false (n % 16) ∷ acc) (omega arith) (omega arith)
          ∙ ap (λ t. t ++ acc) (sym (hex_pair n (omega arith) less))
      | inr one ↦ onto_last n left acc (omega arith) (omega arith) ∙ ap (λ t. t ++ acc) (sym (hex_one n (omega arith)))
    ]
