-- What `from_str_radix` gives, in the words of specs/Numbers.antt.
use Rattle.std.proofs.Common.{◌≡◌, ◌≤◌, ◌<◌, ◌^◌, ◌&&◌, ◌==◌, ℕ, Bool, cond, true, false, ap, sym, refl, subst, true≢false, List, [], ◌∷◌, length, drop, Some, None, Result, Ok, Err, OkIff, le-leb, lt-ltb, leb-true, ltb-true, nat_lt, slice_index}
use Rattle.std.specs.Char.{digit_value}
use Rattle.std.specs.Result.{result_ok}
use Rattle.std.specs.Str.Parse.{AllDigits, IsNumeral, ParsesUnsigned, digits_value}
use Rattle.dw_words.specs.Numbers.{are_digits, is_numeral, number_in}

digits_pass : (base : ℕ) (ds : List ℕ) → AllDigits base ds → are_digits base ds ≡ true
digits_pass base [] h = refl
digits_pass base (d ∷ ds) h = rw (lt-ltb (digit_value d) base h.0) (digits_pass base ds h.1)

both : (a b : Bool) → (a && b) ≡ true → (a ≡ true) × (b ≡ true)
both true b e = (refl, e)
both false b e = absurd (true≢false (sym e))

digits_from : (base : ℕ) (ds : List ℕ) → are_digits base ds ≡ true → AllDigits base ds
digits_from base [] e = tt
digits_from base (d ∷ ds) e =
    let parts = both _ _ e in
    (ltb-true _ _ parts.0, digits_from base ds parts.1)

abbrev Parses : {E : Type 0} → ℕ → List ℕ → Result ℕ E → Bool → Type 0
Parses base word r b = OkIff r (IsNumeral base (drop (cond b 1 0) word) × (digits_value base (drop (cond b 1 0) word) < 2 ^ 64)) (digits_value base (drop (cond b 1 0) word))

pub number_parsed : {E : Type 0} (base most : ℕ) (word : List ℕ) (r : Result ℕ E) → length word ≤ most → (slice_index word 0 == 43) ≡ false → ParsesUnsigned 64 base word r → result_ok r ≡ number_in base most word
unfolding number_in
number_parsed {E} base most word (Ok n) short plain h =
    let k = subst (Parses {E = E} base word (Ok n)) plain h in
    rw (le-leb 1 (length word) k.0.0.0, le-leb (length word) most short, digits_pass base word k.0.0.1, lt-ltb (digits_value base word) (2 ^ 64) k.0.1) (ap Some k.1)
number_parsed {E} base most word (Err e) short plain h = go (is_numeral base most word && nat_lt (digits_value base word) (2 ^ 64)) refl
  where
    k : Parses {E = E} base word (Err e) false
    k = subst (Parses {E = E} base word (Err e)) plain h

    go : (b : Bool) → (is_numeral base most word && nat_lt (digits_value base word) (2 ^ 64)) ≡ b → None ≡ cond b (Some (digits_value base word)) None
    go false t = refl
    go true t =
        let outer = both _ _ t in
        let digits = both _ _ outer.0 in
        absurd (k ((leb-true _ _ (both _ _ digits.0).0, digits_from base word digits.1), ltb-true _ _ outer.1))
