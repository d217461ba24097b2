-- A number of a file as it is kept.
use Rattle.std.proofs.Common.{◌≡◌, ◌∙◌, ◌≤◌, ◌<◌, ◌-◌, ◌^◌, ℕ, List, length, min, slice_get, sym, ap, inl, inr, arith}
use Rattle.std.proofs.lemmas.Bool.Decides.{leb_tells}
use Rattle.std.proofs.lemmas.Option.{slice_get_past}

min_left : (a b : ℕ) → a ≤ b → min a b ≡ a
min_left a b le = omega (arith, le)

min_right : (a b : ℕ) → b < a → min a b ≡ b
min_right a b lt = omega (arith, lt)

-- In a list of fewer elements the greatest number of 32 bits finds what each number above it does.
pub cut_number : {X : Type 0} (xs : List X) (n : ℕ) → length xs < 2 ^ 32 → slice_get xs (min n (2 ^ 32 - 1)) ≡ slice_get xs n
cut_number xs n few =
    elim (leb_tells n (2 ^ 32 - 1)) [
      | inl below ↦ ap (slice_get xs) (min_left n (2 ^ 32 - 1) below.1)
      | inr above ↦ ap (slice_get xs) (min_right n (2 ^ 32 - 1) above.1) ∙ slice_get_past xs (2 ^ 32 - 1) (omega (arith, few)) ∙ sym (slice_get_past xs n (omega (arith, few, above.1)))
    ]
