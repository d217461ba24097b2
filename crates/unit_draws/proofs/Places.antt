-- The place behind the units of a window.
use Rattle.std.proofs.Common.{◌≡◌, ◌≢◌, ℕ, ◌+◌, ◌*◌, ◌/◌, ◌<◌, ◌≤◌, max, List, [], ◌∷◌, ◌++◌, Bool, if◌then◌else◌, refl, sym, subst, arith, eq-eqb, ne_eqb}
use mathlib.Core.Logic.{dite}
use native.Mathlib.Decide.{ℕ_discrete}
use Rattle.unit_draws.specs.Seats.{occurrences, place_behind}
use Rattle.unit_draws.proofs.Occurrences.{occurrences-append, occurrences_same}

behind_in : (w u : ℕ) (us : List ℕ) → u / 256 ≡ w → place_behind w (u ∷ us) ≡ max (u + 1) (place_behind w us)
behind_in w u us is = subst (λ (b : Bool). (if b then max (u + 1) (place_behind w us) else place_behind w us) ≡ max (u + 1) (place_behind w us)) (sym (eq-eqb (u / 256) w is)) refl

behind_out : (w u : ℕ) (us : List ℕ) → u / 256 ≢ w → place_behind w (u ∷ us) ≡ place_behind w us
behind_out w u us isnt = subst (λ (b : Bool). (if b then max (u + 1) (place_behind w us) else place_behind w us) ≡ place_behind w us) (sym (ne_eqb (u / 256) w isnt)) refl

-- it is no higher than what lies above all of them
pub behind_most : (w x : ℕ) (us : List ℕ) → 256 * w ≤ x → ((y : ℕ) → y / 256 ≡ w → 0 < occurrences y us → y < x) → place_behind w us ≤ x
behind_most w x [] from below = from
behind_most w x (u ∷ us) from below =
    let rest = behind_most w x us from (λ y in_window there. below y in_window (let all = occurrences-append y (u ∷ []) us in omega arith)) in
    dite (ℕ_discrete (u / 256) w)
    (λ is. let e = behind_in w u us is in let first = below u is (let all = occurrences-append u (u ∷ []) us in let one = occurrences_same u u refl in omega arith) in omega arith)
    (λ isnt. let e = behind_out w u us isnt in omega arith)

-- a unit of the window lies below it
pub behind_last : (w x : ℕ) (us : List ℕ) → x / 256 ≡ w → x < place_behind w (us ++ x ∷ [])
behind_last w x [] is = let e = behind_in w x [] is in omega arith
behind_last w x (u ∷ us) is =
    let rest = behind_last w x us is in
    dite (ℕ_discrete (u / 256) w)
    (λ here. let e = behind_in w u (us ++ x ∷ []) here in omega arith)
    (λ isnt. let e = behind_out w u (us ++ x ∷ []) isnt in omega arith)
