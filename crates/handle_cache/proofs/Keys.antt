-- The keys of a front, and the values that it gives them.
use Rattle.std.proofs.Common.{◌≡◌, ℕ, ◌<◌, ◌⊎◌, List, [], ◌∷◌, map, Some, sym, subst, ◌∙◌, inl, inr, ⊎_elim, arith}
use mathlib.Core.Logic.{dite}
use native.Mathlib.Decide.{ℕ_discrete}
use Rattle.std.specs.Prelude.{Contains}
use Rattle.std.proofs.lemmas.List.Elements.{Contains-append_left, Contains-append_right, Contains-append_cases, Contains-push, Contains-push_cases}
use Rattle.map_core.specs.declared.entry.Entry.{Entry}
use Rattle.map_core.specs.History.{value_in}
use Rattle.map_core.proofs.HistoryLemmas.{value_hit, value_miss}

abbrev pub keys_of : List Entry → List ℕ
keys_of es = map (λ (e : Entry). e.key) es

-- a front has a value of one of its keys
pub record HasValue (es : List Entry) (k : ℕ) : Type 0 where
  pub value : ℕ
  pub is : value_in es k ≡ Some value

in_none : (k : ℕ) → Contains {X = ℕ} [] k → ⊥
in_none k c = let inside : c.0 < 0 = c.1 in omega arith

first_or_rest : (y : ℕ) (ys : List ℕ) (k : ℕ) → Contains (y ∷ ys) k → (y ≡ k) ⊎ Contains ys k
first_or_rest y ys k c =
    ⊎_elim
    (λ (one : Contains (y ∷ []) k). ⊎_elim (λ (none : Contains {X = ℕ} [] k). absurd (in_none k none)) (λ (e : y ≡ k). inl e) (Contains-push_cases {X = ℕ} [] y k one))
    (λ (rest : Contains ys k). inr rest)
    (Contains-append_cases (y ∷ []) ys k c)

pub key_has_value : (es : List Entry) (k : ℕ) → Contains (keys_of es) k → HasValue es k
key_has_value [] k c = absurd (in_none k c)
key_has_value (x ∷ xs) k c =
    dite (ℕ_discrete x.key k)
    (λ is. record { value = x.value; is = value_hit x xs k is })
    (λ isnt.
    let rest : HasValue xs k = ⊎_elim (λ (e : x.key ≡ k). absurd (isnt e)) (λ (there : Contains (keys_of xs) k). key_has_value xs k there) (first_or_rest x.key (keys_of xs) k c) in
    record { value = rest.value; is = value_miss x xs k isnt ∙ rest.is })

pub value_has_key : (es : List Entry) (k v : ℕ) → value_in es k ≡ Some v → Contains (keys_of es) k
value_has_key [] k v h = absurd (cc)
value_has_key (x ∷ xs) k v h =
    dite (ℕ_discrete x.key k)
    (λ is. subst (λ (y : ℕ). Contains (x.key ∷ keys_of xs) y) is (Contains-append_left (x.key ∷ []) (keys_of xs) x.key (Contains-push {X = ℕ} [] x.key)))
    (λ isnt. Contains-append_right (x.key ∷ []) (keys_of xs) k (value_has_key xs k v (sym (value_miss x xs k isnt) ∙ h)))
