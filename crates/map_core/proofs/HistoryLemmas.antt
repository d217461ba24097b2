-- Histories grow at their end.
use Rattle.std.proofs.Common.{◌≡◌, ◌≢◌, ◌⊎◌, ℕ, Bool, true, false, List, [], ◌∷◌, ◌++◌, Some, None, if◌then◌else◌, refl, sym, ap, subst, ◌∙◌, inl, inr, ⊎_elim, eq-eqb, ne_eqb}
use mathlib.Core.Logic.{dite}
use native.Mathlib.Decide.{ℕ_discrete}
use Rattle.map_core.specs.declared.entry.Entry.{Entry}
use Rattle.map_core.specs.History.{value_in, IsLegalHistory, is_in, by_any}

pub value_hit : (e : Entry) (es : List Entry) (k : ℕ) → e.key ≡ k → value_in (e ∷ es) k ≡ Some e.value
value_hit e es k is = subst (λ (b : Bool). (if b then Some e.value else value_in es k) ≡ Some e.value) (sym (eq-eqb e.key k is)) refl

pub value_miss : (e : Entry) (es : List Entry) (k : ℕ) → e.key ≢ k → value_in (e ∷ es) k ≡ value_in es k
value_miss e es k isnt = subst (λ (b : Bool). (if b then Some e.value else value_in es k) ≡ value_in es k) (sym (ne_eqb e.key k isnt)) refl

-- a value stays as the history grows
pub value_stays : (log rest : List Entry) (k v : ℕ) → value_in log k ≡ Some v → value_in (log ++ rest) k ≡ Some v
value_stays [] rest k v h = absurd (cc)
value_stays (e ∷ es) rest k v h =
    dite (ℕ_discrete e.key k)
    (λ is. value_hit e (es ++ rest) k is ∙ (sym (value_hit e es k is) ∙ h))
    (λ isnt. value_miss e (es ++ rest) k isnt ∙ value_stays es rest k v (sym (value_miss e es k isnt) ∙ h))

pub value_after : (log rest : List Entry) (k : ℕ) → value_in log k ≡ None → value_in (log ++ rest) k ≡ value_in rest k
value_after [] rest k h = refl
value_after (e ∷ es) rest k h =
    dite (ℕ_discrete e.key k)
    (λ is. let t : Some e.value ≡ None = sym (value_hit e es k is) ∙ h in absurd (cc))
    (λ isnt. value_miss e (es ++ rest) k isnt ∙ value_after es rest k (sym (value_miss e es k isnt) ∙ h))

-- a key that a history lacks, its beginnings lack
pub lacks_before : (log rest : List Entry) (k : ℕ) → value_in (log ++ rest) k ≡ None → value_in log k ≡ None
lacks_before [] rest k h = refl
lacks_before (e ∷ es) rest k h =
    dite (ℕ_discrete e.key k)
    (λ is. let t : Some e.value ≡ None = sym (value_hit e (es ++ rest) k is) ∙ h in absurd (cc))
    (λ isnt. value_miss e es k isnt ∙ lacks_before es rest k (sym (value_miss e (es ++ rest) k isnt) ∙ h))

-- the value of a key in a history with one more entry
pub value_pushed : (log : List Entry) (e : Entry) (k v : ℕ) → value_in (log ++ e ∷ []) k ≡ Some v → (value_in log k ≡ Some v) ⊎ ((e.key ≡ k) × (e.value ≡ v))
value_pushed [] e k v h =
    dite (ℕ_discrete e.key k)
    (λ is. let t : Some e.value ≡ Some v = sym (value_hit e [] k is) ∙ h in inr (is, cc))
    (λ isnt. let t : None ≡ Some v = sym (value_miss e [] k isnt) ∙ h in absurd (cc))
value_pushed (x ∷ xs) e k v h =
    dite (ℕ_discrete x.key k)
    (λ is. inl (value_hit x xs k is ∙ (sym (value_hit x (xs ++ e ∷ []) k is) ∙ h)))
    (λ isnt. ⊎_elim
    (λ (t : value_in xs k ≡ Some v). inl (value_miss x xs k isnt ∙ t))
    (λ (t : (e.key ≡ k) × (e.value ≡ v)). inr t)
    (value_pushed xs e k v (sym (value_miss x (xs ++ e ∷ []) k isnt) ∙ h)))

pub value_new : (log : List Entry) (e : Entry) → value_in log e.key ≡ None → value_in (log ++ e ∷ []) e.key ≡ Some e.value
value_new log e h = value_after log (e ∷ []) e.key h ∙ value_hit e [] e.key refl

module _ (fits : ℕ → ℕ → Type 0) where
  pub legal_push : (log : List Entry) (e : Entry) → IsLegalHistory fits log → value_in log e.key ≡ None → fits e.key e.value → IsLegalHistory fits (log ++ e ∷ [])
  legal_push [] e legal new fit = (refl, fit, tt)
  legal_push (x ∷ xs) e legal new fit =
      let apart : x.key ≢ e.key = λ same. let t : Some x.value ≡ None = sym (value_hit x xs e.key same) ∙ new in absurd (cc) in
      let apart' : e.key ≢ x.key = λ same. apart (sym same) in (
        value_after xs (e ∷ []) x.key legal.0 ∙ value_miss e [] x.key apart',
        legal.1,
        legal_push xs e legal.2 (sym (value_miss x xs e.key apart) ∙ new) fit,
      )

  pub legal_before : (log rest : List Entry) → IsLegalHistory fits (log ++ rest) → IsLegalHistory fits log
  legal_before [] rest legal = tt
  legal_before (x ∷ xs) rest legal = (lacks_before xs rest x.key legal.0, legal.1, legal_before xs rest legal.2)

  -- an entry of a legal history fits
  pub fits_in : (log : List Entry) (k v : ℕ) → IsLegalHistory fits log → value_in log k ≡ Some v → fits k v
  fits_in [] k v legal h = absurd (cc)
  fits_in (x ∷ xs) k v legal h =
      dite (ℕ_discrete x.key k)
      (λ is. let t : Some x.value ≡ Some v = sym (value_hit x xs k is) ∙ h in let w : x.value ≡ v = cc in subst (λ (p : ℕ × ℕ). fits p.0 p.1) (λ i. (is i, w i)) legal.1)
      (λ isnt. fits_in xs k v legal.2 (sym (value_miss x xs k isnt) ∙ h))

pub by_hit : (ns : List ℕ) (e : Entry) (es : List Entry) → is_in e.who ns ≡ true → by_any ns (e ∷ es) ≡ e ∷ by_any ns es
by_hit ns e es is = subst (λ (b : Bool). (if b then e ∷ by_any ns es else by_any ns es) ≡ e ∷ by_any ns es) (sym is) refl

pub by_miss : (ns : List ℕ) (e : Entry) (es : List Entry) → is_in e.who ns ≡ false → by_any ns (e ∷ es) ≡ by_any ns es
by_miss ns e es isnt = subst (λ (b : Bool). (if b then e ∷ by_any ns es else by_any ns es) ≡ by_any ns es) (sym isnt) refl

pub test_cases : (b : Bool) → (b ≡ true) ⊎ (b ≡ false)
test_cases true = inl refl
test_cases false = inr refl

pub by_append : (ns : List ℕ) (a b : List Entry) → by_any ns (a ++ b) ≡ by_any ns a ++ by_any ns b
by_append ns [] b = refl
by_append ns (e ∷ es) b =
    ⊎_elim
    (λ (is : is_in e.who ns ≡ true). by_hit ns e (es ++ b) is ∙ (ap (λ (x : List Entry). e ∷ x) (by_append ns es b) ∙ sym (ap (λ (x : List Entry). x ++ by_any ns b) (by_hit ns e es is))))
    (λ (isnt : is_in e.who ns ≡ false). by_miss ns e (es ++ b) isnt ∙ (by_append ns es b ∙ sym (ap (λ (x : List Entry). x ++ by_any ns b) (by_miss ns e es isnt))))
    (test_cases (is_in e.who ns))
