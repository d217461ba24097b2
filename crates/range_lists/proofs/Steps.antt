-- One entry more of a list: what was listed so far, in front of the rest of the list.
use Rattle.std.proofs.Common.{◌≡◌, ℕ, suc, List, ◌++◌, Option, Some, None, Ok, Err, refl, sym, ◌∙◌, ap, append-nil, map}
use Rattle.std.proofs.lemmas.List.{map-append}
use Rattle.std.specs.Prelude.{option_map, option_to_list}
use Rattle.dw_fields.specs.declared.fault_code.Fault.{Fault}
use Rattle.dw_fields.specs.declared.fault_code.Code.TheVariants.{ListUnended}
use Rattle.dw_fields.specs.Codes.{fault}
use Rattle.dw_fields.specs.Span.{Span, at}
use Rattle.dw_fields.specs.Reading.{Reader}
use Rattle.dw_fields.specs.Walk.{ahead, ahead-append, others-ahead}
use Rattle.range_lists.specs.ListSteps.{list_from}
use Rattle.range_lists.specs.declared.list_step.ListStep.{ListStep}

-- an entry that goes on: what it lists is at the end of the front
pub list_next : {X : Type 0} → (entry : ℕ → Reader (Option (ListStep X))) (m n base : ℕ) (s new : Span) (front more : List X) (turn : ListStep X)
    → m ≡ suc n → entry base s ≡ Ok (Some turn, new.place) → new ≡ at s new.place → more ≡ front ++ option_to_list turn.listed
    → ahead more (list_from entry n turn.base new) ≡ ahead front (list_from entry m base s)
unfolding list_from
list_next entry m n base s new front more turn fuel e moved grown =
    let rest = list_from entry n turn.base (at s new.place) in
    rw grown
    (ap (λ t. ahead (front ++ option_to_list turn.listed) (list_from entry n turn.base t)) moved
    ∙ ahead-append front (option_to_list turn.listed) rest
    ∙ ap (ahead front) (rw (fuel, e) (sym (others-ahead (option_to_list turn.listed) rest))))

-- an entry that is refused is the answer
pub list_fails : {X : Type 0} → (entry : ℕ → Reader (Option (ListStep X))) (m n base : ℕ) (s : Span) (front : List X) (f : Fault)
    → m ≡ suc n → entry base s ≡ Err f
    → ahead front (list_from entry m base s) ≡ Err f
unfolding list_from
list_fails entry m n base s front f fuel e = rw (fuel, e) refl

-- at the end of the list what was listed is the answer
pub list_ends : {X : Type 0} → (entry : ℕ → Reader (Option (ListStep X))) (m n base : ℕ) (s : Span) (front : List X) (place : ℕ)
    → m ≡ suc n → entry base s ≡ Ok (None, place)
    → ahead front (list_from entry m base s) ≡ Ok front
unfolding list_from
list_ends entry m n base s front place fuel e = rw (fuel, e) (ap (λ xs. Ok xs) (append-nil front))

-- where the section ends first, the list is refused
pub list_stops : {X : Type 0} → (entry : ℕ → Reader (Option (ListStep X))) (m base : ℕ) (s : Span) (front : List X)
    → m ≡ 0 → ahead front (list_from entry m base s) ≡ Err (fault ListUnended s.end)
unfolding list_from
list_stops entry m base s front none = rw none refl

-- what is listed more, seen without where its bytes lie
pub seen_more : {X Y : Type 0} → (seen : X → Y) (old new : List X) (listed : Option X) → new ≡ old ++ option_to_list listed
    → map seen new ≡ map seen old ++ option_to_list (option_map seen listed)
seen_more seen old new listed grown = ap (λ xs. map seen xs) grown ∙ map-append seen old (option_to_list listed) ∙ ap (λ xs. map seen old ++ xs) (one seen listed)
  where
    one : {X Y : Type 0} → (seen : X → Y) (listed : Option X) → map seen (option_to_list listed) ≡ option_to_list (option_map seen listed)
    one seen None = refl
    one seen (Some x) = refl
