-- A list in the standard's own words: entry after entry, each with the base that those before it left,
-- up to the one that ends the list, or to the first that is refused.
use Rattle.std.specs.Prelude.{◌≡◌, ℕ, List, [], ◌∷◌, Option, Some, None, Result, Ok, Err}
use Rattle.dw_fields.specs.declared.fault_code.Fault.{Fault}
use Rattle.dw_fields.specs.Span.{Span, at}
use Rattle.dw_fields.specs.Reading.{Reader}
use Rattle.range_lists.specs.declared.list_step.ListStep.{ListStep}
use Rattle.range_lists.specs.ListSteps.{goes_on}

-- the entry that ends the list or is refused, and the answer from there on
abbrev pub IsLast : {X : Type 0} → Result (Option (ListStep X) × ℕ) Fault → Result (List X) Fault
    → Type 0
IsLast (Err f) answer = answer ≡ Err f
IsLast (Ok (None, place)) answer = answer ≡ Ok []
IsLast (Ok (Some turn, place)) answer = ⊥

-- The answer is the list of these entries, each with the place behind it: every one begins where its
-- predecessor ended, counts its offsets from the base that was left to it, and its range or location
-- stands in front of what follows.
abbrev pub IsListOf : {X : Type 0} → (ℕ → Reader (Option (ListStep X))) → List (ListStep X × ℕ) → ℕ
    → Span → Result (List X) Fault → Type 0
IsListOf entry [] base s answer = IsLast (entry base s) answer
IsListOf {X = X} entry (step ∷ steps) base s answer =
    (entry base s ≡ Ok (Some step.0, step.1))
    × (rest : Result (List X) Fault) × (answer ≡ goes_on (Some step.0) (λ t. rest))
    × IsListOf entry steps step.0.base (at s step.1) rest

abbrev pub IsList : {X : Type 0} → (ℕ → Reader (Option (ListStep X))) → ℕ → Span
    → Result (List X) Fault → Type 0
IsList {X = X} entry base s answer =
    (steps : List (ListStep X × ℕ)) × IsListOf entry steps base s answer
