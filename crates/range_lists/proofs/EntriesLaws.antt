-- The definition with a number of entries gives such a list, since each entry has a byte at least and
-- none begins at the section's end.
use Rattle.std.specs.Prelude.{◌≡◌, ℕ, zero, suc, ◌+◌, ◌-◌, ◌≤◌, [], ◌∷◌, Option, Some, None, Result, Ok, Err, refl}
use Rattle.std.proofs.Common.{arith}
use Rattle.dw_fields.specs.declared.fault_code.Fault.{Fault}
use Rattle.dw_fields.specs.declared.fault_code.Code.TheVariants.{ListUnended}
use Rattle.dw_fields.specs.Codes.{fault}
use Rattle.dw_fields.specs.Span.{Span, at}
use Rattle.dw_fields.specs.Reading.{Reader, ◌>>=◌}
use Rattle.dw_fields.specs.ReaderLaws.{IsPast}
use Rattle.range_lists.specs.declared.list_step.ListStep.{ListStep}
use Rattle.range_lists.specs.ListSteps.{goes_on, list_at, list_from}
use Rattle.range_lists.specs.Entries.{IsList}

-- what a reader of entries owes
pub record IsEntry {X : Type 0} (entry : ℕ → Reader (Option (ListStep X))) : Type 0 where
  pub moves : (base : ℕ) (s : Span) → IsPast 1 s (entry base s)
  pub ends : (base : ℕ) (s : Span) → s.end ≤ s.place → s.place ≤ s.end → entry base s ≡ Err (fault ListUnended s.end)

step_of : {X : Type 0} (entry : ℕ → Reader (Option (ListStep X))) (most base : ℕ) (s : Span) (read : Result (Option (ListStep X) × ℕ) Fault) → entry base s ≡ read
    → ((t : ListStep X) (place : ℕ) → read ≡ Ok (Some t, place) → IsList entry t.base (at s place) (list_from entry most t.base (at s place)))
    → IsList entry base s (read >>= (λ turn. goes_on turn.0 (λ t. list_from entry most t.base (at s turn.1))))
step_of entry most base s (Err f) e after = ([], rw e refl)
step_of entry most base s (Ok (None, place)) e after = ([], rw e refl)
step_of entry most base s (Ok (Some t, place)) e after =
    let rest = after t place refl in
    ((t, place) ∷ rest.0, (e, list_from entry most t.base (at s place), refl, rest.1))

pub list_from-IsList : {X : Type 0} (entry : ℕ → Reader (Option (ListStep X))) → IsEntry entry → (most base : ℕ) (s : Span) → s.place ≤ s.end → s.end ≤ s.place + most
    → IsList entry base s (list_from entry most base s)
unfolding list_from
list_from-IsList entry owes zero base s inside few = ([], rw (owes.ends base s (omega arith) inside) refl)
list_from-IsList entry owes (suc most) base s inside few =
    step_of entry most base s (entry base s) refl (λ t place e.
    let past = rw e at (owes.moves base s) in
    list_from-IsList entry owes most t.base (at s place) past.1 (omega (arith, past.0)))

pub list_at-IsList : {X : Type 0} (entry : ℕ → Reader (Option (ListStep X))) → IsEntry entry → (base : ℕ) (s : Span) → s.place ≤ s.end → IsList entry base s (list_at entry base s)
list_at-IsList entry owes base s inside = list_from-IsList entry owes (s.end - s.place) base s inside (omega arith)
