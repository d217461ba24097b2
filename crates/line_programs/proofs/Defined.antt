-- Laws of the files that a program defines, operation after operation.
use Rattle.std.proofs.Common.{◌≡◌, ℕ, suc, ◌-◌, ◌<◌, ◌≤◌, zero, List, [], ◌++◌, Result, Ok, Err, refl, sym, ap, ◌∙◌, append_assoc, append-nil, le-leb, inl, inr, ◌+◌, ◌∷◌, arith}
use Rattle.std.proofs.lemmas.Bool.{lt-leb}
use Rattle.std.proofs.lemmas.Bool.Decides.{leb_tells}
use Rattle.dw_fields.specs.declared.fault_code.Fault.{Fault}
use Rattle.dw_fields.specs.Span.{Span, at}
use Rattle.line_machine.specs.declared.operations.Operation.{Operation}
use Rattle.line_machine.specs.declared.registers.Program.{Program}
use Rattle.line_machine.specs.Operations.{operation_at}
use Rattle.line_machine.specs.OperationLaws.{From, operation_from}
use Rattle.line_programs.specs.Shapes.{NameView}
use Rattle.line_programs.specs.DefinedFiles.{IsDefined, defined_by, defined_files, defined_from, defined_then}

pub defined_start : (h : Program) (lengths : List ℕ) (s : Span) (m : ℕ) (front : List NameView) → m ≡ s.end - s.place
    → front ++ defined_from m h lengths s ≡ front ++ defined_files h lengths s
unfolding defined_files
defined_start h lengths s m front turns = rw turns refl

operation_read : (h : Program) (lengths : List ℕ) (m n : ℕ) (s : Span) (operation : Operation) (place : ℕ)
    → m ≡ suc n → s.place < s.end → operation_at h lengths s ≡ Ok (operation, place)
    → defined_from m h lengths s ≡ defined_by operation s ++ defined_from n h lengths (at s place)
unfolding defined_from
operation_read h lengths m n s operation place turns inside e = rw (turns, lt-leb s.end s.place inside, e) refl

-- one operation more was read, and what it defines goes to the end
pub defined_next : (h : Program) (lengths : List ℕ) (m n : ℕ) (s next : Span) (operation : Operation) (front items all : List NameView)
    → m ≡ suc n → s.place < s.end → operation_at h lengths s ≡ Ok (operation, next.place) → next ≡ at s next.place → items ≡ front ++ defined_by operation s
    → front ++ defined_from m h lengths s ≡ all → items ++ defined_from n h lengths next ≡ all
defined_next h lengths m n s next operation front items all turns inside e q is w =
    ap (λ xs. xs ++ defined_from n h lengths next) is
    ∙ ap (λ c. (front ++ defined_by operation s) ++ defined_from n h lengths c) q
    ∙ append_assoc front (defined_by operation s) (defined_from n h lengths (at s next.place))
    ∙ ap (λ xs. front ++ xs) (sym (operation_read h lengths m n s operation next.place turns inside e)) ∙ w

none_left : (front rest all : List NameView) → rest ≡ [] → front ++ rest ≡ all → front ≡ all
none_left front rest all none w = sym (append-nil front) ∙ ap (λ xs. front ++ xs) (sym none) ∙ w

refused_here : (h : Program) (lengths : List ℕ) (m n : ℕ) (s : Span) (f : Fault) → m ≡ suc n → s.place < s.end → operation_at h lengths s ≡ Err f → defined_from m h lengths s ≡ []
unfolding defined_from
refused_here h lengths m n s f turns inside e = rw (turns, lt-leb s.end s.place inside, e) refl

-- an operation that is refused ends them
pub defined_refused : (h : Program) (lengths : List ℕ) (m n : ℕ) (s : Span) (f : Fault) (front all : List NameView)
    → m ≡ suc n → s.place < s.end → operation_at h lengths s ≡ Err f → front ++ defined_from m h lengths s ≡ all → front ≡ all
defined_refused h lengths m n s f front all turns inside e w = none_left front (defined_from m h lengths s) all (refused_here h lengths m n s f turns inside e) w

past_end : (h : Program) (lengths : List ℕ) (m : ℕ) (s : Span) → s.end ≤ s.place → defined_from m h lengths s ≡ []
unfolding defined_from
past_end h lengths zero s past = refl
past_end h lengths (suc m) s past = rw (le-leb s.end s.place past) refl

-- so does the program's end
pub defined_end : (h : Program) (lengths : List ℕ) (m : ℕ) (s : Span) (front all : List NameView)
    → s.end ≤ s.place → front ++ defined_from m h lengths s ≡ all → front ≡ all
defined_end h lengths m s front all past w = none_left front (defined_from m h lengths s) all (past_end h lengths m s past) w

no_turn : (h : Program) (lengths : List ℕ) (m : ℕ) (s : Span) → m ≡ 0 → defined_from m h lengths s ≡ []
unfolding defined_from
no_turn h lengths m s none = rw none refl

pub defined_stop : (h : Program) (lengths : List ℕ) (m : ℕ) (s : Span) (front all : List NameView)
    → m ≡ 0 → front ++ defined_from m h lengths s ≡ all → front ≡ all
defined_stop h lengths m s front all none w = none_left front (defined_from m h lengths s) all (no_turn h lengths m s none) w

operation_first : (h : Program) (lengths : List ℕ) (s : Span) (found : Result (Operation × ℕ) Fault) (others : ℕ → List NameView)
    → s.place < s.end → operation_at h lengths s ≡ found → From (s.place + 1) found
    → ((next : ℕ) → s.place < next → IsDefined h lengths (at s next) (others next))
    → IsDefined h lengths s (defined_then found s others)
operation_first h lengths s (Ok (operation, next)) others inside e from after =
    let rest = after next (omega arith) in
    ((operation, next) ∷ rest.0, (inside, e, others next, refl, rest.1))
operation_first h lengths s (Err f) others inside e from after = ([], (inr (rw e refl), refl))

defined_stand : (n : ℕ) (h : Program) (lengths : List ℕ) (s : Span) → s.end ≤ s.place + n → IsDefined h lengths s (defined_from n h lengths s)
unfolding defined_from
defined_stand zero h lengths s few = ([], (inl (omega arith), refl))
defined_stand (suc n) h lengths s few =
    elim (leb_tells s.end s.place) [
      | inl past ↦ rw past.0 ([], (inl past.1, refl))
      | inr before ↦ rw before.0 (operation_first h lengths s (operation_at h lengths s) (λ next. defined_from n h lengths (at s next)) before.1 refl
          (operation_from h lengths s) (λ next further. defined_stand n h lengths (at s next) (omega arith)))
    ]

-- the files of a program are those of its operations
pub defined_files_stand : (h : Program) (lengths : List ℕ) (s : Span) → IsDefined h lengths s (defined_files h lengths s)
unfolding defined_files
defined_files_stand h lengths s = defined_stand (s.end - s.place) h lengths s (omega arith)
