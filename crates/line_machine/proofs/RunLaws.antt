-- A run of the machine: its operations go forward, so the turns suffice.
use Rattle.std.proofs.Common.{◌≡◌, ℕ, zero, suc, ◌+◌, ◌-◌, ◌<◌, ◌≤◌, List, [], ◌++◌, Result, Ok, Err, refl, ap, inl, inr, subst, arith}
use Rattle.std.proofs.lemmas.Bool.Decides.{leb_tells}
use Rattle.dw_fields.specs.declared.fault_code.Fault.{Fault}
use Rattle.dw_fields.specs.Span.{Span, at}
use Rattle.dw_fields.specs.Reading.{◌>>=◌}
use Rattle.dw_fields.specs.ReaderLaws.{next-IfOk}
use Rattle.dw_fields.specs.Walk.{walk}
use Rattle.line_machine.specs.declared.registers.Row.{Row}
use Rattle.line_machine.specs.declared.registers.Program.{Program}
use Rattle.line_machine.specs.Machine.{fresh}
use Rattle.line_machine.specs.Operations.{operation_at}
use Rattle.line_machine.specs.OperationLaws.{From, operation_from}
use Rattle.line_machine.specs.Running.{step_at, line_rows, IsRun}

step_from : (h : Program) (lengths : List ℕ) (registers : Row) (s : Span) → From (s.place + 1) (step_at h lengths registers s)
unfolding step_at
step_from h lengths registers s =
    next-IfOk (λ r. s.place + 1 ≤ r.1) (λ r. s.place + 1 ≤ r.1) (operation_at h lengths s) _ (operation_from h lengths s) (λ operation le. le)

-- one turn in front of a run
one_more : (h : Program) (lengths : List ℕ) (registers after : Row) (s : Span) (made : List Row) (next : ℕ) (answer : Result (List Row) Fault)
    → s.place < s.end → step_at h lengths registers s ≡ Ok ((after, made), next) → IsRun h lengths after (at s next) answer
    → IsRun h lengths registers s (answer >>= (λ others. Ok (made ++ others)))
one_more h lengths registers after s made next (Ok all) inside e run = record {
  turns = suc run.turns;
  rows = made ++ run.rows;
  last = run.last;
  rest = run.rest;
  stand = (inside, after, next, made, run.rows, e, refl, run.stand);
  ends = (run.ends.0, ap (λ rows. made ++ rows) run.ends.1);
}
one_more h lengths registers after s made next (Err f) inside e run = record {
  turns = suc run.turns;
  rows = made ++ run.rows;
  last = run.last;
  rest = run.rest;
  stand = (inside, after, next, made, run.rows, e, refl, run.stand);
  ends = run.ends;
}

turn : (h : Program) (lengths : List ℕ) (registers : Row) (s : Span) (found : Result ((Row × List Row) × ℕ) Fault) (others : Row → ℕ → Result (List Row) Fault)
    → s.place < s.end → step_at h lengths registers s ≡ found → From (s.place + 1) found
    → ((after : Row) (next : ℕ) → s.place < next → IsRun h lengths after (at s next) (others after next))
    → IsRun h lengths registers s (found >>= (λ read. others read.0.0 read.1 >>= (λ rest. Ok (read.0.1 ++ rest))))
turn h lengths registers s (Ok ((after, made), next)) others inside e from rest = one_more h lengths registers after s made next (others after next) inside e (rest after next (omega arith))
turn h lengths registers s (Err f) others inside e from rest = record { turns = 0; rows = []; last = registers; rest = s; stand = (refl, refl, refl); ends = (inside, e) }

stopped : (h : Program) (lengths : List ℕ) (registers : Row) (s : Span) → s.end ≤ s.place → IsRun h lengths registers s (Ok [])
stopped h lengths registers s past = record { turns = 0; rows = []; last = registers; rest = s; stand = (refl, refl, refl); ends = (past, refl) }

IsRun-same : (h : Program) (lengths : List ℕ) (registers : Row) (s : Span) (a b : Result (List Row) Fault) → a ≡ b → IsRun h lengths registers s a → IsRun h lengths registers s b
IsRun-same h lengths registers s a b e run = let P : Result (List Row) Fault → Type 0 = λ r. IsRun h lengths registers s r in subst P e run

run_from : (n : ℕ) (h : Program) (lengths : List ℕ) (registers : Row) (s : Span) → s.end ≤ s.place + n → IsRun h lengths registers s (walk (step_at h lengths) n registers s)
unfolding walk
run_from zero h lengths registers s fits = stopped h lengths registers s (omega arith)
run_from (suc n) h lengths registers s fits =
    elim (leb_tells s.end s.place) [
      | inl past ↦ rw past.0 (stopped h lengths registers s past.1)
      | inr before ↦ rw before.0 (turn h lengths registers s (step_at h lengths registers s) (λ after next. walk (step_at h lengths) n after (at s next)) before.1 refl
          (step_from h lengths registers s) (λ after next further. run_from n h lengths after (at s next) (omega arith)))
    ]

-- the rows of a program are those of a run from its start
pub rows_run : (h : Program) (lengths : List ℕ) (s : Span) → IsRun h lengths (fresh h) s (line_rows h lengths s)
unfolding line_rows
rows_run h lengths s = run_from (s.end - s.place) h lengths (fresh h) s (omega arith)
