-- Laws of the operations of a line program: each ends behind its first byte.
use Rattle.std.proofs.Common.{ℕ, zero, suc, ◌+◌, ◌-◌, ◌≤◌, ◌==◌, Bool, true, false, cond, nat_lt, nat_le, List, Result, Ok, Err, IfOk, arith}
use Rattle.std.specs.Prelude.{slice_index}
use Rattle.dw_fields.specs.declared.fault_code.Fault.{Fault}
use Rattle.dw_fields.specs.Span.{Span, at, until}
use Rattle.dw_fields.specs.Reading.{◌>>=◌, number_at, uleb_at, sleb_at}
use Rattle.dw_fields.specs.ReaderLaws.{IsPast, next-IfOk, number_at-past, uleb_at-past, sleb_at-past}
use Rattle.line_machine.specs.declared.registers.Program.{Program}
use Rattle.line_machine.specs.declared.operations.Operation.{Operation}
use Rattle.line_machine.specs.declared.operations.Operation.TheVariants as ops
use Rattle.line_machine.specs.Operations.{in_program, with, passed_over, standard_at, within_at, extended_at, operation_at}

-- the place behind an answer is at least this one
abbrev pub From : {X : Type 0} → ℕ → Result (X × ℕ) Fault → Type 0
From place answer = IfOk answer (λ read. place ≤ read.1)

From-past : {X : Type 0} → (least : ℕ) (s : Span) (answer : Result (X × ℕ) Fault) → IsPast least s answer → From (s.place + least) answer
From-past least s (Ok read) past = past.0
From-past least s (Err f) past = tt

From-less : {X : Type 0} → (place least : ℕ) (answer : Result (X × ℕ) Fault) → place ≤ least → From least answer → From place answer
From-less place least (Ok read) le h = omega arith
From-less place least (Err f) le h = tt

From-with : {X : Type 0} → (operation : X → Operation) (place : ℕ) (answer : Result (X × ℕ) Fault) → From place answer → From place (with operation answer)
From-with operation place (Ok read) h = h
From-with operation place (Err f) h = tt

From-either : {X : Type 0} → (test : Bool) (place : ℕ) (first second : Result (X × ℕ) Fault) → From place first → From place second → From place (cond test first second)
From-either true place first second h k = h
From-either false place first second h k = k

From-in_program : {X : Type 0} → (place : ℕ) (answer : Result (X × ℕ) Fault) → From place answer → From place (in_program answer)
From-in_program place (Ok read) h = h
From-in_program place (Err f) h = tt

uleb_from : (s : Span) → From s.place (uleb_at s)
uleb_from s = From-less s.place (s.place + 1) (uleb_at s) (omega arith) (From-past 1 s (uleb_at s) (uleb_at-past s))

sleb_from : (s : Span) → From s.place (sleb_at s)
sleb_from s = From-less s.place (s.place + 1) (sleb_at s) (omega arith) (From-past 1 s (sleb_at s) (sleb_at-past s))

number_from : (n : ℕ) (s : Span) → From s.place (number_at n s)
number_from n s = From-less s.place (s.place + n) (number_at n s) (omega arith) (From-past n s (number_at n s) (number_at-past n s))

passed_from : (n : ℕ) (s : Span) → From s.place (passed_over n s)
unfolding passed_over
passed_from zero s = omega arith
passed_from (suc n) s =
    next-IfOk (λ r. s.place ≤ r.1) (λ r. s.place ≤ r.1) (uleb_at s) _ (uleb_from s)
    (λ operand le. From-less s.place operand.1 (passed_over n (at s operand.1)) le (passed_from n (at s operand.1)))

standard_from : (lengths : List ℕ) (opcode : ℕ) (s : Span) → From s.place (standard_at lengths opcode s)
unfolding standard_at
standard_from lengths opcode s =
    let here : s.place ≤ s.place = omega arith in
    From-either (opcode == 1) s.place _ _ here
    (From-either (opcode == 2) s.place _ _ (From-with ops.AdvancePc s.place (uleb_at s) (uleb_from s))
    (From-either (opcode == 3) s.place _ _ (From-with ops.AdvanceLine s.place (sleb_at s) (sleb_from s))
    (From-either (opcode == 4) s.place _ _ (From-with ops.SetFile s.place (uleb_at s) (uleb_from s))
    (From-either (opcode == 5) s.place _ _ (From-with ops.SetColumn s.place (uleb_at s) (uleb_from s))
    (From-either (opcode == 6) s.place _ _ here
    (From-either (opcode == 7) s.place _ _ here
    (From-either (opcode == 8) s.place _ _ here
    (From-either (opcode == 9) s.place _ _ (From-with ops.FixedAdvancePc s.place (number_at 2 s) (number_from 2 s))
    (From-either (opcode == 10) s.place _ _ here
    (From-either (opcode == 11) s.place _ _ here
    (From-either (opcode == 12) s.place _ _ (From-with ops.SetIsa s.place (uleb_at s) (uleb_from s))
    (passed_from (slice_index lengths (opcode - 1)) s))))))))))))

within_from : (place size : ℕ) (answer : Result (Operation × ℕ) Fault) → From place (answer >>= (λ operation. Ok (operation.0, place + size)))
within_from place size (Ok operation) = omega arith
within_from place size (Err f) = tt

extended_from : (version : ℕ) (s : Span) → From s.place (extended_at version s)
unfolding extended_at
extended_from version s =
    next-IfOk (λ r. s.place ≤ r.1) (λ r. s.place ≤ r.1) (in_program (uleb_at s)) _ (From-in_program s.place (uleb_at s) (uleb_from s))
    (λ count le. From-either (count.0 == 0) s.place _ _ tt
    (From-either (nat_lt s.end (count.1 + count.0)) s.place _ _ tt
    (From-less s.place count.1 _ le (within_from count.1 count.0 (within_at version s.place (until (at s count.1) (count.1 + count.0)))))))

-- an operation has a byte at least
pub operation_from : (h : Program) (lengths : List ℕ) (s : Span) → From (s.place + 1) (operation_at h lengths s)
unfolding operation_at
operation_from h lengths s =
    next-IfOk (λ r. s.place + 1 ≤ r.1) (λ r. s.place + 1 ≤ r.1) (in_program (number_at 1 s)) _
    (From-in_program (s.place + 1) (number_at 1 s) (From-past 1 s (number_at 1 s) (number_at-past 1 s)))
    (λ opcode le. From-either (nat_le h.opcode_base opcode.0) (s.place + 1) _ _ le
    (From-either (opcode.0 == 0) (s.place + 1) _ _ (From-less (s.place + 1) opcode.1 _ le (extended_from h.version (at s opcode.1)))
    (From-less (s.place + 1) opcode.1 _ le (From-in_program opcode.1 (standard_at lengths opcode.0 (at s opcode.1)) (standard_from lengths opcode.0 (at s opcode.1))))))
