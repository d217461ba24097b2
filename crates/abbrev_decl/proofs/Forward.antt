-- Readers go forward, and none reads at the end.
use Rattle.std.proofs.Common.{◌≡◌, ℕ, ◌-◌, ◌<◌, ◌≤◌, Result, Ok, Err, Bool, true, false, cond, refl, subst, arith}
use Rattle.dw_fields.specs.declared.fault_code.Fault.{Fault}
use Rattle.dw_fields.specs.declared.fault_code.Code.{Code}
use Rattle.dw_fields.specs.declared.fault_code.Code.TheVariants.{Truncated}
use Rattle.dw_fields.specs.Codes.{fault}
use Rattle.dw_fields.specs.Span.{Span}
use Rattle.dw_fields.specs.Leb.{last_group}
use Rattle.dw_fields.specs.ReaderLaws.{IsPast, number_at-past, uleb_at-past, sleb_at-past}
use Rattle.dw_fields.specs.Reading.{◌>>=◌, renamed, number_at, uleb_at, sleb_at}

-- what was read ends behind the place
abbrev pub Ahead : {X : Type 0} → ℕ → Result (X × ℕ) Fault → Type 0
Ahead place (Ok read) = place < read.1
Ahead place (Err f) = Unit {0}

pub Ahead-is : {X : Type 0} → (place : ℕ) (answer : Result (X × ℕ) Fault) (read : X × ℕ) → answer ≡ Ok read → Ahead place answer → place < read.1
Ahead-is {X = X} place answer read e h = let P : Result (X × ℕ) Fault → Type 0 = λ a. Ahead place a in subst P e h

pub Ahead-renamed : {X : Type 0} → (from to : Code) (place : ℕ) (answer : Result (X × ℕ) Fault) → Ahead place answer → Ahead place (renamed from to answer)
Ahead-renamed from to place (Ok read) h = h
Ahead-renamed from to place (Err f) h = tt

pub Ahead-then : {X Y : Type 0} → (place : ℕ) (answer : Result (X × ℕ) Fault) (next : X × ℕ → Result (Y × ℕ) Fault)
    → Ahead place answer → ((read : X × ℕ) → place < read.1 → Ahead place (next read)) → Ahead place (answer >>= next)
Ahead-then place (Ok read) next h k = k read h
Ahead-then place (Err f) next h k = tt

pub Ahead-later : {X : Type 0} → (place later : ℕ) (answer : Result (X × ℕ) Fault) → place ≤ later → Ahead later answer → Ahead place answer
Ahead-later place later (Ok read) le h = omega arith
Ahead-later place later (Err f) le h = tt

pub Ahead-either : {X : Type 0} → (test : Bool) (place : ℕ) (then_read else_read : Result (X × ℕ) Fault) → Ahead place then_read → Ahead place else_read → Ahead place (cond test then_read else_read)
Ahead-either true place then_read else_read h k = h
Ahead-either false place then_read else_read h k = k

-- what a field of the readers below comes to
past_ahead : {X : Type 0} → (s : Span) (answer : Result (X × ℕ) Fault) → IsPast 1 s answer → Ahead s.place answer
past_ahead s (Ok read) past = omega (arith, past.0)
past_ahead s (Err f) past = tt

pub byte_ahead : (s : Span) → Ahead s.place (number_at 1 s)
byte_ahead s = past_ahead s (number_at 1 s) (number_at-past 1 s)

pub uleb_ahead : (s : Span) → Ahead s.place (uleb_at s)
uleb_ahead s = past_ahead s (uleb_at s) (uleb_at-past s)

pub sleb_ahead : (s : Span) → Ahead s.place (sleb_at s)
sleb_ahead s = past_ahead s (sleb_at s) (sleb_at-past s)

pub uleb_end : (s : Span) → s.end ≤ s.place → uleb_at s ≡ Err (fault Truncated s.place)
unfolding uleb_at last_group
uleb_end s h = let none : s.end - s.place ≡ 0 = omega arith in rw none refl
