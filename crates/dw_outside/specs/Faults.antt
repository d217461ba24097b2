-- The count of faults that each source and each sink keeps: our own rule that a refusal with
-- `Failed` has a cause outside of the program.
use Rattle.std.specs.Prelude.{ℕ, ◌+◌, ◌-◌, ◌^◌, ◌≤◌, min, Result, Ok, Err, IsErrOf, OnErr}
use Rattle.std.proofs.Common.{arith}
use Rattle.dw_outside.specs.declared.stops.ReadStop.{ReadStop}
use Rattle.dw_outside.specs.declared.stops.ReadStop.TheVariants as read_stops
use Rattle.dw_outside.specs.declared.stops.WriteStop.{WriteStop}
use Rattle.dw_outside.specs.declared.stops.WriteStop.TheVariants as write_stops

-- the count rose between the two, or it stands at the greatest `u64`, which it can't leave
abbrev pub Rose : ℕ → ℕ → Type 0
Rose before now = min (before + 1) (2 ^ 64 - 1) ≤ now

-- the count never falls, and it rose where the answer is `failed`
pub record HasCause {T E : Type 0} (failed : E) (before now : ℕ) (result : Result T E) : Type 0 where
  pub later : before ≤ now
  pub rose : IsErrOf result failed → Rose before now

-- the count with one fault more, in 64 bits
abbrev pub counted : ℕ → ℕ
counted n = min (n + 1) (2 ^ 64 - 1)

-- the count behind a call that was refused: want of memory isn't counted
abbrev pub after_read : ReadStop → ℕ → ℕ
after_read read_stops.Failed n = counted n
after_read read_stops.OutOfMemory n = n

abbrev pub after_write : WriteStop → ℕ → ℕ
after_write write_stops.Failed n = counted n
after_write write_stops.OutOfMemory n = n

-- a count that rose stays risen
pub Rose-later : (before mid now : ℕ) → Rose before mid → mid ≤ now → Rose before now
Rose-later before mid now rose later = omega arith

-- a count that rose in a later part rose in the whole
pub Rose-earlier : (before mid now : ℕ) → before ≤ mid → Rose mid now → Rose before now
Rose-earlier before mid now earlier rose = omega arith

-- a fact that always holds, on a refusal
pub OnErr-always : {T E : Type 0} {P : Type 0} (r : Result T E) → P → OnErr r P
OnErr-always (Ok x) p = tt
OnErr-always (Err e) p = p
