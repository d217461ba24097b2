-- What a sink gains, where it tells what it holds.
use Rattle.std.specs.Prelude.{◌≡◌, ℕ, ◌<◌, ◌≤◌, List, [], ◌++◌, length, take, Option, Some, None, Result, Ok, Err}

-- what the sink held, followed by the bytes
abbrev pub Gains : Option (List ℕ) → Option (List ℕ) → List ℕ → Type 0
Gains None new bytes = Unit {0}
Gains (Some old) None bytes = ⊥
Gains (Some old) (Some new) bytes = new ≡ old ++ bytes

-- what the sink held, followed by a prefix of the bytes
abbrev pub GainsPart : Option (List ℕ) → Option (List ℕ) → List ℕ → Type 0
GainsPart old new bytes = (n : ℕ) × Gains old new (take n bytes)

-- one write: some of the bytes, and at least one where there is one; nothing at a refusal
abbrev pub Takes : {E : Type 0} → Option (List ℕ) → Option (List ℕ) → List ℕ → Result ℕ E → Type 0
Takes old new bytes (Ok n) = (n ≤ length bytes) × (0 < length bytes → 0 < n) × Gains old new (take n bytes)
Takes old new bytes (Err e) = Gains old new []
