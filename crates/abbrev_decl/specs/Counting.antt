-- How a counter of work goes up. This is a rule of our own.
use Rattle.std.specs.Prelude.{ℕ, ◌+◌, ◌-◌, ◌^◌, min}

-- A counter of 64 bits after `k` more counts: it stands still at its greatest value.
unfoldable pub ticked_by : ℕ → ℕ → ℕ
ticked_by k n = min (n + k) (2 ^ 64 - 1)

-- A counter after one more count.
abbrev pub ticked : ℕ → ℕ
ticked n = ticked_by 1 n
