-- Intervals in an order of their own. These are rules of our own.
use Rattle.std.specs.Prelude.{ℕ, suc, Bool, List, [], ◌∷◌, Option, Some, None, ◌&&◌, min, nat_le, nat_lt, if◌then◌else◌, get_or}
use Rattle.interval_index.specs.declared.interval.Interval.{Interval}

-- An interval has the numbers from its low end up to, and without, its high end.
abbrev pub has : Interval → ℕ → Bool
has interval n = nat_le interval.low n && nat_lt n interval.high

-- The number of the first interval that has `n`, where the first of them has the number `k`.
abbrev pub first_interval_from : ℕ → List Interval → ℕ → Option ℕ
first_interval_from k [] n = None
first_interval_from k (interval ∷ others) n = if has interval n then Some k else first_interval_from (suc k) others n

-- The number of the first interval that has `n`, counted from 0.
abbrev pub first_with : List Interval → ℕ → Option ℕ
first_with intervals n = first_interval_from 0 intervals n

-- Of two numbers that may be missing the lower one.
abbrev pub lesser : Option ℕ → Option ℕ → Option ℕ
lesser None y = y
lesser (Some x) None = Some x
lesser (Some x) (Some y) = Some (min x y)

-- The interval with this number; one without numbers where there is none.
abbrev pub interval_at : List Interval → ℕ → Interval
interval_at intervals k = get_or intervals k (record { low = 0; high = 0 })

-- The number `k`, where its interval has `n`.
abbrev pub if_has : List Interval → ℕ → ℕ → Option ℕ
if_has intervals k n = if has (interval_at intervals k) n then Some k else None

-- An interval has each number of another one that stands behind it.
abbrev pub hides : List Interval → ℕ → ℕ → Bool
hides intervals one other = nat_le one other
    && (nat_le (interval_at intervals one).low (interval_at intervals other).low
    && nat_le (interval_at intervals other).high (interval_at intervals one).high)

-- The least of these numbers whose interval has `n`.
abbrev pub least_with : List Interval → List ℕ → ℕ → Option ℕ
least_with intervals [] n = None
least_with intervals (k ∷ others) n = lesser (if_has intervals k n) (least_with intervals others n)
