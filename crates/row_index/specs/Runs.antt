-- Runs of rows: stretches of one unit in which no address falls, and only the last row may end a
-- sequence. These are rules of our own.
use Rattle.std.specs.Prelude.{◌≡◌, ◌≤◌, ◌<◌, ◌-◌, ℕ, Bool, false, List, [], ◌∷◌, Option, None, length, take, drop, get_or, ◌||◌, nat_lt}
use Rattle.std.specs.Option.{option_or}
use Rattle.interval_index.specs.declared.interval.Interval.{Interval}
use Rattle.row_index.specs.declared.rows.KeptRow.{KeptRow}
use Rattle.row_index.specs.declared.runs.Run.{Run}
use Rattle.row_index.specs.Rows.{row_at, of_unit}

-- A run ends behind a row that ends a sequence, or from which the address falls.
abbrev pub breaks : KeptRow → KeptRow → Bool
breaks row next = row.end || nat_lt next.address row.address

abbrev pub RisesBehind : KeptRow → List KeptRow → Type 0
RisesBehind row [] = Unit
RisesBehind row (next ∷ rest) = (breaks row next ≡ false) × RisesBehind next rest

-- These rows are one run.
abbrev pub Rises : List KeptRow → Type 0
Rises [] = Unit
Rises (row ∷ rest) = RisesBehind row rest

-- The address of a run's last row.
abbrev pub last_behind : KeptRow → List KeptRow → ℕ
last_behind row [] = row.address
last_behind row (next ∷ rest) = last_behind next rest

-- The addresses of a run.
abbrev pub interval_of : List KeptRow → Interval
interval_of [] = record { low = 0; high = 0 }
interval_of (row ∷ rest) = record { low = row.address; high = last_behind row rest }

-- The rows of a run of these units.
abbrev pub rows_of : List (List KeptRow) → Run → List KeptRow
rows_of units run = take (run.stop - run.start) (drop run.start (get_or units run.unit []))

-- Whether a run lies in these units.
pub record IsRunOf (units : List (List KeptRow)) (run : Run) : Type 0 where
  pub unit : run.unit < length units
  pub start : run.start ≤ run.stop
  pub stop : run.stop ≤ length (get_or units run.unit [])
  pub rises : Rises (rows_of units run)

abbrev pub AreRunsOf : List (List KeptRow) → List Run → Type 0
AreRunsOf units [] = Unit
AreRunsOf units (run ∷ others) = IsRunOf units run × AreRunsOf units others

-- What runs tell of an address: the first of them that has it, with its row.
abbrev pub told_by_run : List (List KeptRow) → Run → ℕ → Option (ℕ × KeptRow)
told_by_run units run a = of_unit run.unit (row_at (rows_of units run) a)

abbrev pub told_by : List (List KeptRow) → List Run → ℕ → Option (ℕ × KeptRow)
told_by units [] a = None
told_by units (run ∷ others) a = option_or (told_by_run units run a) (told_by units others a)

-- Runs are added that tell what the unit does.
pub record Splits (units : List (List KeptRow)) (unit : ℕ) (old new : List Run) : Type 0 where
  pub runs : AreRunsOf units old → AreRunsOf units new
  pub told : (a : ℕ) → told_by units new a
      ≡ option_or (told_by units old a) (of_unit unit (row_at (get_or units unit []) a))
