-- The rows of many units, indexed by their runs. These are rules of our own.
use Rattle.std.specs.Prelude.{◌≡◌, ℕ, List, map}
use Rattle.interval_index.specs.declared.boundaries.Boundary.{Boundary}
use Rattle.interval_index.specs.Intervals.{first_with}
use Rattle.interval_index.specs.Boundaries.{first_covering}
use Rattle.row_index.specs.declared.rows.KeptRow.{KeptRow}
use Rattle.row_index.specs.declared.runs.Run.{Run}
use Rattle.row_index.specs.Rows.{found_in}
use Rattle.row_index.specs.Runs.{AreRunsOf, interval_of, rows_of, told_by}

-- The runs tell what the units do, and the index finds the first run that has an address.
pub record IsIndexed (units : List (List KeptRow)) (runs : List Run) (index : List Boundary) : Type 0 where
  pub runs_stand : AreRunsOf units runs
  pub told : (a : ℕ) → told_by units runs a ≡ found_in units a
  pub first : (a : ℕ) → first_covering index a ≡ first_with (map (λ run. interval_of (rows_of units run)) runs) a
