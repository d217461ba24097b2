-- The windows that a file's units stand in, 256 units each.
use Rattle.std.specs.Prelude.{ℕ, zero, suc, ◌+◌, ◌-◌, ◌*◌, ◌/◌, ◌<◌, ◌≤◌, min, List, [], ◌∷◌, ◌++◌, replicate}
use Rattle.unit_draws.specs.declared.windows.TheConstants.{WINDOW}

-- As many as the last unit needs. A file without units has one window, which is empty.
abbrev pub window_count : ℕ → ℕ
window_count units = (units - 1) / WINDOW + 1

-- The last window may have fewer units than the others.
abbrev pub window_length : ℕ → ℕ → ℕ
window_length units window = min WINDOW (units - WINDOW * window)

-- the unit is one of the file's, and stands in this window
pub record IsUnitOfWindow (units window unit : ℕ) : Type 0 where
  pub counted : unit < units
  pub from : WINDOW * window ≤ unit
  pub below : unit < WINDOW * (window + 1)

-- the lengths of so many windows, from the first one on
abbrev pub window_lengths : ℕ → ℕ → List ℕ
window_lengths units zero = []
window_lengths units (suc windows) = window_lengths units windows ++ window_length units windows ∷ []

-- The words of draws at the start: of each window its next unit, by its number within the window, and then of each window
-- its least refused unit, or the window's length where none is known.
unfoldable pub first_words : ℕ → List ℕ
first_words units = replicate (window_count units) 0 ++ window_lengths units (window_count units)
