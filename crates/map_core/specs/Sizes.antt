-- How many cells a generation has, and which generation of a table is its last.
use Rattle.std.specs.Prelude.{ℕ, ◌+◌, ◌*◌, ◌^◌, ◌<◌, ◌≤◌}

-- generation g has 64 * 2 ^ g cells
unfoldable pub cells_of : ℕ → ℕ
cells_of g = 64 * 2 ^ g

-- the last generation is the first whose cells are at least four thirds of the entries and the passes together
abbrev pub IsLastFor : ℕ → ℕ → ℕ → Type 0
IsLastFor capacity passes last = (4 * (capacity + passes) ≤ 3 * cells_of last) × ((g : ℕ) → g < last → 3 * cells_of g < 4 * (capacity + passes))
