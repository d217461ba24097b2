-- The row that an address belongs to: DWARF 5, section 6.2.
use Rattle.std.specs.Prelude.{ℕ, suc, Bool, not, List, [], ◌∷◌, Option, Some, None, ◌&&◌, nat_le, nat_lt, if◌then◌else◌}
use Rattle.std.specs.Option.{option_or, option_map}
use Rattle.row_index.specs.declared.rows.KeptRow.{KeptRow}

-- A row and the next one cover the addresses from the row's up to, and without, the next one's. The
-- row that ends a sequence covers none.
abbrev pub covers : KeptRow → KeptRow → ℕ → Bool
covers row next a = not row.end && (nat_le row.address a && nat_lt a next.address)

-- The first row that covers an address together with the next one: of a row and those behind it, and
-- of the rows of a unit.
abbrev pub row_behind : KeptRow → List KeptRow → ℕ → Option KeptRow
row_behind row [] a = None
row_behind row (next ∷ rest) a = if covers row next a then Some row else row_behind next rest a

abbrev pub row_at : List KeptRow → ℕ → Option KeptRow
row_at [] a = None
row_at (row ∷ rest) a = row_behind row rest a

-- A row with its unit.
abbrev pub of_unit : ℕ → Option KeptRow → Option (ℕ × KeptRow)
of_unit unit found = option_map (λ row. (unit, row)) found

-- The first unit that has such a row, with the row, where the first of these units has the number `k`.
abbrev pub found_from : ℕ → List (List KeptRow) → ℕ → Option (ℕ × KeptRow)
found_from k [] a = None
found_from k (rows ∷ units) a = option_or (of_unit k (row_at rows a)) (found_from (suc k) units a)

-- The same of units counted from 0.
abbrev pub found_in : List (List KeptRow) → ℕ → Option (ℕ × KeptRow)
found_in units a = found_from 0 units a
