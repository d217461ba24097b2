-- Tables of names as rows: a row has thirty-two bytes, of which the first is the length of the name and the last are the name.
use Rattle.std.specs.Prelude.{ℕ, ◌-◌, ◌<◌, ◌≤◌, ◌==◌, nat_lt, if◌then◌else◌, Option, Some, None, List, [], length, drop, get_or}

-- the length of the name is in its range
abbrev pub AreRows : List (List ℕ) → Type 0
AreRows rows = (n : ℕ) → n < length rows → get_or (get_or rows n []) 0 0 ≤ 31

-- the name in a row; none where its length is 0
unfoldable pub row_name : List ℕ → Option (List ℕ)
row_name bytes = if get_or bytes 0 0 == 0 then None else Some (drop (32 - get_or bytes 0 0) bytes)

-- the name in the row of a number; none where it has no row
unfoldable pub name_in : List (List ℕ) → ℕ → Option (List ℕ)
name_in rows n = if nat_lt n (length rows) then row_name (get_or rows n []) else None
