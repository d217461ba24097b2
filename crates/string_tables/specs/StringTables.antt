-- Texts in a string table, and where they end (gABI chapter 4, "String Table").
use Rattle.std.specs.Prelude.{ℕ, ◌+◌, ◌*◌, ◌/◌, ◌==◌, nat_le, if◌then◌else◌, List, length, take, drop, position, map, Option, None, option_map}
use Rattle.std.specs.List.{range_with_len, position_or_len}

-- the bytes before the first zero byte
unfoldable pub before_zero : List ℕ → Option (List ℕ)
before_zero bytes = option_map (λ n. take n bytes) (position (λ b. b == 0) bytes)

-- The text that begins at a place of a table, without the zero byte that ends it: none where the place
-- is at or past the table's end, or where no zero byte follows.
unfoldable pub text_in_table : List ℕ → ℕ → Option (List ℕ)
text_in_table table place =
    if nat_le (length table) place then None else before_zero (drop place table)

-- the place of the next zero byte at or behind a place, or the table's length
unfoldable pub end_from : List ℕ → ℕ → ℕ
end_from table place = place + position_or_len (λ b. b == 0) (drop place table)

-- the same at the end of each whole block of 128 bytes
unfoldable pub ends_of : List ℕ → List ℕ
ends_of table = map (λ block. end_from table (block * 128)) (range_with_len 1 (length table / 128))
