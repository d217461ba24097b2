-- Bytes as hexadecimal digits.
use Rattle.std.specs.Prelude.{ℕ, ◌/◌, ◌%◌, false, List, [], ◌∷◌}
use Rattle.std.specs.Fmt.{digit_glyph}

-- two digits for each byte, in their order
unfoldable pub hex_bytes : List ℕ → List ℕ
hex_bytes [] = []
hex_bytes (b ∷ bytes) = digit_glyph false (b / 16) ∷ digit_glyph false (b % 16) ∷ hex_bytes bytes
