-- Numbers as texts show them.
use Rattle.std.specs.Prelude.{ℕ, zero, suc, ◌/◌, ◌%◌, ℤ, false, List, [], ◌∷◌, ◌++◌}
use Rattle.std.specs.Fmt.{digits, digit_glyph, signed_decimal}

-- decimal digits without leading zeros; 0 is one digit
abbrev pub decimal : ℕ → List ℕ
decimal n = digits 10 false n

-- hexadecimal digits without leading zeros, in small letters; 0 is one digit
abbrev pub hex : ℕ → List ℕ
hex n = digits 16 false n

-- decimal digits, behind `-` below 0
abbrev pub signed : ℤ → List ℕ
signed z = signed_decimal z

-- the last k hexadecimal digits of a number, leading zeros among them
unfoldable pub last_digits : ℕ → ℕ → List ℕ
last_digits zero n = []
last_digits (suc k) n = last_digits k (n / 16) ++ (digit_glyph false (n % 16) ∷ [])

-- the sixteen hexadecimal digits of a number below 2 ^ 64
unfoldable pub sixteen : ℕ → List ℕ
sixteen n = last_digits 16 n
