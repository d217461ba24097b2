-- Numbers on a command line.
use Rattle.std.specs.Prelude.{ℕ, ◌^◌, ◌&&◌, Bool, List, ◌∷◌, length, Option, Some, None, if◌then◌else◌, ◌==◌, nat_le, nat_lt}
use Rattle.std.specs.List.{list_all}
use Rattle.std.specs.Char.{digit_value}
use Rattle.std.specs.Str.Parse.{digits_value}

-- each byte is a digit in the base, in either case
abbrev pub are_digits : ℕ → List ℕ → Bool
are_digits base word = list_all (λ c. nat_lt (digit_value c) base) word

-- one digit to `most` digits
abbrev pub is_numeral : ℕ → ℕ → List ℕ → Bool
is_numeral base most word =
    nat_le 1 (length word) && nat_le (length word) most && are_digits base word

-- the number of one digit to `most` digits, where it is below 2^64
unfoldable pub number_in : ℕ → ℕ → List ℕ → Option ℕ
number_in base most word =
    if is_numeral base most word && nat_lt (digits_value base word) (2 ^ 64)
    then Some (digits_value base word) else None

-- one to twenty decimal digits
abbrev pub decimal_of : List ℕ → Option ℕ
decimal_of word = number_in 10 20 word

-- one to sixteen hexadecimal digits
abbrev pub hexadecimal_of : List ℕ → Option ℕ
hexadecimal_of word = number_in 16 16 word

-- `0x` and hexadecimal digits, or decimal digits
unfoldable pub address_of_word : List ℕ → Option ℕ
address_of_word (a ∷ b ∷ digits) =
    if (a == 48) && (b == 120) then hexadecimal_of digits else decimal_of (a ∷ b ∷ digits)
address_of_word word = decimal_of word
