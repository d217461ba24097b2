-- LEB128 numbers (DWARF 5 section 7.6).
use Rattle.std.specs.Prelude.{◌≡◌, ℕ, ◌+◌, ◌-◌, ◌*◌, ◌%◌, ◌<◌, ◌≤◌, ◌^◌, nat_lt, List, [], ◌∷◌, ℤ, pos, negsuc, ◌+ℤ◌, ◌-ℤ◌, ◌*ℤ◌, neg_ℤ, ◌≤ℤ◌, ◌<ℤ◌, if◌then◌else◌, Option, Some, None, position}

-- The bytes spell the number: seven bits a byte, the lowest group first, and a set top bit means that
-- another byte follows.
abbrev pub Leb : List ℕ → ℕ → Type 0
Leb [] n = ⊥
Leb (b ∷ []) n = (b < 128) × (n ≡ b)
Leb (b ∷ c ∷ bytes) n = (128 ≤ b) × (high : ℕ) × (n ≡ (b - 128) + 128 * high) × Leb (c ∷ bytes) high

-- the last group of a signed number: its bit 6 is the sign
abbrev pub signed_group : ℕ → ℤ
signed_group b = if nat_lt b 64 then pos b else (pos b -ℤ pos 128)

-- the same with the sign in bit 6 of the last byte
abbrev pub SignedLeb : List ℕ → ℤ → Type 0
SignedLeb [] z = ⊥
SignedLeb (b ∷ []) z = (b < 128) × (z ≡ signed_group b)
SignedLeb (b ∷ c ∷ bytes) z =
    (128 ≤ b) × (high : ℤ) × (z ≡ pos (b - 128) +ℤ pos 128 *ℤ high) × SignedLeb (c ∷ bytes) high

-- the sum of the groups of all bytes
abbrev pub leb_sum : List ℕ → ℕ
leb_sum [] = 0
leb_sum (b ∷ bytes) = leb_sum bytes * 128 + b % 128

-- the same with the sign of the last group
abbrev pub signed_leb_sum : List ℕ → ℤ
signed_leb_sum [] = pos 0
signed_leb_sum (b ∷ []) = signed_group (b % 128)
signed_leb_sum (b ∷ c ∷ bytes) = signed_leb_sum (c ∷ bytes) *ℤ pos 128 +ℤ pos (b % 128)

-- the number, if 64 bits hold it
abbrev pub within_unsigned : ℕ → Option ℕ
within_unsigned n = if nat_lt n (2 ^ 64) then Some n else None

-- the number, if 64 bits hold it with a sign
abbrev pub within_signed : ℤ → Option ℤ
within_signed (pos n) = if nat_lt n (2 ^ 63) then Some (pos n) else None
within_signed (negsuc n) = if nat_lt n (2 ^ 63) then Some (negsuc n) else None

abbrev pub unsigned_of : List ℕ → Option ℕ
unsigned_of bytes = within_unsigned (leb_sum bytes)

abbrev pub signed_of : List ℕ → Option ℤ
signed_of bytes = within_signed (signed_leb_sum bytes)

-- what 64 bits hold, without and with a sign
abbrev pub FitsUnsigned64 : ℕ → Type 0
FitsUnsigned64 n = n < 2 ^ 64

abbrev pub FitsSigned64 : ℤ → Type 0
FitsSigned64 z = (neg_ℤ (pos (2 ^ 63)) ≤ℤ z) × (z <ℤ pos (2 ^ 63))

-- how many bytes with a set top bit stand before the first that hasn't
unfoldable pub last_group : List ℕ → Option ℕ
last_group bytes = position (λ b. nat_lt b 128) bytes
