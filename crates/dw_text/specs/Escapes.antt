-- Texts with escapes.
use Rattle.std.specs.Prelude.{◌≡◌, ℕ, ◌/◌, ◌%◌, ◌<◌, ◌≤◌, Bool, true, false, ◌&&◌, ◌||◌, not, if◌then◌else◌, ◌==◌, nat_le, List, [], ◌∷◌, ◌++◌, get_or}
use Rattle.std.specs.Fmt.{digit_glyph}

-- the bytes 20 to 7e stand for themselves, but not `"` and `\`
unfoldable pub is_plain : ℕ → Bool
is_plain b = nat_le 0x20 b && nat_le b 0x7e && not (b == 0x22) && not (b == 0x5c)

-- one byte of a text: itself, `"` and `\` behind a `\`, any other as `\x` and two digits
unfoldable pub escape : ℕ → List ℕ
escape b =
    if is_plain b then b ∷ []
    else (if (b == 0x22) || (b == 0x5c) then 0x5c ∷ b ∷ []
    else 0x5c ∷ 0x78 ∷ digit_glyph false (b / 16) ∷ digit_glyph false (b % 16) ∷ [])

-- a text, byte by byte
unfoldable pub escaped : List ℕ → List ℕ
escaped [] = []
escaped (b ∷ bytes) = escape b ++ escaped bytes

-- the bytes of a text from place i on, up to place j, stand for themselves
abbrev pub IsPlainFrom : List ℕ → ℕ → ℕ → Type 0
IsPlainFrom text i j = (k : ℕ) → i ≤ k → k < j → is_plain (get_or text k 0) ≡ true
