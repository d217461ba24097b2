-- Names in a table of numbers and names.
use Rattle.std.specs.Prelude.{ℕ, Option, Some, None, if◌then◌else◌, ◌==◌, List, [], ◌∷◌, codes}
use Rattle.dw_text.specs.Added.{labelled}
use Rattle.dw_text.specs.Numbers.{hex}

-- the name beside a number, or none
abbrev pub named : List (ℕ × List ℕ) → ℕ → Option (List ℕ)
named [] n = None
named (row ∷ rows) n = if row.0 == n then Some row.1 else named rows n

-- a name, or `0x` and the number's hexadecimal digits where it has none
unfoldable pub named_or_hex : Option (List ℕ) → ℕ → List ℕ
named_or_hex (Some name) n = name
named_or_hex None n = labelled (codes "0x") (hex n)
