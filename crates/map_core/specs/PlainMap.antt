-- The plain map that keeps the first value of each key: a list of pairs.
use Rattle.std.specs.Prelude.{ℕ, List, [], ◌∷◌, ◌++◌, Option, Some, None, if◌then◌else◌, ◌==◌}

-- the value of the first pair with this key
abbrev pub plain_get : List (ℕ × ℕ) → ℕ → Option ℕ
plain_get [] key = None
plain_get (p ∷ ps) key = if p.0 == key then Some p.1 else plain_get ps key

abbrev pub kept_at : Option ℕ → List (ℕ × ℕ) → ℕ → ℕ → List (ℕ × ℕ)
kept_at None ps key value = ps ++ (key, value) ∷ []
kept_at (Some old) ps key value = ps

-- the map with this pair, unless it has the key
abbrev pub plain_keep : List (ℕ × ℕ) → ℕ → ℕ → List (ℕ × ℕ)
plain_keep ps key value = kept_at (plain_get ps key) ps key value
