-- One line for each item of a list, by its number.
use Rattle.std.specs.Prelude.{ℕ, ◌+◌, List, [], ◌∷◌, ◌++◌}

unfoldable pub numbered : {Y : Type 0} → (ℕ → Y → List ℕ) → ℕ → List Y → List ℕ
numbered line number [] = []
numbered line number (item ∷ items) = line number item ++ numbered line (number + 1) items
