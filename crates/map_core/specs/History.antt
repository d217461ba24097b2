-- The history of a table: the list of its successful inserts, oldest first. A front is a beginning of it.
use Rattle.std.specs.Prelude.{◌≡◌, ℕ, Bool, false, ◌||◌, List, [], ◌∷◌, ◌++◌, Option, Some, None, if◌then◌else◌, ◌==◌}
use Rattle.map_core.specs.declared.entry.Entry.{Entry}
use Rattle.map_core.specs.PlainMap.{plain_keep}

-- the plain map with these entries put in, in order
abbrev pub kept_in : List (ℕ × ℕ) → List Entry → List (ℕ × ℕ)
kept_in ps [] = ps
kept_in ps (e ∷ es) = kept_in (plain_keep ps e.key e.value) es

-- the plain map of a front
abbrev pub plain_map : List Entry → List (ℕ × ℕ)
plain_map es = kept_in [] es

-- the value of the first entry with this key
abbrev pub value_in : List Entry → ℕ → Option ℕ
value_in [] key = None
value_in (e ∷ es) key = if e.key == key then Some e.value else value_in es key

-- keys are distinct, and each entry fits
abbrev pub IsLegalHistory : (ℕ → ℕ → Type 0) → List Entry → Type 0
IsLegalHistory fits [] = Unit {0}
IsLegalHistory fits (e ∷ es) = (value_in es e.key ≡ None) × fits e.key e.value × IsLegalHistory fits es

abbrev pub is_in : ℕ → List ℕ → Bool
is_in n [] = false
is_in n (m ∷ ms) = (n == m) || is_in n ms

-- the entries of these passes, in order
abbrev pub by_any : List ℕ → List Entry → List Entry
by_any ns [] = []
by_any ns (e ∷ es) = if is_in e.who ns then e ∷ by_any ns es else by_any ns es

-- the list begins with the front
pub record StartsWith (front log : List Entry) : Type 0 where
  pub rest : List Entry
  pub joins : front ++ rest ≡ log

-- the list begins with the front, and what follows is by other passes
pub record StartsWithOwn (numbers : List ℕ) (front log : List Entry) : Type 0 where
  pub rest : List Entry
  pub joins : front ++ rest ≡ log
  pub others : by_any numbers rest ≡ []
