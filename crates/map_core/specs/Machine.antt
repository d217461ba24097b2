-- The words of a table at one moment, and the facts that hold of them at every moment.
-- A key word is 0 (empty), the greatest number (sealed) or a key. A value word is 0 (unset), the greatest number (closed) or a value.
-- C q is the word at place q.
use Rattle.std.specs.Prelude.{◌≡◌, ◌≢◌, ◌⊎◌, ℕ, ◌-◌, ◌*◌, ◌/◌, ◌<◌, ◌≤◌, List, Some}
use Rattle.map_core.specs.declared.entry.Entry.{Entry}
use Rattle.map_core.specs.declared.layout.Layout.{Layout}
use Rattle.map_core.specs.Sizes.{cells_of}
use Rattle.map_core.specs.History.{value_in, IsLegalHistory}
use Rattle.map_core.specs.Places.{lowest, key_place, value_place, finish_place, current_in, count_in, takes_in, cells_in, spot, Within, IsCell, IsBlock}

abbrev pub greatest : ℕ
greatest = 18446744073709551615

-- a key or a value: neither 0 nor the greatest number
abbrev pub IsWord : ℕ → Type 0
IsWord w = (0 < w) × (w < greatest)

-- a word that is not 0 stays
abbrev pub Keeps : (ℕ → ℕ) → (ℕ → ℕ) → Type 0
Keeps C D = (q : ℕ) → 0 < C q → D q ≡ C q

-- no word but that at p changes
abbrev pub Only : ℕ → (ℕ → ℕ) → (ℕ → ℕ) → Type 0
Only p C D = (q : ℕ) → q ≢ p → D q ≡ C q

module _ (l : Layout) (C : ℕ → ℕ) where
  -- the cells before step d of the walk of k hold other keys
  pub record Passed (g k d : ℕ) : Type 0 where
    pub others : (j : ℕ) → j < d → IsWord (C (key_place l g (spot g k j))) × (C (key_place l g (spot g k j)) ≢ k)

  -- the walk of k comes to cell i
  pub record Reaches (g i k : ℕ) : Type 0 where
    pub steps : ℕ
    pub within : steps < cells_of g
    pub place : i ≡ spot g k steps
    pub passed : Passed g k steps

  -- the walk of k meets a sealed key, or a closed value at its own key, or no end
  pub record IsClosed (g k : ℕ) : Type 0 where
    pub steps : ℕ
    pub within : steps ≤ cells_of g
    pub passed : Passed g k steps
    pub end : (steps ≡ cells_of g) ⊎ (C (key_place l g (spot g k steps)) ≡ greatest) ⊎ ((C (key_place l g (spot g k steps)) ≡ k) × (C (value_place l g (spot g k steps)) ≡ greatest))

  -- a cell has the key k and the value v
  pub record IsPublished (g k v : ℕ) : Type 0 where
    pub index : ℕ
    pub cell : IsCell l g index
    pub key_is : C (key_place l g index) ≡ k
    pub value_is : C (value_place l g index) ≡ v
    pub key : IsWord k
    pub value : IsWord v

  -- a key that is closed or published
  abbrev pub IsSettled : ℕ → ℕ → Type 0
  IsSettled g k = IsClosed g k ⊎ ((v : ℕ) × IsPublished g k v)

  -- a cell that is sealed or has a value word that is not 0
  abbrev pub IsDone : ℕ → ℕ → Type 0
  IsDone g i = (C (key_place l g i) ≡ greatest) ⊎ (0 < C (value_place l g i))

  -- a generation whose cells are all done
  pub record IsFinal (g : ℕ) : Type 0 where
    pub done : (i : ℕ) → IsCell l g i → IsDone g i

  -- a block of 64 cells that are done, and whose pairs are published in a higher generation
  pub record IsMoved (g b : ℕ) : Type 0 where
    pub done : (i : ℕ) → IsCell l g i → i / 64 ≡ b → IsDone g i
    pub moved : (i : ℕ) → IsCell l g i → i / 64 ≡ b → IsWord (C (key_place l g i)) → IsWord (C (value_place l g i))
        → (h : ℕ) × (g < h) × IsPublished h (C (key_place l g i)) (C (value_place l g i))

  -- a cell that has a key and no value
  abbrev pub IsUnset : ℕ → ℕ → Type 0
  IsUnset g i = IsWord (C (key_place l g i)) × (C (value_place l g i) ≡ 0)

  -- a cell that is sealed, closed at a key, or has a pair that is published in a higher generation. This is what a
  -- pass sees of a cell before it finishes the cell's block
  pub record CellMoved (g i : ℕ) : Type 0 where
    pub how : (C (key_place l g i) ≡ greatest) ⊎ (IsWord (C (key_place l g i)) × ((C (value_place l g i) ≡ greatest)
        ⊎ ((h : ℕ) × (g < h) × IsPublished h (C (key_place l g i)) (C (value_place l g i)))))

  -- a block of 64 such cells
  pub record BlockMoved (g b : ℕ) : Type 0 where
    pub cells : (i : ℕ) → IsCell l g i → i / 64 ≡ b → CellMoved g i

  -- Each key of a generation is met by its walk, so that it stands in one cell. A value stands in a cell with a key, and
  -- is at most the greatest number. In the last generation nothing is sealed or closed
  pub record OneCellPerKey : Type 0 where
    pub walked : (g i : ℕ) → IsCell l g i → IsWord (C (key_place l g i)) → Reaches g i (C (key_place l g i))
    pub keyed : (g i : ℕ) → IsCell l g i → 0 < C (value_place l g i) → IsWord (C (key_place l g i))
    pub bounded : (g i : ℕ) → IsCell l g i → C (value_place l g i) ≤ greatest
    pub last_open : (i : ℕ) → i < cells_of l.last → (C (key_place l l.last i) < greatest) × (C (value_place l l.last i) < greatest)

  -- A key that stands in a generation is closed or published in each lower one
  pub record ClosedBelow : Type 0 where
    pub lower : (g h i : ℕ) → Within l g → g < h → IsCell l h i → IsWord (C (key_place l h i)) → IsSettled g (C (key_place l h i))

  -- The current generation is one of the table's. Those below it are final, and their pairs are published in it or a higher one
  pub record MovedBelow (current : ℕ) : Type 0 where
    pub within : Within l current
    pub left : (g : ℕ) → Within l g → g < current → IsFinal g
    pub carried : (g k v : ℕ) → g < current → IsPublished g k v → (h : ℕ) × (current ≤ h) × IsPublished h k v

  -- A finish word is 0 or 1, and a block whose finish word is 1 is done and moved
  pub record FinishedBlocks : Type 0 where
    pub finished : (g b : ℕ) → IsBlock l g b → C (finish_place l g b) ≡ 1 → IsMoved g b
    pub small : (g b : ℕ) → IsBlock l g b → C (finish_place l g b) ≤ 1

  module _ (fits : ℕ → ℕ → Type 0) (log : List Entry) where
    -- All published cells of a key hold the value that the history has of it. The history has no other keys, each once, and each entry fits
    pub record OneHistory : Type 0 where
      pub kept : (g i : ℕ) → IsCell l g i → IsWord (C (key_place l g i)) → IsWord (C (value_place l g i)) → value_in log (C (key_place l g i)) ≡ Some (C (value_place l g i))
      pub stands : (k v : ℕ) → value_in log k ≡ Some v → (g : ℕ) × IsPublished g k v
      pub legal : IsLegalHistory fits log

-- a table at one moment
pub record State : Type 0 where
  pub current : ℕ
  pub count : ℕ
  pub takes : ℕ → ℕ
  pub cells : ℕ → ℕ
  pub history : List Entry

-- The facts on the words and the history, all together. Above the lowest generation the count fills three quarters of
-- the generation below the current one
pub record Sound (l : Layout) (fits : ℕ → ℕ → Type 0) (s : State) : Type 0 where
  pub cells : OneCellPerKey l s.cells
  pub closed : ClosedBelow l s.cells
  pub moved : MovedBelow l s.cells s.current
  pub finished : FinishedBlocks l s.cells
  pub history : OneHistory l s.cells fits s.history
  pub filled : lowest l < s.current → 3 * cells_of (s.current - 1) ≤ 4 * s.count

-- a table with these words
abbrev pub state_of : Layout → List ℕ → List Entry → State
state_of l words log = record {
  current = current_in words;
  count = count_in words;
  takes = takes_in l words;
  cells = cells_in l words;
  history = log;
}
