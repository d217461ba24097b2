-- The eight events of the machine. Each is what one atomic step does to a table's words, and to its history.
use Rattle.std.specs.Prelude.{◌≡◌, ◌≢◌, ◌⊎◌, ℕ, ◌+◌, ◌*◌, ◌/◌, ◌%◌, ◌^◌, ◌<◌, ◌≤◌, List, [], ◌∷◌, ◌++◌, Some, None}
use Rattle.map_core.specs.declared.entry.Entry.{Entry}
use Rattle.map_core.specs.declared.layout.Layout.{Layout}
use Rattle.map_core.specs.Sizes.{cells_of}
use Rattle.map_core.specs.History.{value_in}
use Rattle.map_core.specs.Places.{lowest, key_place, value_place, finish_place, Within, IsCell, IsBlock}
use Rattle.map_core.specs.Machine.{State, greatest, IsWord, Reaches, IsPublished, IsSettled, IsMoved, Only}

pub data Event : Type 0 where
  claims : ℕ → ℕ → ℕ → Event  -- generation, index, key
  publishes : ℕ → ℕ → ℕ → ℕ → ℕ → Event  -- who, generation, index, key, value
  seals_key : ℕ → ℕ → Event  -- generation, index
  seals_value : ℕ → ℕ → Event  -- generation, index
  counts : Event
  takes : ℕ → Event  -- generation
  finishes : ℕ → ℕ → Event  -- generation, block
  switches : Event

abbrev pub entry : ℕ → ℕ → ℕ → Entry
entry who key value = record { who = who; key = key; value = value }

-- the word at p changes from old to new. Of the rest the history alone may change
pub record WritesWord (p old new : ℕ) (s t : State) : Type 0 where
  pub was : s.cells p ≡ old
  pub is : t.cells p ≡ new
  pub only : Only p s.cells t.cells
  pub current : t.current ≡ s.current
  pub count : t.count ≡ s.count
  pub takes : (q : ℕ) → t.takes q ≡ s.takes q

-- no cell and no entry changes
pub record Rests (s t : State) : Type 0 where
  pub cells : (q : ℕ) → t.cells q ≡ s.cells q
  pub history : t.history ≡ s.history

-- an entry is added, or the key has this value already
abbrev pub AddsEntry : (ℕ → ℕ → Type 0) → ℕ → ℕ → ℕ → List Entry → List Entry → Type 0
AddsEntry fits who k v log new =
    ((value_in log k ≡ Some v) × (new ≡ log))
    ⊎ ((value_in log k ≡ None) × fits k v × (new ≡ log ++ entry who k v ∷ []))

module _ (l : Layout) (fits : ℕ → ℕ → Type 0) where
  -- an empty key word becomes k, where k's walk comes to the cell and k is settled in each generation
  -- from the current one up to below this one
  pub record ClaimStep (g i k : ℕ) (s t : State) : Type 0 where
    pub cell : IsCell l g i
    pub key : IsWord k
    pub reached : Reaches l s.cells g i k
    pub settled : (h : ℕ) → s.current ≤ h → h < g → IsSettled l s.cells h k
    pub word : WritesWord (key_place l g i) 0 k s t
    pub history : t.history ≡ s.history

  -- an unset value word becomes v, where v is the key's value, or the key has none and the pair fits
  pub record PublishStep (who g i k v : ℕ) (s t : State) : Type 0 where
    pub cell : IsCell l g i
    pub key : IsWord k
    pub value : IsWord v
    pub stands : s.cells (key_place l g i) ≡ k
    pub word : WritesWord (value_place l g i) 0 v s t
    pub adds : AddsEntry fits who k v s.history t.history

  -- an empty key word is sealed
  pub record SealKeyStep (g i : ℕ) (s t : State) : Type 0 where
    pub cell : IsCell l g i
    pub below : g < l.last
    pub word : WritesWord (key_place l g i) 0 greatest s t
    pub history : t.history ≡ s.history

  -- an unset value word is closed, where the cell's key is published in no other generation
  pub record SealValueStep (g i : ℕ) (s t : State) : Type 0 where
    pub cell : IsCell l g i
    pub below : g < l.last
    pub key : IsWord (s.cells (key_place l g i))
    pub alone : (h v : ℕ) → h ≢ g → ¬ IsPublished l s.cells h (s.cells (key_place l g i)) v
    pub word : WritesWord (value_place l g i) 0 greatest s t
    pub history : t.history ≡ s.history

  -- the count rises by 1
  pub record CountStep (s t : State) : Type 0 where
    pub rests : Rests s t
    pub count : t.count ≡ s.count + 1
    pub current : t.current ≡ s.current
    pub takes : (q : ℕ) → t.takes q ≡ s.takes q

  -- the take word of a generation rises by 1, and wraps at 64 bits
  pub record TakeStep (g : ℕ) (s t : State) : Type 0 where
    pub within : Within l g
    pub rests : Rests s t
    pub taken : t.takes g ≡ (s.takes g + 1) % 2 ^ 64
    pub others : (q : ℕ) → q ≢ g → t.takes q ≡ s.takes q
    pub current : t.current ≡ s.current
    pub count : t.count ≡ s.count

  -- the finish word of a block that is moved becomes 1
  pub record FinishStep (g b : ℕ) (s t : State) : Type 0 where
    pub block : IsBlock l g b
    pub moved : IsMoved l s.cells g b
    pub word : WritesWord (finish_place l g b) 0 1 s t
    pub history : t.history ≡ s.history

  -- the next generation becomes current, where all blocks of the current one are finished and the
  -- count is at least three quarters of its cells
  pub record SwitchStep (s t : State) : Type 0 where
    pub rests : Rests s t
    pub finished : (b : ℕ) → b < cells_of s.current / 64 → s.cells (finish_place l s.current b) ≡ 1
    pub full : 3 * cells_of s.current ≤ 4 * s.count
    pub current : t.current ≡ s.current + 1
    pub count : t.count ≡ s.count
    pub takes : (q : ℕ) → t.takes q ≡ s.takes q

  abbrev pub IsStep : Event → State → State → Type 0
  IsStep (claims g i k) s t = ClaimStep g i k s t
  IsStep (publishes who g i k v) s t = PublishStep who g i k v s t
  IsStep (seals_key g i) s t = SealKeyStep g i s t
  IsStep (seals_value g i) s t = SealValueStep g i s t
  IsStep counts s t = CountStep s t
  IsStep (takes g) s t = TakeStep g s t
  IsStep (finishes g b) s t = FinishStep g b s t
  IsStep switches s t = SwitchStep s t

  -- a table at the start: all its words are 0, and its history is empty
  pub record IsStart (s : State) : Type 0 where
    pub cells : (q : ℕ) → s.cells q ≡ 0
    pub current : s.current ≡ lowest l
    pub count : s.count ≡ 0
    pub takes : (q : ℕ) → s.takes q ≡ 0
    pub history : s.history ≡ []

  -- a table after these events, the last of them first
  pub data Lawful : List Event → State → Type 0 where
    at_start : (s : State) → IsStart s → Lawful [] s
    and_then : (events : List Event) (s : State) (e : Event) (t : State)
        → Lawful events s → IsStep e s t → Lawful (e ∷ events) t
