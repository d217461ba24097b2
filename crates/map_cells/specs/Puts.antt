-- What the two walks answer: at one cell, of one generation, and of all from one upwards.
use Rattle.std.specs.Prelude.{◌≡◌, ◌≢◌, ◌⊎◌, ℕ, ◌+◌, ◌≤◌, List, length, true, Some, None}
use Rattle.map_core.specs.declared.view.View.{View}
use Rattle.map_core.specs.Sizes.{cells_of}
use Rattle.map_core.specs.History.{value_in, is_in}
use Rattle.map_core.specs.Places.{key_place}
use Rattle.map_core.specs.Machine.{IsWord, Passed, IsClosed, IsPublished}
use Rattle.map_core.specs.Passes.{look, PassFacts}
use Rattle.map_cells.specs.Steps.{ClosedTo, StepFrame, IsPlaced, IsKept}
use Rattle.map_cells.specs.Walks.{Walks}
use Rattle.map_cells.specs.declared.walks.Put.{Put}
use Rattle.map_cells.specs.declared.walks.Put.TheVariants as put
use Rattle.map_cells.specs.declared.walks.PutEnd.{PutEnd}
use Rattle.map_cells.specs.declared.walks.PutEnd.TheVariants as put_end
use Rattle.map_cells.specs.declared.walks.SeekEnd.{SeekEnd}
use Rattle.map_cells.specs.declared.walks.SeekEnd.TheVariants as seek_end
use Rattle.map_cells.specs.declared.walks.Sought.{Sought}
use Rattle.map_cells.specs.declared.walks.Sought.TheVariants as sought
use Rattle.map_cells.specs.declared.walks.Taken.{Taken}
use Rattle.map_cells.specs.declared.walks.Taken.TheVariants as taken
use Rattle.map_cells.specs.declared.walks.Tried.{Tried}
use Rattle.map_cells.specs.declared.walks.Tried.TheVariants as tried

-- the cell holds another key
pub record HoldsOther (g i k : ℕ) (w : View) : Type 0 where
  pub key : IsWord (look w.known (key_place w.layout g i))
  pub other : look w.known (key_place w.layout g i) ≢ k

-- the cell holds this key
abbrev pub HoldsKey : ℕ → ℕ → ℕ → View → Type 0
HoldsKey g i k w = look w.known (key_place w.layout g i) ≡ k

-- the key is closed in generation g, which is not the last, as a cell told
pub record IsShut (g k : ℕ) (w : View) : Type 0 where
  pub closed : IsClosed w.layout (look w.known) g k
  pub low : g ≢ w.layout.last

-- the key is closed in generation g. Where that is the last, each of its cells holds another key
pub record IsPast (g k : ℕ) (w : View) : Type 0 where
  pub closed : IsClosed w.layout (look w.known) g k
  pub full : g ≡ w.layout.last → Passed w.layout (look w.known) g k (cells_of g)

-- what a pass that walked learned of a key at a cell
abbrev pub SeeksAt : ℕ → ℕ → ℕ → View → Sought → Type 0
SeeksAt g i k w (sought.Value x) = value_in w.front k ≡ Some x
SeeksAt g i k w sought.Missing = value_in w.front k ≡ None
SeeksAt g i k w sought.Other = HoldsOther g i k w
SeeksAt g i k w sought.Closed = IsShut g k w

-- and in a generation
abbrev pub SeeksIn : ℕ → ℕ → View → SeekEnd → Type 0
SeeksIn g k w (seek_end.Value x) = value_in w.front k ≡ Some x
SeeksIn g k w seek_end.Missing = value_in w.front k ≡ None
SeeksIn g k w seek_end.Closed = IsPast g k w

-- the pair is seen published in generation g or a higher one
pub record IsSeenFrom (g k x : ℕ) (w : View) : Type 0 where
  pub generation : ℕ
  pub from : g ≤ generation
  pub published : IsPublished w.layout (look w.known) generation k x

module _ (fits : List ℕ → ℕ → ℕ → Type 0) where
  -- The generation was seen current, and the pair fits. Or the generation below it was, and the pair is seen
  -- published there
  abbrev pub MayPut : ℕ → ℕ → ℕ → View → Type 0
  MayPut g k x v =
      (fits v.tag k x × (is_in g v.currents ≡ true))
      ⊎ ((c : ℕ) × (c + 1 ≡ g) × (is_in c v.currents ≡ true)
      × IsPublished v.layout (look v.known) c k x)

  -- this call set the value word: of a new entry, not counted yet, where the pair fits and the key is closed below
  -- generation g, or of a pair that was seen published. Where both hold, no call sets a value word
  pub record PutsNew (g k x : ℕ) (v w : View) : Type 0 where
    pub steps : StepFrame v w
    pub facts : PassFacts fits w
    pub claim : w.claim ≡ None
    pub counted : w.counted ≡ v.counted
    pub fresh : fits v.tag k x → ClosedTo v g k → IsPlaced fits k x v w
    pub kept : (h : ℕ) → IsPublished v.layout (look v.known) h k x → IsKept fits v w
    pub seen : IsSeenFrom g k x w

  -- the value y was there
  pub record PutsFound (g k x y : ℕ) (v w : View) : Type 0 where
    pub walks : Walks fits v w
    pub value : value_in w.front k ≡ Some y
    pub same : (h : ℕ) → IsPublished v.layout (look v.known) h k x → y ≡ x
    pub seen : IsSeenFrom g k y w

  -- no cell was left: each cell of the last generation is seen with another key
  pub record PutsNone (g k : ℕ) (v w : View) : Type 0 where
    pub walks : Walks fits v w
    pub others : Passed w.layout (look w.known) w.layout.last k (cells_of w.layout.last)
    pub lacks : is_in g v.currents ≡ true → value_in w.front k ≡ None
    pub full : w.layout.capacity ≤ length w.front

  abbrev pub IsPut : ℕ → ℕ → ℕ → View → View → Put → Type 0
  IsPut g k x v w put.Placed = PutsNew g k x v w
  IsPut g k x v w (put.Found y) = PutsFound g k x y v w
  IsPut g k x v w put.Exhausted = PutsNone g k v w

  -- what one cell made of the pair
  pub record PutsOther (g i k : ℕ) (v w : View) : Type 0 where
    pub walks : Walks fits v w
    pub holds : HoldsOther g i k w

  pub record PutsShut (g k : ℕ) (v w : View) : Type 0 where
    pub walks : Walks fits v w
    pub shut : IsShut g k w

  abbrev pub PutsAt : ℕ → ℕ → ℕ → ℕ → View → View → Tried → Type 0
  PutsAt g i k x v w tried.Placed = PutsNew g k x v w
  PutsAt g i k x v w (tried.Found y) = PutsFound g k x y v w
  PutsAt g i k x v w tried.Other = PutsOther g i k v w
  PutsAt g i k x v w tried.Closed = PutsShut g k v w

  -- and what one generation did
  pub record PutsPast (g k : ℕ) (v w : View) : Type 0 where
    pub walks : Walks fits v w
    pub past : IsPast g k w

  abbrev pub PutsIn : ℕ → ℕ → ℕ → View → View → PutEnd → Type 0
  PutsIn g k x v w put_end.Placed = PutsNew g k x v w
  PutsIn g k x v w (put_end.Found y) = PutsFound g k x y v w
  PutsIn g k x v w put_end.Closed = PutsPast g k v w

-- what the walk made of the cell's key: it was claimed for k, k stands in it, another key does, or it is sealed
abbrev pub TakesAt : ℕ → ℕ → ℕ → View → Taken → Type 0
TakesAt g i k w taken.Claimed = HoldsKey g i k w
TakesAt g i k w taken.Stands = HoldsKey g i k w
TakesAt g i k w taken.Other = HoldsOther g i k w × (w.claim ≡ None)
TakesAt g i k w taken.Closed = IsShut g k w × (w.claim ≡ None)
