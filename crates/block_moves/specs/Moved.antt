-- What a helper has seen of cells and blocks, and what helping came to.
use Rattle.std.specs.Prelude.{◌≡◌, ◌⊎◌, ℕ, ◌-◌, ◌*◌, ◌<◌, ◌≤◌, length}
use Rattle.map_core.specs.declared.view.View.{View}
use Rattle.map_core.specs.Sizes.{cells_of}
use Rattle.map_core.specs.Places.{key_place, value_place, finish_place}
use Rattle.map_core.specs.Machine.{greatest, IsWord, CellMoved}
use Rattle.map_core.specs.Calls.{own}
use Rattle.map_core.specs.Passes.{look}
use Rattle.block_moves.specs.declared.moves.Helped.{Helped}
use Rattle.block_moves.specs.declared.moves.Helped.TheVariants.{Nothing, Switched, LastFull}

-- the cell is seen with the key k
pub record HoldsWord (g i k : ℕ) (w : View) : Type 0 where
  pub word : IsWord k
  pub seen : look w.known (key_place w.layout g i) ≡ k

-- with the value x
pub record HoldsValue (g i x : ℕ) (w : View) : Type 0 where
  pub word : IsWord x
  pub seen : look w.known (value_place w.layout g i) ≡ x

-- sealed
abbrev pub IsSealed : ℕ → ℕ → View → Type 0
IsSealed g i w = look w.known (key_place w.layout g i) ≡ greatest

-- or closed at its key
abbrev pub IsClosedAt : ℕ → ℕ → View → Type 0
IsClosedAt g i w = look w.known (value_place w.layout g i) ≡ greatest

-- the cell is seen moved
abbrev pub SeenMoved : ℕ → ℕ → View → Type 0
SeenMoved g i w = CellMoved w.layout (look w.known) g i

-- the block is seen finished
abbrev pub SeenFinished : ℕ → ℕ → View → Type 0
SeenFinished g b w = look w.known (finish_place w.layout g b) ≡ 1

-- the front has at least the capacity's entries
abbrev pub IsFull : View → Type 0
IsFull w = w.layout.capacity ≤ length w.front

-- n entries leave the pass's generation less than three quarters full, or it is the last
abbrev pub IsEarly : ℕ → View → Type 0
IsEarly n w = (4 * n < 3 * cells_of w.generation) ⊎ (w.generation ≡ w.layout.last)

-- no move was due by the count that was loaded, and none is by the pass's own entries
pub record HelpsNothing (w : View) : Type 0 where
  pub loaded : IsEarly w.count_seen w
  pub few : IsEarly (length (own w)) w

-- a move was due of the generation below g, which is above the one that the pass knew, and the pass has come to g
pub record HelpsSwitched (g : ℕ) (v w : View) : Type 0 where
  pub due : 3 * cells_of (g - 1) ≤ 4 * w.count_seen
  pub below : g ≤ w.layout.last
  pub above : v.generation < g
  pub reached : g ≤ w.generation

abbrev pub Helps : View → View → Helped → Type 0
Helps v w Nothing = HelpsNothing w
Helps v w (Switched g) = HelpsSwitched g v w
Helps v w LastFull = IsFull w
