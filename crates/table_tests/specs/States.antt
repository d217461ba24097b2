-- What a test knows of a pass between two calls.
use Rattle.std.specs.Prelude.{◌≡◌, ℕ, ◌<◌, [], Some, true}
use Rattle.map_core.specs.History.{is_in}
use Rattle.map_core.specs.Places.{IsCell, key_place}
use Rattle.map_core.specs.Passes.{look, cell, AtRest}
use Rattle.map_cells.specs.Seen.{CellsView, PassView, IsOf}

-- the pass is of these cells, and has nothing under way
pub record Idle (c : CellsView) (p : PassView) : Type 0 where
  pub of_table : IsOf c p
  pub rest : AtRest p.knows

-- and has seen generation 0 current, which isn't the last
pub record SeesFirst (c : CellsView) (p : PassView) : Type 0 where
  pub idle : Idle c p
  pub current : is_in 0 p.knows.currents ≡ true
  pub below : 0 < c.layout.last

-- the pass has claimed cell i of generation g for the key k, and has nothing else under way
pub record HasClaimed (c : CellsView) (g i k : ℕ) (p : PassView) : Type 0 where
  pub of_table : IsOf c p
  pub current : is_in 0 p.knows.currents ≡ true
  pub below : 0 < c.layout.last
  pub claim : p.knows.claim ≡ Some (cell g i)
  pub uncounted : p.knows.uncounted ≡ []
  pub place : IsCell c.layout g i
  pub key : look p.knows.known (key_place p.knows.layout g i) ≡ k
