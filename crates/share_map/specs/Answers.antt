-- What the table's calls answer, by the definitions of a call at its point.
use Rattle.std.specs.Prelude.{◌≡◌, ◌⊎◌, ℕ, ◌+◌, ◌-◌, ◌*◌, ◌<◌, ◌≤◌, List, [], ◌∷◌, length, Some, Result, Ok, Err}
use Rattle.map_core.specs.declared.view.View.{View}
use Rattle.map_core.specs.Sizes.{cells_of}
use Rattle.map_core.specs.Places.{lowest}
use Rattle.map_core.specs.History.{by_any, value_in}
use Rattle.map_core.specs.Calls.{own, PlacesAt, FoundAt, FullAt}
use Rattle.map_core.specs.Passes.{AtRest}
use Rattle.map_cells.specs.Seen.{CellsView, PassView, IsOf}
use Rattle.share_map.specs.declared.answers.Full.{Full}
use Rattle.share_map.specs.declared.answers.Kept.{Kept}
use Rattle.share_map.specs.declared.answers.Kept.TheVariants.{Placed, Found}

-- an empty table and its first pass, in the lowest generation that is laid out
pub record IsNew (capacity passes : ℕ) (mark : List ℕ) (t : CellsView) (p : PassView) : Type 0 where
  pub capacity_is : t.layout.capacity ≡ capacity
  pub passes_are : t.layout.passes ≡ passes
  pub tag : t.tag ≡ mark
  pub of_table : IsOf t p
  pub rest : AtRest p.knows
  pub number : p.knows.number ≡ 0
  pub numbers : p.knows.numbers ≡ 0 ∷ []
  pub spare : p.knows.spare ≡ passes - 1
  pub front : p.knows.front ≡ []
  pub generation : p.knows.generation ≡ lowest t.layout

-- the pass's own entries are few for its generation, or that is the last, or the front has the capacity's entries
abbrev pub HasRoom : View → Type 0
HasRoom w =
    (4 * length (own w) < 3 * cells_of w.generation)
    ⊎ (w.generation ≡ w.layout.last)
    ⊎ (w.layout.capacity ≤ length w.front)

-- an insert at its point, by its answer
abbrev pub Inserts : (ℕ → ℕ → Type 0) → ℕ → ℕ → ℕ → View → View → Result Kept Full → Type 0
Inserts fits capacity key value v w (Ok Placed) = PlacesAt fits v w key value × HasRoom w
Inserts fits capacity key value v w (Ok (Found x)) = FoundAt fits v w key x
Inserts fits capacity key value v w (Err e) = FullAt fits v w capacity key

-- the own entries of a joined pass are those of the two, and no others; a key that either front had keeps its value
pub record PutTogether (v u w : View) : Type 0 where
  pub first : by_any v.numbers w.front ≡ own v
  pub second : by_any u.numbers w.front ≡ own u
  pub all : length (own w) ≡ length (own v) + length (own u)
  pub keeps : (key x : ℕ) → value_in v.front key ≡ Some x → value_in w.front key ≡ Some x
  pub keeps_theirs : (key x : ℕ) → value_in u.front key ≡ Some x → value_in w.front key ≡ Some x
