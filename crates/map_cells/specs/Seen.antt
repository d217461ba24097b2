-- What contracts see of cells and of passes, and what a pass keeps from call to call.
use Rattle.std.specs.Prelude.{◌≡◌, ℕ, List}
use Rattle.atomic_table.specs.Seated.{TableId}
use Rattle.map_core.specs.declared.layout.Layout.{Layout}
use Rattle.map_core.specs.declared.view.View.{View}
use Rattle.map_core.specs.History.{StartsWith}
use Rattle.map_core.specs.Passes.{AtRest}

-- which table, its sizes, and the tag of its facts
pub record CellsView : Type 0 where
  pub table : TableId
  pub layout : Layout
  pub tag : List ℕ

-- the table that a pass belongs to, and what it knows
pub record PassView : Type 0 where
  pub table : TableId
  pub knows : View

-- the pass is of these cells
pub record IsOf (c : CellsView) (p : PassView) : Type 0 where
  pub table : p.table ≡ c.table
  pub layout : p.knows.layout ≡ c.layout
  pub tag : p.knows.tag ≡ c.tag

-- what every call of a table keeps of a pass that becomes q: the old front begins the new one
pub record Continues (p q : PassView) : Type 0 where
  pub table : q.table ≡ p.table
  pub layout : q.knows.layout ≡ p.knows.layout
  pub tag : q.knows.tag ≡ p.knows.tag
  pub number : q.knows.number ≡ p.knows.number
  pub front : StartsWith p.knows.front q.knows.front
  pub rest : AtRest p.knows → AtRest q.knows

-- and every call but a split and a join: the numbers and the spare ones stay too
pub record Follows (p q : PassView) : Type 0 where
  pub table : q.table ≡ p.table
  pub layout : q.knows.layout ≡ p.knows.layout
  pub tag : q.knows.tag ≡ p.knows.tag
  pub number : q.knows.number ≡ p.knows.number
  pub numbers : q.knows.numbers ≡ p.knows.numbers
  pub spare : q.knows.spare ≡ p.knows.spare
  pub front : StartsWith p.knows.front q.knows.front
  pub rest : AtRest p.knows → AtRest q.knows
