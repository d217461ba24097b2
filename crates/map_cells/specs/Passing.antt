-- What a new table's first pass is, and what a split and a join leave of the passes.
use Rattle.std.specs.Prelude.{◌≡◌, ◌≢◌, ℕ, ◌+◌, ◌-◌, List, [], ◌++◌}
use Rattle.map_core.specs.declared.layout.Layout.{Layout}
use Rattle.map_core.specs.declared.view.View.{View}
use Rattle.map_core.specs.History.{StartsWithOwn}
use Rattle.map_core.specs.Calls.{own, SplitsAt, JoinsAt}
use Rattle.map_core.specs.Passes.{placed, AtRest, PassFacts}
use Rattle.map_core.specs.Knowing.{first_view, halved, newcomer}
use Rattle.map_cells.specs.Seen.{CellsView, PassView, IsOf}

-- new cells of these sizes, and their first pass
pub record BeginsCells (l : Layout) (mark : List ℕ) (c : CellsView) (p : PassView) : Type 0 where
  pub layout : c.layout ≡ l
  pub tag : c.tag ≡ mark
  pub of_cells : IsOf c p
  pub knows : p.knows ≡ first_view l mark

module _ (fits : List ℕ → ℕ → ℕ → Type 0) where
  -- v became w, and u is the new pass: it knows what v does, has a number of its own, and no entries
  pub record IsSplit (v w u : View) : Type 0 where
    pub old : w ≡ halved v
    pub new : u ≡ newcomer v
    pub splits : SplitsAt v w
    pub number : u.number ≡ v.layout.passes - v.spare
    pub not_first : u.number ≢ 0
    pub own : own u ≡ []
    pub facts : PassFacts fits w
    pub new_facts : PassFacts fits u

  -- u was joined into v, which became w
  pub record IsJoined (v u w : View) : Type 0 where
    pub joins : JoinsAt (fits v.tag) v u w
    pub facts : PassFacts fits w
    pub layout : w.layout ≡ v.layout
    pub generation : w.generation ≡ v.generation
    pub currents : w.currents ≡ v.currents
    pub rest : AtRest w
    pub placed : placed w ≡ placed v + placed u
    pub known : w.known ≡ v.known
    pub count_seen : w.count_seen ≡ v.count_seen

  -- the second step of a join
  pub record Settles (v w : View) : Type 0 where
    pub facts : PassFacts fits w
    pub layout : w.layout ≡ v.layout
    pub tag : w.tag ≡ v.tag
    pub number : w.number ≡ v.number
    pub numbers : w.numbers ≡ v.numbers ++ v.beside_numbers
    pub spare : w.spare ≡ v.spare
    pub generation : w.generation ≡ v.generation
    pub currents : w.currents ≡ v.currents
    pub claim : w.claim ≡ v.claim
    pub uncounted : w.uncounted ≡ v.uncounted
    pub counted : w.counted ≡ v.counted
    pub known : w.known ≡ v.known
    pub count_seen : w.count_seen ≡ v.count_seen
    pub mine : StartsWithOwn v.numbers v.front w.front
    pub theirs : StartsWithOwn v.beside_numbers v.beside w.front
