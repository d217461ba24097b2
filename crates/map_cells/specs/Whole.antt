-- What holds of a whole table at every moment.
use Rattle.std.specs.Prelude.{◌≡◌, ℕ, List, length}
use mathlib.Core.Option.{some}
use lib.ListN.{get_elem?}
use Rattle.map_core.specs.declared.entry.Entry.{Entry}
use Rattle.map_core.specs.declared.layout.Layout.{Layout}
use Rattle.map_core.specs.declared.view.View.{View}
use Rattle.map_core.specs.Places.{count_in, word_count}
use Rattle.map_core.specs.Machine.{State, Keeps, state_of}
use Rattle.map_core.specs.Events.{Event, Lawful, IsStep}
use Rattle.map_core.specs.Passes.{look, Together}
use Rattle.map_cells.specs.Seen.{CellsView}

-- The words are the state after a lawful list of events, whose history is log. What the passes know is so:
-- their fronts begin the one history, the count is honest, and cells with a key and no value are open claims
pub record WholeTable (fits : List ℕ → ℕ → ℕ → Type 0) (l : Layout) (tag : List ℕ)
    (words : List ℕ) (views : List View) : Type 0 where
  pub events : List Event
  pub log : List Entry
  pub lawful : Lawful l (fits tag) events (state_of l words log)
  pub together : Together l tag (state_of l words log) views
  pub size : length words ≡ word_count l

module _ (fits : List ℕ → ℕ → ℕ → Type 0) where
  -- a step of a pass was this event of the machine, after a lawful list of events. The pass's front is the
  -- history behind it, and all words that the pass has seen stand
  pub record MakesStep (e : Event) (v w : View) : Type 0 where
    pub events : List Event
    pub before : State
    pub after : State
    pub lawful : Lawful v.layout (fits v.tag) events before
    pub is_step : IsStep v.layout (fits v.tag) e before after
    pub history : w.front ≡ after.history
    pub known : Keeps (look w.known) after.cells

  -- a step of a pass was a load: the words stayed as they are after a lawful list of events
  pub record MakesLoad (v w : View) : Type 0 where
    pub events : List Event
    pub at : State
    pub lawful : Lawful v.layout (fits v.tag) events at
    pub history : w.front ≡ at.history
    pub known : Keeps (look w.known) at.cells

  -- generation g is current at a moment of a lawful list of events, at which the history is the pass's front and all
  -- words that the pass has seen stand
  pub record WasCurrent (g : ℕ) (w : View) : Type 0 where
    pub events : List Event
    pub at : State
    pub lawful : Lawful w.layout (fits w.tag) events at
    pub current : at.current ≡ g
    pub history : w.front ≡ at.history
    pub known : Keeps (look w.known) at.cells

  -- the table is taken apart, and the count is n
  pub record ClosesTable (c : CellsView) (v : View) (n : ℕ) : Type 0 where
    pub words : List ℕ
    pub views : List View
    pub whole : WholeTable fits c.layout c.tag words views
    pub who : ℕ
    pub at : get_elem? views who ≡ some v
    pub count : n ≡ count_in words
