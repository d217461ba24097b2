-- What contracts see of draws and of their seats, and what a call makes of a seat.
use Rattle.std.specs.Prelude.{◌≡◌, ℕ, ◌+◌, ◌-◌, ◌*◌, ◌/◌, ◌<◌, max, List, [], ◌∷◌, ◌++◌, length, count_by, ◌==◌, if◌then◌else◌}
use Rattle.atomic_table.specs.Seated.{TableId}
use Rattle.atomic_table.specs.Table.{Me}
use Rattle.unit_draws.specs.declared.view.DrawSizes.{DrawSizes}
use Rattle.unit_draws.specs.declared.view.DrawView.{DrawView}
use Rattle.unit_draws.specs.declared.windows.TheConstants.{WINDOW}
use Rattle.unit_draws.specs.Windows.{IsUnitOfWindow}

-- which words, how many units they count, how many seats there may be, and by which tag units are refused
pub record DrawsView : Type 0 where
  pub table : TableId
  pub sizes : DrawSizes
  pub tag : List ℕ

-- whose seat it is, and what it knows
pub record SeatView : Type 0 where
  pub table : TableId
  pub knows : DrawView

-- the seat belongs to these draws
pub record IsSeatOf (draws : DrawsView) (seat : SeatView) : Type 0 where
  pub table : seat.table ≡ draws.table
  pub units : seat.knows.units ≡ draws.sizes.units
  pub seats : seat.knows.seats ≡ draws.sizes.seats
  pub tag : seat.knows.tag ≡ draws.tag

-- how often a number stands in a list
unfoldable pub occurrences : ℕ → List ℕ → ℕ
occurrences n ns = count_by (λ m. m == n) ns

-- # Seats as calls leave them

abbrev pub first_seat : DrawSizes → List ℕ → DrawView
first_seat sizes tag =
    record {
      units = sizes.units;
      seats = sizes.seats;
      tag = tag;
      number = 0;
      numbers = 0 ∷ [];
      spare = sizes.seats - 1;
      drawn = [];
      ended = [];
      lowered = [];
    }

-- the seat that another was split off
abbrev pub with_less_spare : DrawView → DrawView
with_less_spare v = record v { spare = v.spare - 1 }

-- the new seat: its number is the lowest that no seat has
abbrev pub seat_split_off : DrawView → DrawView
seat_split_off v =
    record {
      units = v.units;
      seats = v.seats;
      tag = v.tag;
      number = v.seats - v.spare;
      numbers = (v.seats - v.spare) ∷ [];
      spare = 0;
      drawn = [];
      ended = [];
      lowered = [];
    }

-- the seat that drew this unit
abbrev pub with_unit : DrawView → ℕ → DrawView
with_unit v unit = record v { drawn = v.drawn ++ unit ∷ [] }

-- the seat that saw this window end
abbrev pub with_ended : DrawView → ℕ → DrawView
with_ended v window = record v { ended = v.ended ++ window ∷ [] }

-- the seat that told of this refused unit
abbrev pub with_lowered : DrawView → ℕ → DrawView
with_lowered v unit = record v { lowered = v.lowered ++ unit ∷ [] }

-- the seat that took another in
abbrev pub with_seat : DrawView → DrawView → DrawView
with_seat v u =
    record v {
      numbers = v.numbers ++ u.numbers;
      drawn = v.drawn ++ u.drawn;
      ended = v.ended ++ u.ended;
      lowered = v.lowered ++ u.lowered;
    }

-- what is left of a seat that another took in
abbrev pub empty_seat : DrawView
empty_seat =
    record {
      units = 0;
      seats = 0;
      tag = [];
      number = 0;
      numbers = [];
      spare = 0;
      drawn = [];
      ended = [];
      lowered = [];
    }

-- whatever a draw answers, the seat has its numbers still
pub record KeepsNumbers (v v' : DrawView) : Type 0 where
  pub number : v'.number ≡ v.number
  pub numbers : v'.numbers ≡ v.numbers
  pub spare : v'.spare ≡ v.spare

-- # Where a seat stands in a window

-- the place behind the units of the window that stand in the list
abbrev pub place_behind : ℕ → List ℕ → ℕ
place_behind window [] = WINDOW * window
place_behind window (u ∷ us) = if u / WINDOW == window then max (u + 1) (place_behind window us) else place_behind window us

-- how many places of the window lie behind the units that the seat drew of it: only their units can still come to it
abbrev pub places_ahead : ℕ → DrawView → ℕ
places_ahead window v = WINDOW * (window + 1) - place_behind window v.drawn

-- # What a seat knows of all others

-- the first seat, into which all other seats that were made are joined
pub record HasEverySeat (v : DrawView) : Type 0 where
  pub first : v.number ≡ 0
  pub all : length v.numbers ≡ v.seats - v.spare

-- each unit of the window was drawn, and none twice
abbrev pub HasDrawnWindow : DrawView → ℕ → Type 0
HasDrawnWindow v window = (u : ℕ) → IsUnitOfWindow v.units window u → occurrences u v.drawn ≡ 1

-- what is true of a seat by itself: it holds no slot of the table, has its number and its spare ones written down,
-- and wasn't joined into another
pub record SeatHolds (me : Me (Unit {0}) DrawView) (written_number written_spare : ℕ) : Type 0 where
  pub slots : me.1 ≡ []
  pub number : written_number ≡ me.0.number
  pub spare : written_spare ≡ me.0.spare
  pub some : 0 < length me.0.numbers
  pub less : me.0.spare < me.0.seats
