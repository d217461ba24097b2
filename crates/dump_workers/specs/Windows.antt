-- How the units of a window are drawn, read and gathered by the seats of a dump.
use Rattle.std.specs.Prelude.{◌≡◌, ◌≢◌, ◌⊎◌, ℕ, ◌+◌, ◌*◌, ◌<◌, ◌≤◌, List, [], ◌∷◌, ◌++◌, length, slice_index_or, All}
use Rattle.elf_sections.specs.Shapes.{SectionsView}
use Rattle.map_cells.specs.Seen.{PassView, Follows}
use Rattle.handle_cache.specs.Handles.{HandleView, Belongs, sections_in}
use Rattle.unit_draws.specs.declared.view.DrawView.{DrawView}
use Rattle.unit_draws.specs.declared.view.TheConstants.{MOST_SEATS}
use Rattle.unit_draws.specs.declared.windows.TheConstants.{WINDOW}
use Rattle.unit_draws.specs.Seats.{occurrences, DrawsView, SeatView, IsSeatOf, KeepsNumbers, HasEverySeat, HasDrawnWindow}
use Rattle.unit_headers.specs.Headers.{unit_count}
use Rattle.dump_workers.specs.declared.reading.Reading.{Reading}
use Rattle.dump_workers.specs.declared.seat.Work.{Work}
use Rattle.dump_workers.specs.declared.seat.Work.TheVariants.{Idle, Drawing, Drawn}
use Rattle.dump_workers.specs.FileKeys.{NotesUnit, GainsUnits, CountsUnits, RefusesNone}
use Rattle.dump_workers.specs.Readings.{IsReading, units_read}
use Rattle.dump_workers.specs.Seats.{DumpSeatView}

-- one of these seats notes the unit
abbrev pub SomeSeatNotesUnit : SectionsView → ℕ → List DumpSeatView → Type 0
SomeSeatNotesUnit s unit [] = ⊥
SomeSeatNotesUnit s unit (seat ∷ seats) = NotesUnit s unit seat.pass ⊎ SomeSeatNotesUnit s unit seats

-- # One worker

-- What a worker made of its draw seat in a window: the units that it drew are those that it read, and it saw the
-- window end.
pub record ServesWindow (d : DrawsView) (s : SectionsView) (window : ℕ) (before : DrawView) (v : SeatView) (readings : List Reading) : Type 0 where
  pub of_draws : IsSeatOf d v
  pub keeps : KeepsNumbers before v.knows
  pub drawn : (u : ℕ) → occurrences u v.knows.drawn ≡ occurrences u before.drawn + occurrences u (units_read readings)
  pub ended : v.knows.ended ≡ before.ended ++ window ∷ []
  pub all : HasEverySeat v.knows → HasDrawnWindow v.knows window
  pub each : All (IsReading s window) readings

-- a seat drew and saw end what it had
pub record KeepsDrawn (before after : DrawView) : Type 0 where
  pub numbers : KeepsNumbers before after
  pub drawn : after.drawn ≡ before.drawn
  pub ended : after.ended ≡ before.ended

-- each unit that was read is noted by the pass
abbrev pub NotesReadings : SectionsView → PassView → List Reading → Type 0
NotesReadings s p readings = RefusesNone s → All (λ (r : Reading). NotesUnit s r.unit p) readings

-- a worker may begin with a draw seat that hasn't seen the window end
abbrev pub IsReady : DrawsView → ℕ → Work → Type 0
IsReady d window (Drawing v) = IsSeatOf d v × (occurrences window v.knows.ended ≡ 0)
IsReady d window Idle = ⊥
IsReady d window (Drawn v readings) = ⊥

-- a worker served the window, or had no memory for it
abbrev pub HasServed : DrawsView → SectionsView → ℕ → DumpSeatView → PassView → Work → Work → Type 0
HasServed d s window old p (Drawing before) (Drawn v readings) =
    ServesWindow d s window before.knows v readings.items × NotesReadings s p readings.items
    × GainsUnits s old.pass p
HasServed d s window old p (Drawing before) Idle = Unit {0}
HasServed d s window old p (Drawing before) (Drawing v) = Unit {0}
HasServed d s window old p Idle after = Unit {0}
HasServed d s window old p (Drawn v readings) after = Unit {0}

-- what a worker is given, and what it leaves
pub record MayServe (h : HandleView) (d : DrawsView) (window : ℕ) (seat : DumpSeatView) : Type 0 where
  pub belongs : Belongs h seat.pass
  pub ready : IsReady d window seat.work

pub record LeavesServed (h : HandleView) (d : DrawsView) (window : ℕ) (old new : DumpSeatView) : Type 0 where
  pub belongs : Belongs h new.pass
  pub follows : Follows old.pass new.pass
  pub counts : CountsUnits (sections_in h) old.pass old.steps new.steps
  pub served : HasServed d (sections_in h) window old new.pass old.work new.work

-- each of these seats may serve the window
abbrev pub EachMayServe : HandleView → DrawsView → ℕ → List DumpSeatView → Type 0
EachMayServe h d window seats = (i : ℕ) (seat : DumpSeatView) → i < length seats
    → MayServe h d window (slice_index_or seats i seat)

-- as many seats as before, and each of them has served it, or had no memory for it
pub record EachServed (h : HandleView) (d : DrawsView) (window : ℕ) (old new : List DumpSeatView) : Type 0 where
  pub size : length new ≡ length old
  pub each : (i : ℕ) (seat : DumpSeatView) → i < length old → LeavesServed h d window (slice_index_or old i seat) (slice_index_or new i seat)

-- # All workers

-- a draw seat that was just split off
pub record IsFresh (v : DrawView) : Type 0 where
  pub number : v.number ≢ 0
  pub one : length v.numbers ≡ 1
  pub drawn : v.drawn ≡ []
  pub ended : v.ended ≡ []

abbrev pub IsFreshWork : DrawsView → Work → Type 0
IsFreshWork d (Drawing v) = IsSeatOf d v × IsFresh v.knows
IsFreshWork d Idle = ⊥
IsFreshWork d (Drawn v readings) = ⊥

-- a draw seat with this many spare numbers
abbrev pub with_spare : DrawView → ℕ → DrawView
with_spare v spare = record v { spare = spare }

-- the draw seat in a place: the first one, and fresh ones behind it
pub record IsHandedOut (d : DrawsView) (first : DrawView) (place : ℕ) (v : SeatView) : Type 0 where
  pub of_draws : IsSeatOf d v
  pub is_first : place ≡ 0 → v.knows ≡ first
  pub fresh : 0 < place → IsFresh v.knows

abbrev pub IsHandedWork : DrawsView → DrawView → ℕ → Work → Type 0
IsHandedWork d first place (Drawing v) = IsHandedOut d first place v
IsHandedWork d first place Idle = ⊥
IsHandedWork d first place (Drawn v readings) = ⊥

-- what comes back of it
pub record ComesBack (d : DrawsView) (s : SectionsView) (window : ℕ) (first : DrawView) (place : ℕ) (v : SeatView) (readings : List Reading) : Type 0 where
  pub before : SeatView
  pub handed : IsHandedOut d first place before
  pub served : ServesWindow d s window before.knows v readings

abbrev pub ComesBackWork : DrawsView → SectionsView → ℕ → DrawView → ℕ → Work → Type 0
ComesBackWork d s window first place (Drawn v readings) = ComesBack d s window first place v readings.items
ComesBackWork d s window first place Idle = Unit {0}
ComesBackWork d s window first place (Drawing v) = Unit {0}

-- each of them comes back
abbrev pub EachComesBack : DrawsView → SectionsView → ℕ → DrawView → List DumpSeatView → Type 0
EachComesBack d s window first seats = (i : ℕ) (seat : DumpSeatView) → i < length seats
    → ComesBackWork d s window first i (slice_index_or seats i seat).work

-- the pass notes what was read of its work
abbrev pub NotesWork : SectionsView → PassView → Work → Type 0
NotesWork s p (Drawn v readings) = NotesReadings s p readings.items
NotesWork s p Idle = Unit {0}
NotesWork s p (Drawing v) = Unit {0}

abbrev pub EachNotes : SectionsView → List DumpSeatView → Type 0
EachNotes s seats = (i : ℕ) (seat : DumpSeatView) → i < length seats
    → NotesWork s (slice_index_or seats i seat).pass (slice_index_or seats i seat).work

-- each unit that was read is noted by some seat
abbrev pub SomeNotesReadings : SectionsView → List DumpSeatView → List Reading → Type 0
SomeNotesReadings s seats readings = RefusesNone s → All (λ (r : Reading). SomeSeatNotesUnit s r.unit seats) readings

-- a draw seat that comes back may be joined into the first one
abbrev pub MayJoinWork : DrawsView → ℕ → Work → Type 0
MayJoinWork d place (Drawn v readings) = IsSeatOf d v × (0 < place → v.knows.number ≢ 0)
MayJoinWork d place Idle = Unit {0}
MayJoinWork d place (Drawing v) = Unit {0}

-- the worker was not stopped by want of memory
abbrev pub IsDrawnWork : Work → Type 0
IsDrawnWork (Drawn v readings) = Unit {0}
IsDrawnWork Idle = ⊥
IsDrawnWork (Drawing v) = ⊥

-- What was gathered of so many seats behind the first one: the units that they drew are those that they read.
pub record IsGathered (d : DrawsView) (s : SectionsView) (window : ℕ) (first : DrawView) (others : ℕ) (v : SeatView) (readings : List Reading) : Type 0 where
  pub of_draws : IsSeatOf d v
  pub number : v.knows.number ≡ first.number
  pub spare : v.knows.spare ≡ first.spare
  pub numbers : length v.knows.numbers ≡ length first.numbers + others
  pub drawn : (u : ℕ) → occurrences u v.knows.drawn ≡ occurrences u first.drawn + occurrences u (units_read readings)
  pub ended : (w : ℕ) → w ≢ window → occurrences w v.knows.ended ≡ occurrences w first.ended
  pub sees : 0 < occurrences window v.knows.ended
  pub all : HasEverySeat v.knows → HasDrawnWindow v.knows window
  pub each : All (IsReading s window) readings

-- # Between two windows

-- the first draw seat before a window: nothing of the windows from it on was drawn, and enough seats are left
pub record StandsBefore (d : DrawsView) (window : ℕ) (v : SeatView) : Type 0 where
  pub of_draws : IsSeatOf d v
  pub number : v.knows.number ≡ 0
  pub some : 0 < length v.knows.numbers
  pub made : length v.knows.numbers + v.knows.spare ≡ d.sizes.seats
  pub enough : MOST_SEATS ≤ 1 + v.knows.spare + 63 * window
  pub drawn : (u : ℕ) → WINDOW * window ≤ u → occurrences u v.knows.drawn ≡ 0
  pub ended : (w : ℕ) → window ≤ w → occurrences w v.knows.ended ≡ 0

-- what was read of a window: each of its units once, and nothing else
pub record ReadsWindow (s : SectionsView) (window : ℕ) (readings : List Reading) : Type 0 where
  pub each : All (IsReading s window) readings
  pub once : (u : ℕ) → WINDOW * window ≤ u → u < WINDOW * (window + 1) → u < unit_count s.info s.order
      → occurrences u (units_read readings) ≡ 1

-- each unit of the window is noted by some seat
abbrev pub NoteWindow : SectionsView → ℕ → List DumpSeatView → Type 0
NoteWindow s window seats = (u : ℕ) → WINDOW * window ≤ u → u < WINDOW * (window + 1) → u < unit_count s.info s.order
    → SomeSeatNotesUnit s u seats

-- each unit below this one is noted by some seat
abbrev pub NoteBelow : SectionsView → ℕ → List DumpSeatView → Type 0
NoteBelow s end seats = (u : ℕ) → u < end → u < unit_count s.info s.order → SomeSeatNotesUnit s u seats
