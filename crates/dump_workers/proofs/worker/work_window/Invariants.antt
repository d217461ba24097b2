use Rattle.std.proofs.Common.{◌≡◌, ◌+◌, ℕ, All}
use Rattle.unit_draws.specs.Seats.{IsSeatOf, KeepsNumbers, occurrences, places_ahead}
use Rattle.map_cells.specs.Seen.{Follows}
use Rattle.handle_cache.specs.Handles.{Belongs, sections_in}
use Rattle.dump_workers.specs.FileKeys.{CountsUnits, GainsUnits}
use Rattle.dump_workers.specs.Readings.{IsReading, units_read}
use Rattle.dump_workers.specs.Windows.{NotesReadings}
use Rattle.dump_workers.proofs.worker.work_window.Given as goal

-- the units that were drawn so far are those that were read
abbrev pub invariant-units : goal.invariant-units
invariant-units g l = record {
  belongs : Belongs l.handle l.pass;
  follows : Follows l.fn.pass l.pass;
  of_draws : IsSeatOf l.draws l.seat;
  keeps : KeepsNumbers l.fn.seat.knows l.seat.knows;
  ended : l.seat.knows.ended ≡ l.fn.seat.knows.ended;
  drawn : (u : ℕ) → occurrences u l.seat.knows.drawn ≡ occurrences u l.fn.seat.knows.drawn + occurrences u (units_read l.readings.items);
  each : All (IsReading (sections_in l.handle) l.window) l.readings.items;
  noted : NotesReadings (sections_in l.handle) l.pass l.readings.items;
  gains : GainsUnits (sections_in l.handle) l.fn.pass l.pass;
  counts : CountsUnits (sections_in l.handle) l.fn.pass l.fn.steps l.steps;
  walks : l.walker ≡ (sections_in l.handle).«abbrev»;
  goes : g.D.Desk.goes l.fn.desk l.desk;
}

abbrev pub decreases-units : goal.decreases-units
decreases-units g l = places_ahead l.window l.seat.knows
