-- What workers are given, what they leave, and what comes back.
use Rattle.std.specs.Prelude.{◌≡◌, ℕ, zero, suc, ◌+◌, ◌<◌, List, length, slice_index_or}
use Rattle.std.proofs.Common.{Vec, Global, arith, add-one}
use Rattle.map_cells.specs.Seen.{PassView, Follows}
use Rattle.handle_cache.specs.Handles.{HandleView, Belongs, sections_in}
use Rattle.unit_draws.specs.Seats.{DrawsView, SeatView}
use Rattle.dump_workers.specs.declared.reading.Reading.{Reading}
use Rattle.dump_workers.specs.declared.seat.Work.TheVariants.{Drawing, Drawn}
use Rattle.dump_workers.specs.FileKeys.{CountsUnits, GainsUnits}
use Rattle.dump_workers.specs.Seats.{DumpSeatView}
use Rattle.dump_workers.specs.Windows.{EachServed, LeavesServed, NotesReadings, ServesWindow}

-- a worker that drew and read to the window's end
pub leaves_drawn : (h : HandleView) (d : DrawsView) (window : ℕ) (old new : DumpSeatView) (before v : SeatView) (readings : Vec Reading Global) (p : PassView) (steps : ℕ)
    → old.work ≡ Drawing before → new ≡ record { pass = p; steps = steps; work = Drawn v readings }
    → Belongs h p → Follows old.pass p → ServesWindow d (sections_in h) window before.knows v readings.items
    → NotesReadings (sections_in h) p readings.items → GainsUnits (sections_in h) old.pass p → CountsUnits (sections_in h) old.pass old.steps steps
    → LeavesServed h d window old new
leaves_drawn h d window old new before v readings p steps was is belongs follows serves notes gains counts =
    rw is (record {
      belongs = belongs;
      follows = follows;
      counts = counts;
      served = rw was (serves, notes, gains);
    })

-- # The first seat and the others

pub parts_served : (h : HandleView) (d : DrawsView) (window : ℕ) (old new : List DumpSeatView) → length new ≡ length old
    → ((e : DumpSeatView) → LeavesServed h d window (slice_index_or old 0 e) (slice_index_or new 0 e))
    → ((i : ℕ) (e : DumpSeatView) → i + 1 < length old → LeavesServed h d window (slice_index_or old (i + 1) e) (slice_index_or new (i + 1) e))
    → EachServed h d window old new
parts_served h d window old new same first others = record {
  size = same;
  each = each;
}
  where
    each : (i : ℕ) (e : DumpSeatView) → i < length old → LeavesServed h d window (slice_index_or old i e) (slice_index_or new i e)
    each zero e inside = first e
    each (suc i) e inside = rw (add-one i) at (others i e (omega (arith, inside)))
