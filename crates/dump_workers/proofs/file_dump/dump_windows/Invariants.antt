use Rattle.std.proofs.Common.{◌≡◌, ◌≤◌, ◌*◌, ◌^◌, length, Ok, None}
use Rattle.handle_cache.specs.Handles.{sections_in}
use Rattle.dump_workers.specs.Dumps.{Prints, dump_from}
use Rattle.dump_workers.specs.FileKeys.{RefusesNone}
use Rattle.dump_workers.specs.Seats.{EachBelongs, EachCounts, EachFollows, EachGains}
use Rattle.dump_workers.specs.UnitDumps.{entries_from}
use Rattle.dump_workers.specs.Windows.{NoteBelow, StandsBefore}
use Rattle.dump_workers.proofs.WindowSums.{units_below}
use Rattle.dump_workers.proofs.file_dump.dump_windows.Given as goal

-- the units of the windows so far were printed and counted, and the seats note them
abbrev pub invariant-windows : goal.invariant-windows
invariant-windows g l = record {
  printed : Prints (Ok None) (dump_from (sections_in l.handle) 0 (units_below l.units l.window)) (g.O.Sink.held l.fn.out) (g.O.Sink.held l.out);
  entries : l.entries ≡ entries_from (sections_in l.handle) 0 (units_below l.units l.window);
  room : l.entries ≤ units_below l.units l.window * 2 ^ 32;
  belong : EachBelongs l.handle l.seats.items;
  follow : EachFollows l.fn.seats.items l.seats.items;
  gains : EachGains (sections_in l.handle) l.fn.seats.items l.seats.items;
  counts : EachCounts (sections_in l.handle) l.fn.seats.items l.seats.items;
  noted : RefusesNone (sections_in l.handle) → NoteBelow (sections_in l.handle) (units_below l.units l.window) l.seats.items;
  stands : StandsBefore l.draws l.window l.first;
  size : length l.seats.items ≡ length l.fn.seats.items;
  later : g.O.Sink.faults l.fn.out ≤ g.O.Sink.faults l.out;
}
