use Rattle.std.proofs.Common.{◌≡◌, ◌≤◌, ◌<◌, ◌+◌, ◌-◌, ◌*◌, ◌^◌, ℕ, List, Option, Result}
use Rattle.map_cells.specs.Seen.{Follows}
use Rattle.handle_cache.specs.Handles.{Belongs, sections_in}
use Rattle.dump_workers.specs.declared.ends.DumpFault.{DumpFault}
use Rattle.dump_workers.specs.declared.ends.RefusedUnit.{RefusedUnit}
use Rattle.dump_workers.specs.Dumps.{Prints, dump_from}
use Rattle.dump_workers.specs.FileKeys.{CountsUnits, GainsUnits, NotesUnit}
use Rattle.dump_workers.specs.UnitDumps.{entries_from}
use Rattle.dump_workers.proofs.alone.dump_units.Given as goal

-- what is printed from this unit on makes up what is printed of all, and the pass notes those before it
abbrev pub invariant-units : goal.invariant-units
invariant-units g l = record {
  printed : (r : Result (Option RefusedUnit) DumpFault) (new : Option (List ℕ)) →
      Prints r (dump_from (sections_in l.handle) l.unit (l.units - l.unit)) (g.O.Sink.held l.out) new →
      Prints r (dump_from (sections_in l.handle) 0 l.units) (g.O.Sink.held l.fn.out) new;
  entries : l.entries + entries_from (sections_in l.handle) l.unit (l.units - l.unit) ≡ entries_from (sections_in l.handle) 0 l.units;
  room : l.entries ≤ l.unit * 2 ^ 32;
  belongs : Belongs l.handle l.pass;
  follows : Follows l.fn.pass l.pass;
  gains : GainsUnits (sections_in l.handle) l.fn.pass l.pass;
  counts : CountsUnits (sections_in l.handle) l.fn.pass l.fn.steps l.steps;
  walks : l.walker ≡ (sections_in l.handle).«abbrev»;
  noted : (u : ℕ) → u < l.unit → NotesUnit (sections_in l.handle) u l.pass;
  later : g.O.Sink.faults l.fn.out ≤ g.O.Sink.faults l.out;
}
