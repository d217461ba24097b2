use Rattle.std.proofs.Common.{◌≤◌, ◌++◌, List, ℕ, Option, Result}
use Rattle.dw_outside.specs.declared.stops.WriteStop.{WriteStop}
use Rattle.dw_run.specs.declared.refusals.Refusal.{Refusal}
use Rattle.dw_run.specs.CommandTexts.{Prints, whole}
use Rattle.dw_run.proofs.LinesSent.{lines_from}
use Rattle.dw_run.proofs.addresses.print_lines.Given as goal

-- what is kept, and then what is printed of the addresses from this one on, makes up what is printed of all
abbrev pub invariant-addresses : goal.invariant-addresses
invariant-addresses g l = record {
  printed : (r : Result (Option Refusal) WriteStop) (new : Option (List ℕ)) →
      Prints r (whole (l.text.items ++ lines_from l.index l.addresses l.address-index)) (g.O.Sink.held l.out) new →
      Prints r (whole (lines_from l.index l.addresses 0)) (g.O.Sink.held l.fn.out) new;
  later : g.O.Sink.faults l.fn.out ≤ g.O.Sink.faults l.out;
}
