use Rattle.std.proofs.Common.{◌≡◌, ◌≤◌, List, ℕ, Option, Result}
use Rattle.dw_outside.specs.declared.stops.WriteStop.{WriteStop}
use Rattle.dw_run.specs.declared.refusals.Refusal.{Refusal}
use Rattle.dw_run.specs.CommandTexts.{Prints, whole}
use Rattle.dw_run.proofs.SectionsText.{lines_from}
use Rattle.dw_run.proofs.section_lines.print_sections.Given as goal

-- what is printed from this section on makes up what is printed of all sections
abbrev pub invariant-sections : goal.invariant-sections
invariant-sections g l = record {
  number : l.number ≡ l.section-index;
  printed : (r : Result (Option Refusal) WriteStop) (new : Option (List ℕ)) →
      Prints r (whole (lines_from l.sections l.section-index)) (g.O.Sink.held l.out) new →
      Prints r (whole (lines_from l.sections 0)) (g.O.Sink.held l.fn.out) new;
  later : g.O.Sink.faults l.fn.out ≤ g.O.Sink.faults l.out;
}
