use Rattle.std.proofs.Common.{◌≡◌}
use Rattle.dwtool_c.proofs.SoFar.{SoFar, lines_from}
use Rattle.dwtool_c.proofs.texts.put_sections.Given as goal

abbrev pub invariant-sections : goal.invariant-sections
invariant-sections l = record {
  number : l.number ≡ l.section-index;
  so_far : SoFar (lines_from l.sections 0) (lines_from l.sections l.section-index) l.fn.out l.out l.size;
}
