use Rattle.std.proofs.Common.{Ok, Err, None, refl, arith}
use Rattle.dw_outside.specs.GainsLaws.{GainsPart-nothing, Gains-nothing}
use Rattle.dw_outside.specs.declared.stops.WriteStop.TheVariants as write_stops
use Rattle.dw_run.proofs.SectionsText.{sections_next, sections_cut, sections_end, line_is}
use Rattle.dw_run.proofs.section_lines.print_sections.Goals as goal

pub sections-init : goal.sections-init
sections-init g c = record {
  number = refl;
  printed = λ r new p. p;
  later = omega arith;
}

pub returns-in-Err-clause-printed : goal.returns-in-Err-clause-printed
returns-in-Err-clause-printed g c =
    c.sections.invariant.printed (Err write_stops.OutOfMemory) _ (GainsPart-nothing _ _ _ (Gains-nothing _))

pub returns-in-Err-write_all-clause-printed : goal.returns-in-Err-write_all-clause-printed
returns-in-Err-write_all-clause-printed g c =
    c.sections.invariant.printed (Err c.in-Err-write_all.stop) _
    (sections_cut c.args.sections.now c.sections.section-index _ c.as_slice.result.now _ _ c.in-Err-write_all.stop c.sections-test.true
    (line_is _ _ _ _ c.sections.section-index _ c.clear.ensures.items c.in-Ok.ensures.ok c.as_slice.ensures.value c.sections.invariant.number)
    c.in-Err-write_all.ensures.part)

pub sections-preserved : goal.sections-preserved
sections-preserved g c = record {
  number = omega arith;
  printed = λ r new p. c.sections.invariant.printed r new
      (sections_next c.args.sections.now c.sections.section-index _ c.as_slice.result.now _ _ r new c.sections-test.true
      (line_is _ _ _ _ c.sections.section-index _ c.clear.ensures.items c.in-Ok.ensures.ok c.as_slice.ensures.value c.sections.invariant.number)
      c.in-Ok-write_all.ensures.whole p);
  later = omega arith;
}

pub returns-clause-printed : goal.returns-clause-printed
returns-clause-printed g c = c.sections.invariant.printed (Ok None) _ (sections_end c.args.sections.now c.sections.section-index _ c.sections-test.false)
