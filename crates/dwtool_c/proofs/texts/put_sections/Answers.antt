use Rattle.std.proofs.Common.{None, arith}
use Rattle.dwtool_c.proofs.SoFar.{lines_end, lines_next, put_all, put_next}
use Rattle.dwtool_c.proofs.texts.put_sections.Goals as goal

pub sections-preserved : goal.sections-preserved
sections-preserved c = record {
  number = omega (arith, c.sections.invariant.number);
  so_far = put_next _ _ _ c.as_slice.result.now _ _ _ _ _ c.sections.invariant.so_far
      (lines_next c.args.sections.now c.sections.section-index _ _ _ _ c.sections.number c.sections-test.true
      c.clear.ensures.items c.in-Ok.ensures.ok c.as_slice.ensures.value c.sections.invariant.number)
      c.in-Ok-put_behind.ensures;
}

pub returns : goal.returns
returns c = put_all _ _ _ _ _ None c.sections.invariant.so_far (lines_end c.args.sections.now c.sections.section-index c.sections-test.false)
