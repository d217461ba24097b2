use Rattle.std.proofs.Common.{sym, ◌∙◌}
use Rattle.visit_queries.specs.Shown.{shown_entry}
use Rattle.visit_queries.proofs.Showing.{seen_more, seen_enough}
use Rattle.visit_queries.proofs.show.show.Goals as goal

pub returns-in-Ok-Enough-clause-shown : goal.returns-in-Ok-Enough-clause-shown
returns-in-Ok-Enough-clause-shown g c = λ others.
    sym (c.loop-entry.invariant.shown others)
    ∙ seen_enough _ shown_entry c.args.entries.now c.loop-entry.entry-index others _ _ _ _ _ c.loop-entry.invariant.same_step c.loop-entry-test.true
    c.in-Ok-Enough.ensures.step c.in-Ok-Enough.field-0-is

pub loop-entry-preserved : goal.loop-entry-preserved
loop-entry-preserved g c = record {
  shown = λ others.
      sym (seen_more _ shown_entry c.args.entries.now c.loop-entry.entry-index others _ _ _ _ _ c.loop-entry.invariant.same_step c.loop-entry-test.true
      c.in-Ok-More.ensures.step c.in-Ok-More.field-0-is)
      ∙ c.loop-entry.invariant.shown others;
  same_step = λ e s. c.in-Ok-More.ensures.same_step e s ∙ c.loop-entry.invariant.same_step e s;
  same_text = λ s. c.in-Ok-More.ensures.same_text s ∙ c.loop-entry.invariant.same_text s;
}
