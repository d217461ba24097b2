use Rattle.std.proofs.Common.{arith, sym, ◌∙◌}
use Rattle.row_index.proofs.Cuts.{cut_at, rises_more}
use Rattle.row_index.proofs.rows.run_length.Goals as goal

pub returns-then-breaks-clause-cut : goal.returns-then-breaks-clause-cut
returns-then-breaks-clause-cut c = cut_at c.args.rows.now c.loop-place.place _ _ (omega arith) c.loop-place-test.true (sym c.breaks.ensures ∙ c.if-breaks.true)

pub loop-place-preserved : goal.loop-place-preserved
loop-place-preserved c = rises_more c.args.rows.now c.loop-place.place _ _ (omega arith) c.loop-place-test.true (sym c.breaks.ensures ∙ c.if-breaks.false) c.loop-place.invariant
