use Rattle.std.proofs.Common.{Ok, Err, arith}
use Rattle.unit_text.proofs.Loops.{texts_next, texts_stop, texts_end}
use Rattle.unit_text.specs.Lists.{range_line}
use Rattle.unit_text.proofs.lists.put_range_lines.Goals as goal

pub loop-range-init : goal.loop-range-init
loop-range-init c = λ r new p. p

pub loop-range-preserved : goal.loop-range-preserved
loop-range-preserved c = λ r new p. c.loop-range.invariant r new (texts_next (range_line) c.args.ranges.now c.loop-range.range-index _ r _ _ new c.loop-range-test.true c.in-Ok.ensures p)

pub returns-in-Err : goal.returns-in-Err
returns-in-Err c = c.loop-range.invariant (Err c.in-Err.refusal) c.put_range_line.new.out.items (texts_stop (range_line) c.args.ranges.now c.loop-range.range-index _ _ _ _ c.loop-range-test.true c.in-Err.ensures)

pub returns : goal.returns
returns c = c.loop-range.invariant (Ok tt) _ (texts_end (range_line) c.args.ranges.now c.loop-range.range-index _ (omega arith))
