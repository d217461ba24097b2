use Rattle.std.specs.Prelude.{Ok}
use Rattle.unit_text.proofs.TableLaws.{pairs_then, pairs_end}
use Rattle.unit_text.proofs.declaration_text.push_pairs.Goals as goal

pub loop-pair-preserved : goal.loop-pair-preserved
loop-pair-preserved c = λ r new p.
    c.loop-pair.invariant r new (pairs_then r c.loop-pair.out.items c.push_pair.new.out.items new c.in-Some.pair c.loop-pair.attrs c.next.new.self c.in-Some.ensures c.in_ok-push_pair.ensures p)

pub returns : goal.returns
returns c = c.loop-pair.invariant (Ok tt) c.loop-pair.out.items (pairs_end c.loop-pair.out.items c.loop-pair.attrs c.in_default.ensures.0)
