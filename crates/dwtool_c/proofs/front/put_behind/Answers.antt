use Rattle.std.proofs.Common.{rules}
use Rattle.dwtool_c.proofs.Fitted.{front_grows}
use Rattle.dwtool_c.proofs.front.put_behind.Goals as goal

pub returns-then-size-out : goal.returns-then-size-out
returns-then-size-out c =
    front_grows c.args.bytes.now c.args.out.now c.fill_front.new.out c.args.size c.in-Some.end
    c.if-size-out.true c.fill_front.ensures (search rules)
