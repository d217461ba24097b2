use Rattle.std.proofs.Common.{arith, length-drop}
use Rattle.dw_outside.specs.GainsLaws.{Gains-more}
use Rattle.dw_outside.proofs.Pieces.{rest_of}
use Rattle.dw_outside.proofs.whole.write_all.Goals as goal

pub pieces-preserved : goal.pieces-preserved
pieces-preserved g c =
    let taken = rw (rest_of c.pieces.done c.args.bytes.now) at c.in-Ok.ensures.taken in
    record {
      within = omega (arith, length-drop c.pieces.done c.args.bytes.now, taken.0, c.pieces.invariant.within);
      gained = Gains-more (g.O.Sink.held c.args.sink.now) (g.O.Sink.held c.pieces.sink) (g.O.Sink.held c.write.new.self) c.args.bytes.now c.pieces.done c.in-Ok.count c.pieces.invariant.gained taken.2;
      later = omega (arith, c.pieces.invariant.later, c.in-Ok.ensures.cause.later);
    }
