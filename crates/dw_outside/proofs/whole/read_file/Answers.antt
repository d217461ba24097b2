use Rattle.std.proofs.Common.{◌∙◌, arith}
use Rattle.std.proofs.lemmas.List.{length-take}
use Rattle.dw_outside.proofs.Pieces.{IsFront-more}
use Rattle.dw_outside.proofs.whole.read_file.Goals as goal

pub pieces-preserved : goal.pieces-preserved
pieces-preserved g c = record {
  within =
      let size = rw length-take at c.in-Ok-add_piece.ensures.len in
      let room = rw length-take at c.read.auto.into in
      omega (arith, size, room, c.in-Ok.ensures.bytes.bound, c.min-room.ensures, c.len-in-pieces.ensures, c.pieces.invariant.within);
  front = IsFront-more (g.S.Source.holds c.args.source.now c.args.name.now) (g.S.Source.holds c.pieces.source c.args.name.now) c.pieces.file.items c.add_piece.new.file.items c.read.new.into _ c.len-in-pieces-2.result c.in-Ok.count c.pieces.invariant.front (c.pieces.invariant.same c.args.name.now) (c.len-in-pieces-2.ensures ∙ c.pieces.file.ok.0) c.in-Ok.ensures.bytes c.in-Ok-add_piece.ensures.ok;
  same = λ other. c.in-Ok.ensures.same other ∙ c.pieces.invariant.same other;
  later = omega (arith, c.pieces.invariant.later, c.in-Ok.ensures.cause.later);
}
