use Rattle.exercise_file.proofs.Steps.{pieces_step}
use Rattle.exercise_file.proofs.pieces.push_pieces.Goals as goal

pub loop-number-preserved : goal.loop-number-preserved
loop-number-preserved g c = pieces_step g.P.Piece.bytes c.args.out.now.items c.loop-number.out.items c.push.new.out.items c.loop-number.number c.loop-number.invariant c.in_ok-push.ensures
