use Rattle.std.proofs.Common.{◌≡◌, ◌++◌}
use Rattle.exercise_file.specs.Generated.{pieces}
use Rattle.exercise_file.proofs.pieces.push_pieces.Given as goal

abbrev pub invariant-loop-number : goal.invariant-loop-number
invariant-loop-number g l = l.out.items ≡ l.fn.out.items ++ pieces g.P.Piece.bytes l.number
