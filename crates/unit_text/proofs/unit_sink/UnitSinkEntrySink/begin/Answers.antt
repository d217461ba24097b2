use Rattle.std.proofs.Common.{refl, subst}
use Rattle.entry_tree.specs.Taken.{begun}
use Rattle.unit_text.specs.MadeLaws.{entry_begun}
use Rattle.unit_text.specs.Pieces.{Text}
use Rattle.unit_text.specs.UnitStreams.{AddedPiece}
use Rattle.unit_text.proofs.StreamLaws.{on_ok}
use Rattle.unit_text.proofs.unit_sink.UnitSinkEntrySink.begin.Goals as goal

pub returns : goal.returns
returns c =
    let P : Text → Type 0 = λ t. AddedPiece c.args.self.now c.put_line.new.self t in
    on_ok c.put_line.result (subst P (entry_begun c.args.self.now.unit (begun c.args.head) refl)) c.put_line.ensures
