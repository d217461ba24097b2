use Rattle.std.proofs.Common.{refl}
use Rattle.dwtool_c.proofs.SoFar.{first_piece}
use Rattle.dwtool_c.proofs.texts.put_whole.Goals as goal

pub returns : goal.returns
returns c = (first_piece c.args.text.now c.args.out.now c.put_behind.new.out c.in_ok-size.size c.in_ok-size.ensures, refl)
