use Rattle.abbrev_decl.proofs.PairLaws.{pairs_law}
use Rattle.abbrev_decl.proofs.pairs.pairs_end_at_first_zero_pair.Goals as goal

pub returns : goal.returns
returns c = pairs_law c.args.section.now c.args.place
