use Rattle.share_map.proofs.PointLemmas.{put_together}
use Rattle.share_map.proofs.table.Table.join.Goals as goal

pub returns-clause-own : goal.returns-clause-own
returns-clause-own g c = put_together g.F.Facts.fits c.args.into.now.knows c.args.from.knows c.join.new.into.knows c.join.ensures.passes
