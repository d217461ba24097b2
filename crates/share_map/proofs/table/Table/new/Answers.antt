use Rattle.share_map.proofs.PointLemmas.{is_new}
use Rattle.share_map.proofs.table.Table.new.Goals as goal

pub returns : goal.returns
returns g c = is_new c.of-layout.result c.args.capacity c.args.passes (g.F.Facts.tag c.args.facts.now) _ _ c.of-layout.ensures.capacity c.of-layout.ensures.passes c.in_ok-cells.ensures
