use Rattle.share_map.proofs.PointLemmas.{rises_follow, rises_rest}
use Rattle.share_map.proofs.table.Table.shape.Goals as goal

pub returns-clause-rest : goal.returns-clause-rest
returns-clause-rest g c = rises_rest c.args.pass.now.knows c.current-current.new.pass.knows c.current-current.ensures.seen.rises c.requires.rest

pub returns-clause-follows : goal.returns-clause-follows
returns-clause-follows g c = rises_follow c.args.pass.now c.current-current.new.pass c.current-current.ensures.table c.current-current.ensures.seen.rises
