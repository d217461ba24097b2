use Rattle.range_lists.proofs.PastLaws.{range_list-IsList}
use Rattle.range_lists.proofs.laws.ranges_are_their_entries.Goals as goal

pub returns : goal.returns
returns c = λ context base sized. range_list-IsList context sized base c.args.section.now c.args.order c.args.offset
