use Rattle.range_lists.proofs.PastLaws.{location_list-IsList}
use Rattle.range_lists.proofs.laws.locations_are_their_entries.Goals as goal

pub returns : goal.returns
returns c = λ context base sized. location_list-IsList context sized base c.args.section.now c.args.order c.args.offset
