use Rattle.entry_tree.specs.Views.{attr_view}
use Rattle.unit_text.proofs.StreamLaws.{lists_added}
use Rattle.unit_text.proofs.list_sink.ListSinkEntrySink.add.Goals as goal

pub returns : goal.returns
returns c = lists_added c.put_list.result c.args.self.now c.put_list.new.self (attr_view c.args.attr) c.put_list.ensures.piece c.put_list.ensures.place
