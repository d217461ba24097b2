use Rattle.std.proofs.Common.{ap}
use Rattle.entry_tree.specs.Views.{attr_view}
use Rattle.unit_text.specs.Lists.{attr_lists}
use Rattle.unit_text.specs.MadeLaws.{passed_piece}
use Rattle.unit_text.specs.UnitStreams.{MadeLists}
use Rattle.unit_text.proofs.list_sink.ListSink.put_list.Goals as goal

pub returns-then-is_some-clause-piece : goal.returns-then-is_some-clause-piece
returns-then-is_some-clause-piece c =
    let m = c.args.self.now in
    passed_piece c.is_some.result c.self.inside.text.items c.self.inside.refused m.made (attr_lists m.made.unit m.place (attr_view c.args.attr.now))
    (ap (λ (m : MadeLists). m.made.text) c.self.view_is) c.is_some.ensures c.if-is_some.true
