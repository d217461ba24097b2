use Rattle.std.proofs.Common.{ap}
use Rattle.entry_tree.specs.Views.{attr_view}
use Rattle.unit_text.specs.Units.{attr_text}
use Rattle.unit_text.specs.MadeLaws.{passed_piece}
use Rattle.unit_text.specs.UnitStreams.{Made}
use Rattle.unit_text.proofs.unit_sink.UnitSink.put_attr.Goals as goal

pub returns-then-is_some : goal.returns-then-is_some
returns-then-is_some c =
    passed_piece c.is_some.result c.self.inside.text.items c.self.inside.refused c.args.self.now (attr_text c.args.self.now.unit (attr_view c.args.attr.now)) (ap (λ (m : Made). m.text) c.self.view_is) c.is_some.ensures c.if-is_some.true
