use Rattle.std.proofs.Common.{Ok, ap}
use Rattle.entry_tree.specs.Taken.{begun}
use Rattle.unit_text.specs.Units.{entry_line}
use Rattle.unit_text.specs.MadeLaws.{passed_piece}
use Rattle.unit_text.specs.UnitStreams.{Made}
use Rattle.unit_text.proofs.unit_sink.UnitSink.put_line.Goals as goal

pub returns-then-is_some : goal.returns-then-is_some
returns-then-is_some c =
    passed_piece c.is_some.result c.self.inside.text.items c.self.inside.refused c.args.self.now (Ok (entry_line (begun c.args.head))) (ap (λ (m : Made). m.text) c.self.view_is) c.is_some.ensures c.if-is_some.true
