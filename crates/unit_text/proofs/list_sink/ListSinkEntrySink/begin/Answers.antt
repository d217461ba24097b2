use Rattle.std.proofs.Common.{refl, ap}
use Rattle.entry_tree.specs.Taken.{begun}
use Rattle.unit_text.specs.UnitStreams.{MadeLists}
use Rattle.unit_text.proofs.StreamLaws.{lists_begun}
use Rattle.unit_text.proofs.list_sink.ListSinkEntrySink.begin.Goals as goal

pub returns : goal.returns
returns c = lists_begun c.args.self.now _ (begun c.args.head) refl (ap (λ (m : MadeLists). m.made) c.self.view_is) refl
