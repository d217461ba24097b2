use Rattle.std.proofs.Common.{◌≡◌, arith, ap}
use Rattle.unit_text.specs.Lists.{entry_lists}
use Rattle.unit_text.specs.MadeLaws.{added_entry}
use Rattle.unit_text.specs.UnitStreams.{MadeLists}
use Rattle.unit_text.proofs.list_sink.ListSinkEntrySink.end.Goals as goal

pub returns : goal.returns
returns c = λ x e p.
    let same : c.self.inside.entries ≡ c.args.self.now.made.entries = ap (λ (m : MadeLists). m.made.entries) c.self.view_is in
    added_entry entry_lists x.made c.args.self.now.made _ e p.lists (ap (λ (m : MadeLists). m.made.unit) c.self.view_is) (ap (λ (m : MadeLists). m.made.text) c.self.view_is)
    (λ small. omega (arith, same, small))
