use Rattle.std.proofs.Common.{◌≡◌, arith, ap}
use Rattle.unit_text.specs.MadeLaws.{added_entry}
use Rattle.unit_text.specs.UnitStreams.{Made}
use Rattle.unit_text.specs.Units.{entry_text}
use Rattle.unit_text.proofs.unit_sink.UnitSinkEntrySink.end.Goals as goal

pub returns : goal.returns
returns c = λ x e p.
    let same : c.self.inside.entries ≡ c.args.self.now.entries = ap (λ (m : Made). m.entries) c.self.view_is in
    added_entry entry_text x c.args.self.now _ e p (ap (λ (m : Made). m.unit) c.self.view_is) (ap (λ (m : Made). m.text) c.self.view_is)
    (λ small. omega (arith, same, small))
