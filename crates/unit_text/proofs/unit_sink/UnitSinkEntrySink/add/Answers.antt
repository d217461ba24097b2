use Rattle.entry_tree.specs.Taken.{with_attr}
use Rattle.entry_tree.specs.Views.{attr_view}
use Rattle.unit_text.specs.MadeLaws.{added_attr, entry_more}
use Rattle.unit_text.specs.Units.{attr_text, entry_text}
use Rattle.unit_text.proofs.StreamLaws.{on_ok}
use Rattle.unit_text.proofs.unit_sink.UnitSinkEntrySink.add.Goals as goal

pub returns : goal.returns
returns c =
    let u = c.args.self.now.unit in
    let a = attr_view c.args.attr in
    on_ok c.put_attr.result (λ q x e p. added_attr entry_text x c.args.self.now c.put_attr.new.self e (with_attr e a) (attr_text u a) (entry_more u e a) p q) c.put_attr.ensures
