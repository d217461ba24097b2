use Rattle.std.proofs.Common.{refl}
use Rattle.entry_tree.specs.Views.{attr_view}
use Rattle.visit_queries.proofs.NamedSteps.{attr_more}
use Rattle.visit_queries.proofs.named_entries.NamedEntriesEntrySink.add.Goals as goal

pub returns : goal.returns
returns c = λ x e began. attr_more x c.args.self.now _ e (attr_view c.args.attr) refl refl refl c.first_name-self.ensures began
