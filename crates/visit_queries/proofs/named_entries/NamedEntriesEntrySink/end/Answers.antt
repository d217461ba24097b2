use Rattle.std.proofs.Common.{refl}
use Rattle.visit_queries.specs.Shown.{shown_entry}
use Rattle.visit_queries.proofs.NamedSteps.{ends_refused, ends_shown, on_ok}
use Rattle.visit_queries.proofs.named_entries.NamedEntriesEntrySink.end.Goals as goal

pub returns-in-Ok : goal.returns-in-Ok
returns-in-Ok c =
    on_ok c.add_view.result
    (λ added. λ x e began. ends_shown x c.args.self.now e began _ (shown_entry c.in-Ok.view) refl refl added c.in-Ok.ensures)
    c.add_view.ensures

pub returns-in-Err : goal.returns-in-Err
returns-in-Err c = λ x e began. ends_refused x c.args.self.now e began _ c.in-Err.fault refl (rw c.first_refusal.ensures refl) c.in-Err.ensures
