use Rattle.std.proofs.Common.{IfOk, ℕ, subst}
use Rattle.dwtool_c.specs.Answers.{IsTold, on_unit_numbered}
use Rattle.dwtool_c.specs.Texts.{unit_text}
use Rattle.dwtool_c.proofs.unit_texts.told_text.Goals as goal

pub returns : goal.returns
returns c =
    subst (λ s. IfOk c.told_among.result (λ t. IsTold {A = ℕ} (on_unit_numbered (unit_text c.args.command) c.args.unit s) t.status t.items.items t.refusal))
    c.in_ok-units.ensures c.told_among.ensures
