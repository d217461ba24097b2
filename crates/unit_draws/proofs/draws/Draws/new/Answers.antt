use Rattle.std.proofs.Common.{◌≡◌, ◌∙◌, List, ℕ, ap, length}
use Rattle.unit_draws.specs.declared.view.AboutDraws.{AboutDraws}
use Rattle.unit_draws.specs.Windows.{first_words}
use Rattle.unit_draws.proofs.FirstWords.{first_length}
use Rattle.unit_draws.proofs.LeastSteps.{rule_opens}
use Rattle.unit_draws.proofs.draws.Draws.new.Goals as goal

pub of_words-requires : goal.of_words-requires
of_words-requires g c = rule_opens _ _ c.as_slice.result.now c.requires.0 c.requires.1 (c.as_slice.ensures.value ∙ c.in_ok-words.ensures)

pub invariant_of-draws : goal.invariant_of-draws
invariant_of-draws g c =
    let words : c.as_slice.result.now ≡ first_words c.args.units = c.as_slice.ensures.value ∙ c.in_ok-words.ensures in (
      ap (λ (a : AboutDraws). a.sizes) c.in_ok-table.ensures.5,
      c.in_ok-table.ensures.0 ∙ ap (λ (ws : List ℕ). length ws) words ∙ first_length c.args.units,
    )
