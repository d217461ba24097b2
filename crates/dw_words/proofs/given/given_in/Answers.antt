use Rattle.std.proofs.Common.{◌∙◌, codes}
use Rattle.clap.specs.Words.{found_of, rows_of}
use Rattle.clap.proofs.WalkLemmas.{one_text-rows}
use Rattle.dw_words.proofs.Settled.{settled_means}
use Rattle.dw_words.proofs.given.given_in.Goals as goal

pub returns-clause-meaning : goal.returns-clause-meaning
returns-clause-meaning c g ends =
    let said = one_text-rows (found_of c.args.matches.now) (codes "stats") in
    settled_means (rows_of (found_of c.args.matches.now)) g c.in_ok-workers.workers c.get_flag-stats.result _ ends c.in_ok-workers.ensures.workers
    (λ e. c.get_flag-stats.ensures.value (said ∙ e)) (λ e. c.get_flag-stats.ensures.other (said ∙ e)) c.in_ok-rest.ensures
