use Rattle.std.proofs.Common.{◌∙◌, ap, codes}
use Rattle.clap.specs.Words.{found_of}
use Rattle.clap.proofs.WalkLemmas.{first_value-rows}
use Rattle.dw_words.specs.Parser.{workers_of, workers_of_count}
use Rattle.dw_words.proofs.given.workers_in.Goals as goal

pub returns-in-Some-read_worker_count-clause-workers : goal.returns-in-Some-read_worker_count-clause-workers
returns-in-Some-read_worker_count-clause-workers c =
    ap workers_of_count c.in-Some-read_worker_count.ensures.count ∙ ap workers_of (c.in-Some.ensures ∙ first_value-rows (found_of c.args.matches.now) (codes "workers"))

pub returns-in-None-read_worker_count-clause-workers : goal.returns-in-None-read_worker_count-clause-workers
returns-in-None-read_worker_count-clause-workers c =
    ap workers_of_count c.in-None-read_worker_count.ensures.count ∙ ap workers_of (c.in-Some.ensures ∙ first_value-rows (found_of c.args.matches.now) (codes "workers"))

pub returns-in-None-clause-workers : goal.returns-in-None-clause-workers
returns-in-None-clause-workers c = ap workers_of (c.in-None.ensures ∙ first_value-rows (found_of c.args.matches.now) (codes "workers"))
