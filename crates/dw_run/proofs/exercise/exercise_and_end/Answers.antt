use Rattle.std.proofs.Common.{Some, ap, ◌∙◌}
use Rattle.dump_workers.specs.Ends.{PublishedView}
use Rattle.dw_run.specs.Output.{told_at}
use Rattle.dw_run.proofs.ExerciseEnded.{ends_lines, tells_dump}
use Rattle.dw_run.proofs.exercise.exercise_and_end.Goals as goal

pub returns-in-Ok-clause-ends : goal.returns-in-Ok-clause-ends
returns-in-Ok-clause-ends g c = ends_lines c.args.units c.in-Ok.exercise.text.items _ _ _ _ _ _ _ _ _ c.in-Ok.ensures.text c.print_exercise.ensures.ends

pub returns-in-Ok-clause-told : goal.returns-in-Ok-clause-told
returns-in-Ok-clause-told g c =
    c.print_exercise.ensures.told ∙ ap (λ (p : PublishedView). told_at c.print_exercise.result.status (Some p)) (c.in-Ok.ensures.published ∙ tells_dump c.args.units c.args.workers)
