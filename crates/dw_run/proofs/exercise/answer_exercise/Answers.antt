use Rattle.dw_run.proofs.ExerciseEnded.{ends_exercise}
use Rattle.dw_run.proofs.exercise.answer_exercise.Goals as goal

pub returns : goal.returns
returns g c holds source =
    ends_exercise c.args.units c.args.workers c.requires.units.1 holds _ _ _ _ _ _ source _ _ _ _ c.exercise_and_end.ensures.ends c.exercise_and_end.ensures.told
