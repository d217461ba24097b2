-- How the lines of two dumps of the generated file make up an ending.
use Rattle.std.proofs.Common.{◌≡◌, ℕ, ◌≤◌, List, Option, Some, ap, subst, ◌∙◌, refl}
use Rattle.dump_workers.specs.Ends.{PublishedView}
use Rattle.exercise_file.specs.Generated.{generated_file}
use Rattle.exercise_file.specs.Views.{generated_sections}
use Rattle.exercise_file.proofs.FoundSections.{sections_found, table_read}
use Rattle.exercise_dumps.specs.Lines.{exercise_text}
use Rattle.exercise_dumps.specs.Twice.{published_view}
use Rattle.dw_run.specs.CommandTexts.{whole}
use Rattle.dw_run.specs.Commands.{text_of_sections}
use Rattle.dw_run.specs.DumpTexts.{dump_tells, sections_tell}
use Rattle.dw_run.specs.ExerciseTexts.{exercise_printed}
use Rattle.dw_run.specs.FileRequests.{exercised}
use Rattle.dw_run.specs.Output.{Ends, EndsRun, tells_of_file, text_of_file, told_at}
use Rattle.dw_run.proofs.Ended.{ends_on_bytes}

module _ (units workers : ℕ) (few : units ≤ 9999) where
  text_is : exercise_printed (generated_sections units) ≡ text_of_file (text_of_sections exercise_printed) (generated_file units)
  unfolding text_of_file
  text_is = rw (table_read units few, sections_found units) refl

  tells_is : Some (sections_tell workers (generated_sections units)) ≡ tells_of_file (Some (dump_tells workers)) (generated_file units)
  unfolding tells_of_file
  tells_is = rw (table_read units few, sections_found units) refl

  -- the lines were printed, or their printing was stopped
  pub ends_exercise : (holds : List ℕ → Option (List ℕ)) (status : ℕ) (published : Option PublishedView) (out0 out1 err0 err1 : Option (List ℕ))
      (source out_faults0 out_faults1 err_faults0 err_faults1 : ℕ)
      → Ends (exercise_printed (generated_sections units)) status out0 out1 err0 err1 out_faults0 out_faults1 err_faults0 err_faults1
      → published ≡ told_at status (Some (sections_tell workers (generated_sections units)))
      → EndsRun (Some (exercised units workers)) holds status published out0 out1 err0 err1 source source out_faults0 out_faults1 err_faults0 err_faults1
  ends_exercise holds status published out0 out1 err0 err1 source out_faults0 out_faults1 err_faults0 err_faults1 end told =
      ends_on_bytes (generated_file units) (text_of_sections exercise_printed) (Some (dump_tells workers)) holds status published out0 out1 err0 err1 source source out_faults0 out_faults1 err_faults0 err_faults1
      (subst (λ t. Ends t status out0 out1 err0 err1 out_faults0 out_faults1 err_faults0 err_faults1) text_is end)
      (told ∙ ap (told_at status) tells_is)

-- the lines are what is printed
pub ends_lines : (units : ℕ) (text : List ℕ) (status : ℕ) (out0 out1 err0 err1 : Option (List ℕ)) (out_faults0 out_faults1 err_faults0 err_faults1 : ℕ)
    → text ≡ exercise_text (generated_sections units) → Ends (whole text) status out0 out1 err0 err1 out_faults0 out_faults1 err_faults0 err_faults1
    → Ends (exercise_printed (generated_sections units)) status out0 out1 err0 err1 out_faults0 out_faults1 err_faults0 err_faults1
unfolding exercise_printed
ends_lines units text status out0 out1 err0 err1 out_faults0 out_faults1 err_faults0 err_faults1 is end =
    subst (λ (t : List ℕ). Ends (whole t) status out0 out1 err0 err1 out_faults0 out_faults1 err_faults0 err_faults1) is end

-- and what the first dump published is what a dump tells
pub tells_dump : (units workers : ℕ) → published_view (generated_sections units) workers ≡ sections_tell workers (generated_sections units)
unfolding sections_tell
tells_dump units workers = refl
