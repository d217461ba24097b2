use Rattle.std.proofs.Common.{◌≡◌, ◌∙◌, ap}
use Rattle.handle_cache.specs.Handles.{sections_in}
use Rattle.exercise_file.specs.Generated.{generated_file}
use Rattle.exercise_file.specs.Views.{generated_sections}
use Rattle.exercise_dumps.specs.declared.twice.Exercise.{Exercise}
use Rattle.exercise_dumps.specs.Twice.{ShowsAll, TellsOf}
use Rattle.exercise_dumps.proofs.Generated.{if_ok, not_refused, opened, opened_codes, opened_none, opened_room, shows, tells_generated}
use Rattle.exercise_dumps.proofs.twice.dump_twice.Goals as goal

pub dump_again-requires-clause-none : goal.dump_again-requires-clause-none
dump_again-requires-clause-none g c κs within =
    opened_none c.args.units c.requires.units (sections_in c.in-Ok.handle)
    (opened c.args.units c.requires.units c.as_slice.result.now c.in-Ok.handle.elf (c.as_slice.ensures.value ∙ c.in_ok-file.ensures ∙ ap generated_file c.from.ensures) c.in-Ok.ensures.elf)

pub dump_again-requires-clause-codes : goal.dump_again-requires-clause-codes
dump_again-requires-clause-codes g c κs within =
    opened_codes c.args.units c.requires.units (sections_in c.in-Ok.handle)
    (opened c.args.units c.requires.units c.as_slice.result.now c.in-Ok.handle.elf (c.as_slice.ensures.value ∙ c.in_ok-file.ensures ∙ ap generated_file c.from.ensures) c.in-Ok.ensures.elf)

pub dump_again-requires-clause-room : goal.dump_again-requires-clause-room
dump_again-requires-clause-room g c κs within =
    opened_room c.args.units c.requires.units (sections_in c.in-Ok.handle)
    (opened c.args.units c.requires.units c.as_slice.result.now c.in-Ok.handle.elf (c.as_slice.ensures.value ∙ c.in_ok-file.ensures ∙ ap generated_file c.from.ensures) c.in-Ok.ensures.elf)

pub returns-in-Ok-clause-tells : goal.returns-in-Ok-clause-tells
returns-in-Ok-clause-tells g c =
    let s = sections_in c.in-Ok.handle in
    let is : s ≡ generated_sections c.args.units =
    opened c.args.units c.requires.units c.as_slice.result.now c.in-Ok.handle.elf (c.as_slice.ensures.value ∙ c.in_ok-file.ensures ∙ ap generated_file c.from.ensures) c.in-Ok.ensures.elf in
    if_ok c.dump_again.result (λ (e : Exercise). TellsOf s c.args.workers e.published e.bytes e.again e.equal) (λ (e : Exercise). TellsOf (generated_sections c.args.units) c.args.workers e.published e.bytes e.again e.equal)
    (λ e tells. tells_generated c.args.units s c.args.workers e.published e.bytes e.again e.equal is tells) c.dump_again.ensures

pub returns-in-Ok-clause-shows : goal.returns-in-Ok-clause-shows
returns-in-Ok-clause-shows g c =
    let s = sections_in c.in-Ok.handle in
    let is : s ≡ generated_sections c.args.units =
    opened c.args.units c.requires.units c.as_slice.result.now c.in-Ok.handle.elf (c.as_slice.ensures.value ∙ c.in_ok-file.ensures ∙ ap generated_file c.from.ensures) c.in-Ok.ensures.elf in
    if_ok c.dump_again.result (λ (e : Exercise). TellsOf s c.args.workers e.published e.bytes e.again e.equal) (λ (e : Exercise). ShowsAll c.args.units c.args.workers e.published e.bytes e.again e.equal)
    (λ e tells. shows c.args.units c.requires.units s c.args.workers e.published e.bytes e.again e.equal is tells) c.dump_again.ensures

pub unreachable-requires : goal.unreachable-requires
unreachable-requires g c =
    not_refused c.args.units c.requires.units c.as_slice.result.now c.in-Err-Refused.field-0 c.in-Err-Refused.field-0-0 (c.as_slice.ensures.value ∙ c.in_ok-file.ensures ∙ ap generated_file c.from.ensures) c.in-Err-Refused.field-0-is c.in-Err-Refused.ensures.elf
