use Rattle.std.proofs.Common.{Some, ap, ◌∙◌}
use Rattle.dw_outside.specs.declared.stops.WriteStop.TheVariants as write_stops
use Rattle.handle_cache.specs.Handles.{sections_in}
use Rattle.dump_workers.specs.Ends.{PublishedView}
use Rattle.dw_run.proofs.DumpPrinted.{opened_only, refused_printed, stopped_printed, told_whole, whole_cut, whole_sent}
use Rattle.dw_run.proofs.dump.dump_opened.Goals as goal

pub publish-published-requires-clause-only : goal.publish-published-requires-clause-only
publish-published-requires-clause-only g c =
    let none = rw c.in-Ok-Whole.field-0-is at c.in-Ok-Whole.ensures.none in
    c.in-Ok-Whole.ensures.only none (c.in-Ok.ensures.only (sections_in c.args.handle.now) (opened_only _ _ _ _ c.requires.opened (sections_in c.args.handle.now)))

pub returns-in_err-print_stats-in-Ok-Whole-clause-printed : goal.returns-in_err-print_stats-in-Ok-Whole-clause-printed
returns-in_err-print_stats-in-Ok-Whole-clause-printed g c =
    let dumped = rw c.in-Ok-Whole.field-0-is at c.in-Ok-Whole.ensures.dump in
    whole_cut (sections_in c.args.handle.now) c.args.words.stats _ _ _ _ _ dumped.0 dumped.1 (c.number.ensures ∙ c.publish-published.ensures.number)
    c.in_err-print_stats-in-Ok-Whole.ensures.part c.from_residual.ensures.0

pub returns-in-Ok-Whole-clause-printed : goal.returns-in-Ok-Whole-clause-printed
returns-in-Ok-Whole-clause-printed g c =
    let dumped = rw c.in-Ok-Whole.field-0-is at c.in-Ok-Whole.ensures.dump in
    whole_sent (sections_in c.args.handle.now) c.args.words.stats _ c.publish-published.result _ _ _ dumped.0 dumped.1 (c.number.ensures ∙ c.publish-published.ensures.number)
    c.in_ok-print_stats-in-Ok-Whole.ensures.sent

pub returns-in-Ok-Whole-clause-told : goal.returns-in-Ok-Whole-clause-told
returns-in-Ok-Whole-clause-told g c =
    let counts = rw c.in-Ok-Whole.field-0-is at c.in-Ok-Whole.ensures.whole in
    ap (λ (p : PublishedView). Some p)
    (told_whole c.args.words.workers (sections_in c.args.handle.now) c.publish-published.result c.publish-published.ensures.number
    (c.publish-published.ensures.units ∙ counts.0) (c.publish-published.ensures.entries ∙ counts.1)
    (c.publish-published.ensures.workers ∙ counts.2 ∙ c.in-Ok.ensures.count))

pub returns-in-Ok-Refused-clause-printed : goal.returns-in-Ok-Refused-clause-printed
returns-in-Ok-Refused-clause-printed g c =
    let dumped = rw c.in-Ok-Refused.field-0-is at c.in-Ok-Refused.ensures.dump in
    refused_printed (sections_in c.args.handle.now) c.args.words.stats _ _ _ dumped.0 dumped.1

pub returns-in-Err-WriteFault-clause-printed : goal.returns-in-Err-WriteFault-clause-printed
returns-in-Err-WriteFault-clause-printed g c =
    stopped_printed (sections_in c.args.handle.now) c.args.words.stats write_stops.Failed _ _ c.in-Err-WriteFault.ensures.dump

pub returns-clause-printed : goal.returns-clause-printed
returns-clause-printed g c =
    stopped_printed (sections_in c.args.handle.now) c.args.words.stats write_stops.OutOfMemory _ _ c.in-Err-OutOfMemory.ensures.dump
