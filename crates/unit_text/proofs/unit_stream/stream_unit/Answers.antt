use Rattle.std.proofs.Common.{rules, ℕ, subst, ◌∙◌}
use Rattle.elf_sections.specs.Shapes.{sections_view}
use Rattle.entry_tree.specs.Units.{entries_of}
use Rattle.unit_headers.specs.Refusals.{Answers, Refuses}
use Rattle.unit_text.specs.Pieces.{Text}
use Rattle.unit_text.specs.UnitStreams.{AddedTexts, streamed_unit}
use Rattle.unit_text.specs.Units.{entry_text}
use Rattle.unit_text.specs.UnitView.{UnitView, unit_of}
use Rattle.unit_text.proofs.EntryCounts.{few_entries}
use Rattle.unit_text.proofs.StreamLaws.{TookAll, counted, on_any, taken_count, taken_keys, taken_noted, taken_text, took_all, unit_refused}
use Rattle.unit_text.proofs.unit_stream.stream_unit.Goals as goal
use Rattle.unit_text.proofs.unit_stream.stream_unit.Given as given

took_of : (g : given.Over) (c : goal.After-finish g) → TookAll (AddedTexts entry_text c.new-sink.result c.read_unit_into.new.sink)
    c.args.header.now.«abbrev» (g.D.Decls.seen c.read_unit_into.new.decls) (g.D.Decls.spent c.read_unit_into.new.decls)
    (g.D.Decls.placed c.args.decls.now) (g.D.Decls.placed c.read_unit_into.new.decls) (entries_of (sections_view c.args.sections.now) c.args.header.now)
took_of g c = took_all _ _ _ _ _ _ _ c.in_ok-read_unit_into.ensures.entries

pub returns-in_err-read_unit_into-clause-text : goal.returns-in_err-read_unit_into-clause-text
returns-in_err-read_unit_into-clause-text g c =
    let u : UnitView = unit_of (sections_view c.args.sections.now) c.args.header.now c.args.facts.now in
    let refused : Refuses c.in_err-read_unit_into.field-0.0 (streamed_unit u) = unit_refused u c.in_err-read_unit_into.field-0.0 c.in_err-read_unit_into.ensures.entries in
    search rules

pub returns-clause-text : goal.returns-clause-text
returns-clause-text g c =
    let u : UnitView = unit_of (sections_view c.args.sections.now) c.args.header.now c.args.facts.now in
    subst (λ (t : Text). Answers {X = ℕ} (λ count. c.finish.new.out.items) c.finish.result t)
    (taken_text _ _ _ _ _ _ _ u c.new-sink.ensures.unit (c.new-sink.ensures.text ∙ search rules) (took_of g c))
    c.finish.ensures.text

pub returns-clause-entries : goal.returns-clause-entries
returns-clause-entries g c =
    let s = sections_view c.args.sections.now in
    counted c.finish.result _ _ c.finish.ensures.entries
    (taken_count _ _ _ _ _ _ _ (entries_of s c.args.header.now) c.new-sink.ensures.entries (took_of g c) (few_entries s c.args.header.now c.requires.short c.requires.unit))

pub returns-clause-keys : goal.returns-clause-keys
returns-clause-keys g c =
    on_any c.finish.result (taken_keys _ _ _ _ _ _ _ (took_of g c))

pub returns-clause-noted : goal.returns-clause-noted
returns-clause-noted g c =
    on_any c.finish.result (taken_noted _ _ _ _ _ _ _ (took_of g c))
