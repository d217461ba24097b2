use Rattle.std.proofs.Common.{rules, sym, ap, subst, ◌∙◌}
use Rattle.elf_sections.specs.Shapes.{sections_view}
use Rattle.entry_tree.specs.Kept.{kept_entries}
use Rattle.entry_tree.specs.Units.{entries_of}
use Rattle.unit_text.specs.Lists.{entry_lists, is_list_attribute}
use Rattle.unit_text.specs.Pieces.{Stopped, Text, Writes}
use Rattle.unit_text.specs.UnitStreams.{AddedTexts, streamed_lists}
use Rattle.unit_text.specs.UnitView.{UnitView, unit_of}
use Rattle.unit_text.proofs.StreamLaws.{TookAll, lists_refused, taken_lists, takes_all}
use Rattle.unit_text.proofs.list_stream.stream_lists.Goals as goal
use Rattle.unit_text.proofs.list_stream.stream_lists.Given as given

took_of : (g : given.Over) (c : goal.After-finish g) → TookAll (AddedTexts entry_lists c.new-sink.result.made c.read_unit_into.new.sink.made)
    c.args.header.now.«abbrev» (g.D.Decls.seen c.read_unit_into.new.decls) (g.D.Decls.spent c.read_unit_into.new.decls)
    (g.D.Decls.placed c.args.decls.now) (g.D.Decls.placed c.read_unit_into.new.decls)
    (kept_entries is_list_attribute (entries_of (sections_view c.args.sections.now) c.args.header.now))
took_of g c = takes_all _ _ _ _ _ _ _ c.in_ok-read_unit_into.ensures.entries

pub returns-in_err-read_unit_into-clause-text : goal.returns-in_err-read_unit_into-clause-text
returns-in_err-read_unit_into-clause-text g c =
    let u : UnitView = unit_of (sections_view c.args.sections.now) c.args.header.now c.args.facts.now in
    let refused : Stopped c.in_err-read_unit_into.field-0.0 (streamed_lists u) = lists_refused u c.in_err-read_unit_into.field-0.0 c.in_err-read_unit_into.ensures.entries in
    search rules

pub returns-clause-text : goal.returns-clause-text
returns-clause-text g c =
    let u : UnitView = unit_of (sections_view c.args.sections.now) c.args.header.now c.args.facts.now in
    subst (λ (t : Text). Writes c.finish.result c.args.out.now.items c.finish.new.out.items t)
    (taken_lists _ _ _ _ _ _ _ u c.new-sink.ensures.unit c.new-sink.ensures.text (took_of g c)) c.finish.ensures.text

pub returns-clause-lists : goal.returns-clause-lists
returns-clause-lists g c =
    let took = took_of g c in
    c.finish.ensures.lists ∙ ap (λ (u : UnitView). u.sections) (took.all.took.unit ∙ c.new-sink.ensures.unit) ∙ sym c.requires.lists
