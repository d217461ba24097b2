use Rattle.std.proofs.Common.{◌≡◌, List, Result, IfOk, refl, subst}
use Rattle.dw_fields.specs.declared.fault_code.Fault.{Fault}
use Rattle.elf_sections.specs.Shapes.{sections_view}
use Rattle.unit_headers.specs.declared.header.UnitHeader.{UnitHeader}
use Rattle.entry_tree.specs.Kept.{kept_entries}
use Rattle.entry_tree.specs.Keys.{KeysKnown}
use Rattle.entry_tree.specs.Taken.{Takes, TookEntries}
use Rattle.entry_tree.specs.Units.{entries_of}
use Rattle.entry_tree.specs.Views.{EntryView}
use Rattle.entry_tree.proofs.CursorLaws.{known_all, left_unit, takes_all}
use Rattle.entry_tree.proofs.entries.read_unit_into.Goals as goal

pub returns-clause-entries : goal.returns-clause-entries
returns-clause-entries g c =
    let P : UnitHeader → Type 0 = λ header. Takes c.read_into.result (kept_entries g.K.AttrNames.keeps (entries_of (sections_view c.args.sections.now) c.args.header.now))
    (TookEntries (g.S.EntrySink.took c.args.sink.now c.read_into.new.sink) header.«abbrev» (g.D.Decls.seen c.read_into.new.decls)
    (g.D.Decls.spent c.read_into.new.decls) (g.D.Decls.placed c.args.decls.now) (g.D.Decls.placed c.read_into.new.decls)) in
    subst P c.new-cursor.ensures.header
    (takes_all c.read_into.result g.K.AttrNames.keeps (g.D.Decls.section c.args.decls.now) c.new-cursor.result c.read_into.new.self _ _
    (left_unit g.K.AttrNames.keeps (g.D.Decls.section c.args.decls.now) c.new-cursor.result (sections_view c.args.sections.now) c.args.header.now
    c.requires.section c.new-cursor.ensures.header c.new-cursor.ensures.left c.new-cursor.ensures.depth)
    c.read_into.ensures.entries (c.read_into.ensures.end refl))

pub returns-clause-known : goal.returns-clause-known
returns-clause-known g c =
    let P : UnitHeader → Result (List EntryView) Fault → Type 0 = λ header read.
    IfOk read (λ entries. KeysKnown (g.D.Decls.seen c.args.decls.now) header.«abbrev» entries → c.read_into.new.steps ≡ c.args.steps.now) in
    known_all g.K.AttrNames.keeps (g.D.Decls.seen c.args.decls.now) c.args.header.now.«abbrev» (c.read_into.new.steps ≡ c.args.steps.now)
    (entries_of (sections_view c.args.sections.now) c.args.header.now)
    (subst (λ header. P header (kept_entries g.K.AttrNames.keeps (entries_of (sections_view c.args.sections.now) c.args.header.now))) c.new-cursor.ensures.header
    (subst (P c.new-cursor.result.header)
    (left_unit g.K.AttrNames.keeps (g.D.Decls.section c.args.decls.now) c.new-cursor.result (sections_view c.args.sections.now) c.args.header.now
    c.requires.section c.new-cursor.ensures.header c.new-cursor.ensures.left c.new-cursor.ensures.depth)
    c.read_into.ensures.known))
