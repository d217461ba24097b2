use Rattle.std.proofs.Common.{sym, subst}
use Rattle.elf_sections.specs.Shapes.{SectionsView}
use Rattle.entry_tree.specs.Units.{IsFirstEntry, entries_of, root_of}
use Rattle.handle_cache.specs.Handles.{own_keys, sections_in}
use Rattle.unit_text.specs.UnitView.{unit_of}
use Rattle.dump_workers.proofs.UnitKeys.{facts_count, streamed_entries, unit_counts, unit_gains, unit_noted}
use Rattle.dump_workers.proofs.unit.read_text.Goals as goal

pub returns-in_err-facts-clause-counts : goal.returns-in_err-facts-clause-counts
returns-in_err-facts-clause-counts g c =
    facts_count (sections_in c.args.handle.now) c.args.unit c.args.pass.now c.args.steps.now c.unit.new.steps c.requires.unit c.in_err-facts.ensures.known

pub returns-in_err-entries-clause-counts : goal.returns-in_err-entries-clause-counts
returns-in_err-entries-clause-counts g c =
    unit_counts (sections_in c.args.handle.now) c.args.unit c.in_ok-header.header c.args.pass.now c.unit.new.pass
    c.args.steps.now c.unit.new.steps c.stream_entries.new.steps c.requires.unit
    (sym c.in_ok-header.ensures.header) c.in_ok-facts.ensures.follows c.in_ok-facts.ensures.known c.in_err-entries.ensures.known

pub returns-clause-noted : goal.returns-clause-noted
returns-clause-noted g c =
    let s = sections_in c.args.handle.now in
    let header = c.in_ok-header.header in
    streamed_entries (unit_of s header c.in_ok-facts.facts) c.stream_entries.new.text.items c.in_ok-entries.ensures.text c.in_ok-entries.ensures.noted
    (λ entries are noted. unit_noted s c.args.unit header entries (sym c.in_ok-header.ensures.header) are c.unit.new.pass c.stream_entries.new.pass
    c.in_ok-entries.ensures.follows c.in_ok-facts.ensures.noted noted)

pub returns-clause-gains : goal.returns-clause-gains
returns-clause-gains g c =
    let s = sections_in c.args.handle.now in
    let header = c.in_ok-header.header in
    streamed_entries (unit_of s header c.in_ok-facts.facts) c.stream_entries.new.text.items c.in_ok-entries.ensures.text c.in_ok-entries.ensures.keys
    (λ entries are keys. unit_gains s c.args.unit header entries (sym c.in_ok-header.ensures.header) are
    (own_keys c.args.pass.now) (own_keys c.unit.new.pass) (own_keys c.stream_entries.new.pass)
    (subst (λ (s : SectionsView). IsFirstEntry (root_of s header) (entries_of s header)) c.sections.ensures.sections
    c.facts_are_of_the_first_entry.ensures.first)
    c.in_ok-facts.ensures.placed keys)

pub returns-clause-counts : goal.returns-clause-counts
returns-clause-counts g c =
    unit_counts (sections_in c.args.handle.now) c.args.unit c.in_ok-header.header c.args.pass.now c.unit.new.pass
    c.args.steps.now c.unit.new.steps c.stream_entries.new.steps c.requires.unit
    (sym c.in_ok-header.ensures.header) c.in_ok-facts.ensures.follows c.in_ok-facts.ensures.known c.in_ok-entries.ensures.known
