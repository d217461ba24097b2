use Rattle.std.proofs.Common.{List, Result, map, subst}
use Rattle.std.specs.Borrow.{Bor}
use Rattle.dw_fields.specs.declared.fault_code.Fault.{Fault}
use Rattle.elf_sections.specs.Shapes.{sections_view}
use Rattle.unit_headers.specs.Refusals.{Answers}
use Rattle.entry_tree.specs.declared.entry.Entry.{Entry}
use Rattle.entry_tree.specs.Units.{entries_of}
use Rattle.entry_tree.specs.Views.{EntryView, entry_view}
use Rattle.entry_tree.proofs.KeptLaws.{all_kept}
use Rattle.entry_tree.proofs.entries.read_entries.Goals as goal

pub returns-clause-entries : goal.returns-clause-entries
returns-clause-entries g c =
    let P : Result (List EntryView) Fault → Type 0 = λ read. Answers (λ (s : Bor (List Entry)). map entry_view s.now) c.read_kept_entries.result read in
    subst P (all_kept (entries_of (sections_view c.args.sections.now) c.args.header.now)) c.read_kept_entries.ensures.entries
