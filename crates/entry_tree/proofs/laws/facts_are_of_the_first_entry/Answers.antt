use Rattle.std.proofs.Common.{refl}
use Rattle.elf_sections.specs.Shapes.{sections_view}
use Rattle.form_values.specs.View.{widths_of}
use Rattle.entry_tree.specs.Units.{area_of, facts_of}
use Rattle.entry_tree.proofs.RootLaws.{root_law}
use Rattle.entry_tree.proofs.laws.facts_are_of_the_first_entry.Goals as goal

pub returns-clause-first : goal.returns-clause-first
returns-clause-first c =
    root_law (sections_view c.args.sections.now).«abbrev» c.args.header.now.«abbrev» (widths_of c.args.header.now)
    (area_of (sections_view c.args.sections.now) c.args.header.now)

pub returns-clause-facts : goal.returns-clause-facts
unfolding facts_of
returns-clause-facts c = refl
