-- What clauses see of a unit: its header and facts, and the sections that they are of.
use Rattle.elf_sections.specs.Shapes.{SectionsView, sections_view}
use Rattle.form_values.specs.declared.raw.UnitFacts.{UnitFacts}
use Rattle.unit_headers.specs.declared.header.UnitHeader.{UnitHeader}
use Rattle.unit_text.specs.declared.unit.Unit.{Unit as UnitParts}

pub record UnitView : Type 0 where
  pub sections : SectionsView
  pub header : UnitHeader
  pub facts : UnitFacts

abbrev pub unit_of : SectionsView → UnitHeader → UnitFacts → UnitView
unit_of sections header facts = record { sections = sections; header = header; facts = facts }

abbrev pub unit_view : UnitParts → UnitView
unit_view u = unit_of (sections_view u.sections.now) u.header.now u.facts.now
