use Rattle.std.proofs.Common.{◌∙◌, ap, subst}
use Rattle.elf_sections.specs.Shapes.{SectionsView, sections_view}
use Rattle.unit_headers.specs.Headers.{unit_count}
use Rattle.dw_run.specs.CommandTexts.{units_printed}
use Rattle.dwtool_c.specs.Fronts.{PutsText}
use Rattle.dwtool_c.specs.Texts.{unit_text}
use Rattle.dwtool_c.proofs.SoFar.{unit_texts_are}
use Rattle.dwtool_c.proofs.texts.put_unit_texts.Goals as goal

pub returns : goal.returns
returns c =
    subst (λ printed. PutsText c.put_units.result printed c.args.out.now c.put_units.new.out)
    (ap (λ (u : SectionsView). units_printed (unit_text c.args.command u) 0 (unit_count u.info u.order)) c.in_ok-units.ensures
    ∙ unit_texts_are c.args.command (sections_view c.args.sections.now))
    c.put_units.ensures
