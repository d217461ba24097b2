use Rattle.std.proofs.Common.{◌++◌, ◌∙◌, ap, option_map}
use Rattle.unit_text.specs.Tables.{tables_text}
use Rattle.dw_run.specs.Commands.{tables_printed}
use Rattle.dwtool_c.specs.Refusals.{tables_refusal}
use Rattle.dwtool_c.proofs.SoFar.{tables_ended, whole_put}
use Rattle.dwtool_c.proofs.texts.put_tables.Goals as goal

pub returns : goal.returns
unfolding tables_printed
returns c =
    whole_put c.put_whole.result (tables_printed c.args.section.now) c.as_slice.result.now c.ended_by.result _ _
    (c.as_slice.ensures.value ∙ c.in-Ok.ensures.ok.1 ∙ ap (λ l. l ++ (tables_text c.args.section.now).0) c.new-text.ensures.items)
    (c.ended_by.ensures ∙ ap (option_map tables_refusal) c.in-Ok.ensures.ok.0 ∙ tables_ended (tables_text c.args.section.now).1)
    c.put_whole.ensures
