use Rattle.std.proofs.Common.{◌++◌, ◌∙◌, ap}
use Rattle.dw_text.specs.Added.{labelled}
use Rattle.dw_names.specs.Named.{named_or_hex}
use Rattle.dw_names.specs.Texts.{attribute_text}
use Rattle.dw_names.proofs.Tables.{attributes_are_rows, attribute_in}
use Rattle.dw_names.proofs.attributes.prepend_attribute_after.Goals as goal

pub prepend_name_after-requires-clause-rows : goal.prepend_name_after-requires-clause-rows
prepend_name_after-requires-clause-rows c = attributes_are_rows

pub returns-clause-text : goal.returns-clause-text
unfolding attribute_text
returns-clause-text c =
    c.prepend_name_after.ensures.text ∙ ap (λ name. labelled c.args.word.now (named_or_hex name c.args.attribute) ++ c.args.line.now) (attribute_in c.args.attribute)
