use Rattle.std.proofs.Common.{◌++◌, ◌∙◌, ap}
use Rattle.dw_text.specs.Added.{labelled}
use Rattle.dw_names.specs.Named.{named_or_hex}
use Rattle.dw_names.specs.Texts.{tag_text}
use Rattle.dw_names.proofs.Tables.{tags_are_rows, tag_in}
use Rattle.dw_names.proofs.tags.prepend_tag_after.Goals as goal

pub prepend_name_after-requires-clause-rows : goal.prepend_name_after-requires-clause-rows
prepend_name_after-requires-clause-rows c = tags_are_rows

pub returns-clause-text : goal.returns-clause-text
unfolding tag_text
returns-clause-text c =
    c.prepend_name_after.ensures.text ∙ ap (λ name. labelled c.args.word.now (named_or_hex name c.args.tag) ++ c.args.line.now) (tag_in c.args.tag)
