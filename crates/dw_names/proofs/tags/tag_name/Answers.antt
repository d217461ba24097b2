use Rattle.std.proofs.Common.{◌∙◌}
use Rattle.dw_names.proofs.Tables.{tags_are_rows, tag_in}
use Rattle.dw_names.proofs.tags.tag_name.Goals as goal

pub name_in-requires : goal.name_in-requires
name_in-requires c = tags_are_rows

pub returns-clause-name : goal.returns-clause-name
returns-clause-name c = c.name_in.ensures.name ∙ tag_in c.args.tag
