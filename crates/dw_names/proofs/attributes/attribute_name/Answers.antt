use Rattle.std.proofs.Common.{◌∙◌}
use Rattle.dw_names.proofs.Tables.{attributes_are_rows, attribute_in}
use Rattle.dw_names.proofs.attributes.attribute_name.Goals as goal

pub name_in-requires : goal.name_in-requires
name_in-requires c = attributes_are_rows

pub returns-clause-name : goal.returns-clause-name
returns-clause-name c = c.name_in.ensures.name ∙ attribute_in c.args.attribute
