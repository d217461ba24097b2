use Rattle.abbrev_decl.proofs.WalkLaws.{walk_law, found_stands}
use Rattle.abbrev_decl.proofs.lookup.first_declaration_is_first.Goals as goal

pub returns-clause-first : goal.returns-clause-first
returns-clause-first c = walk_law c.args.section.now c.args.table c.args.code

pub returns-clause-stands : goal.returns-clause-stands
returns-clause-stands c = found_stands c.args.section.now c.args.table c.args.code
