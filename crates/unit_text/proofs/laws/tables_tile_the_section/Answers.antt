use Rattle.unit_text.proofs.TableTileLaws.{tables_only}
use Rattle.unit_text.proofs.laws.tables_tile_the_section.Goals as goal

pub returns-clause-only : goal.returns-clause-only
returns-clause-only c = tables_only c.args.section.now
