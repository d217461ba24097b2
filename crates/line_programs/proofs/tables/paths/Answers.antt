use Rattle.line_programs.proofs.Lists.{paths_end}
use Rattle.line_programs.proofs.tables.paths.Goals as goal

pub returns : goal.returns
returns c = paths_end _ c.args.names.now c.names.name-index c.names-test.false c.names.invariant
