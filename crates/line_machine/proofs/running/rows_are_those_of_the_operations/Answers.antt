use Rattle.line_machine.proofs.RunLaws.{rows_run}
use Rattle.line_machine.proofs.running.rows_are_those_of_the_operations.Goals as goal

pub returns : goal.returns
returns c = rows_run c.args.program.now c.args.lengths.now c.args.cut.now
