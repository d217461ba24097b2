use Rattle.std.proofs.Common.{subst}
use Rattle.unit_headers.specs.Refusals.{Answers}
use Rattle.line_machine.specs.Running.{line_rows}
use Rattle.line_machine.proofs.Turns.{kept_whole}
use Rattle.line_machine.proofs.running.rows.Goals as goal

pub returns : goal.returns
returns c = subst (λ read. Answers (λ v. v.items) c.rows_as.result read) (kept_whole (line_rows c.args.program.now c.args.lengths.now c.args.cut)) c.rows_as.ensures
