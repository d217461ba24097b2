use Rattle.std.proofs.Common.{append_assoc, refl}
use Rattle.dw_run.specs.RefusalLines.{unit_fault_line}
use Rattle.dw_run.proofs.refusal_lines.push_unit_line.Goals as goal

pub returns : goal.returns
unfolding unit_fault_line
returns c = rw c.in_ok-push_fault.ensures (rw c.in_ok-push_decimal_after.ensures (rw append_assoc refl))
