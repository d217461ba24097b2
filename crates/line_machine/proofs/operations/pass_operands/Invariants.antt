use Rattle.std.proofs.Common.{◌≡◌, ◌-◌, ◌≤◌}
use Rattle.dw_fields.specs.Span.{at}
use Rattle.line_machine.specs.Operations.{passed_over}
use Rattle.line_machine.proofs.operations.pass_operands.Given as goal

abbrev pub invariant-loop-turn : goal.invariant-loop-turn
invariant-loop-turn l = record {
  stands : l.cut ≡ at l.fn.cut l.cut.place;
  forward : l.fn.cut.place ≤ l.cut.place;
  inside : l.fn.cut.place ≤ l.fn.cut.end → l.cut.place ≤ l.fn.cut.end;
  walk : passed_over (l.count - l._turn) l.cut ≡ passed_over l.count l.fn.cut;
}
