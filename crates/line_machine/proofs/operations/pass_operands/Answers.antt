use Rattle.std.proofs.Common.{rules, ◌+◌, ◌-◌, sym, ap, ◌∙◌, arith}
use Rattle.dw_fields.specs.Span.{Span}
use Rattle.line_machine.proofs.Passing.{passed_next, passed_fails, passed_none, at_again}
use Rattle.line_machine.proofs.operations.pass_operands.Goals as goal

pub returns-in_err-_operand-clause-field : goal.returns-in_err-_operand-clause-field
returns-in_err-_operand-clause-field c =
    let refused = sym c.loop-turn.invariant.walk
    ∙ passed_fails (c.args.count - c.loop-turn._turn) (c.args.count - (c.loop-turn._turn + 1)) c.loop-turn.cut c.in_err-_operand.field-0.0 (omega arith) c.in_err-_operand.ensures.field.0 in
    search rules

pub loop-turn-preserved : goal.loop-turn-preserved
loop-turn-preserved c = record {
  stands = at_again c.args.cut.now c.loop-turn.cut c.uleb.new.self c.loop-turn.invariant.stands c.in_ok-_operand.ensures.field.1;
  forward = omega (arith, c.in_ok-_operand.ensures.moves.forward);
  inside = λ h. omega (arith, c.in_ok-_operand.ensures.moves.inside, ap (λ (s : Span). s.end) c.loop-turn.invariant.stands);
  walk = passed_next (c.args.count - c.loop-turn._turn) (c.args.count - (c.loop-turn._turn + 1)) c.loop-turn.cut c.uleb.new.self c.in_ok-_operand._operand (omega arith)
      c.in_ok-_operand.ensures.field.0 c.in_ok-_operand.ensures.field.1 ∙ c.loop-turn.invariant.walk;
}

pub returns-clause-field : goal.returns-clause-field
returns-clause-field c =
    (sym c.loop-turn.invariant.walk ∙ passed_none (c.args.count - c.loop-turn._turn) c.loop-turn.cut (omega arith), c.loop-turn.invariant.stands)
