use Rattle.std.proofs.Common.{rules, ◌+◌, ◌-◌, sym, ap, ◌∙◌, arith, option_to_list}
use Rattle.dw_fields.specs.Span.{Span}
use Rattle.line_machine.proofs.Turns.{rows_next, rows_fail, rows_end, rows_stop}
use Rattle.line_machine.proofs.running.rows_as.Goals as goal

pub returns-then-left-eq0 : goal.returns-then-left-eq0
returns-then-left-eq0 g c =
    sym c.program.invariant.walk ∙ rows_end g.K.OfRow.kept c.args.program.now c.args.lengths.now (c.left-left.result - c.program._turn) c.program.registers c.program.cut c.program.rows.items (omega arith)

pub returns-in_err-row : goal.returns-in_err-row
returns-in_err-row g c =
    let refused = sym c.program.invariant.walk
    ∙ rows_fail g.K.OfRow.kept c.args.program.now c.args.lengths.now (c.left-left.result - c.program._turn) (c.left-left.result - (c.program._turn + 1))
    c.program.registers c.program.cut c.program.rows.items c.in_err-row.field-0.0 (omega arith) (omega arith) c.in_err-row.ensures.field in
    search rules

pub program-preserved : goal.program-preserved
program-preserved g c = record {
  ends = ap (λ (s : Span). s.end) c.in_ok-row.ensures.field.1 ∙ c.program.invariant.ends;
  turns = c.program.invariant.turns;
  walk = rows_next g.K.OfRow.kept c.args.program.now c.args.lengths.now (c.left-left.result - c.program._turn) (c.left-left.result - (c.program._turn + 1)) c.program.registers c.read_step.new.registers
      c.program.cut c.read_step.new.cut c.program.rows.items c.keep.new.rows.items (option_to_list c.in_ok-row.row) _ (omega arith) (omega arith)
      c.in_ok-row.ensures.field.0 c.in_ok-row.ensures.field.1 c.in_ok-keep.ensures c.program.invariant.walk;
}

pub returns : goal.returns
returns g c =
    sym c.program.invariant.walk ∙ rows_stop g.K.OfRow.kept c.args.program.now c.args.lengths.now (c.left-left.result - c.program._turn) c.program.registers c.program.cut c.program.rows.items (omega arith)
