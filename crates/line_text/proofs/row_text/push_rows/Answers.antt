use Rattle.std.proofs.Common.{rules, Ok, Err}
use Rattle.line_text.proofs.Lines.{rows_next, rows_end}
use Rattle.line_text.proofs.row_text.push_rows.Goals as goal

pub rows-preserved : goal.rows-preserved
rows-preserved c = λ r new p. c.rows.invariant r new (rows_next _ c.rows.row-index _ r _ _ new c.rows-test.true c.in_ok-push_row.ensures p)

pub returns-in_err-push_row : goal.returns-in_err-push_row
returns-in_err-push_row c =
    let part = c.rows.invariant (Err c.in_err-push_row.field-0.0) _ c.in_err-push_row.ensures in
    search rules

pub returns : goal.returns
returns c = c.rows.invariant (Ok tt) _ (rows_end _ c.rows.row-index _ c.rows-test.false)
