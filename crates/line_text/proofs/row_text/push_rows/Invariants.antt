use Rattle.std.proofs.Common.{ℕ, List, Result, drop}
use Rattle.std.specs.declared.alloc.AllocError.{AllocError}
use Rattle.dw_text.specs.Added.{Adds}
use Rattle.line_text.specs.Rows.{rows_text}
use Rattle.line_text.proofs.row_text.push_rows.Given as goal

-- the lines of the rows that are left make up those of all
abbrev pub invariant-rows : goal.invariant-rows
invariant-rows l = (r : Result (Unit {0}) AllocError) (new : List ℕ) → Adds r l.out.items new (rows_text (drop l.row-index l.rows)) → Adds r l.fn.out.items new (rows_text l.rows)
