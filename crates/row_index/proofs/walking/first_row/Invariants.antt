use Rattle.std.proofs.Common.{◌≡◌, ◌-◌, drop}
use Rattle.row_index.specs.Rows.{row_at}
use Rattle.row_index.proofs.walking.first_row.Given as goal

abbrev pub invariant-loop-place : goal.invariant-loop-place
invariant-loop-place l = row_at (drop (l.place - 1) l.rows) l.address ≡ row_at l.rows l.address
