use Rattle.std.proofs.Common.{◌≡◌, ◌-◌}
use Rattle.dw_fields.specs.Walk.{walk, ahead}
use Rattle.line_machine.specs.Running.{kept_rows, line_rows, step_at}
use Rattle.line_machine.proofs.running.rows_as.Given as goal

abbrev pub invariant-program : goal.invariant-program
invariant-program g l =
    let kept = g.K.OfRow.kept in
    record {
      ends : l.cut.end ≡ l.fn.cut.end;
      turns : l.left ≡ l.fn.cut.end - l.fn.cut.place;
      walk : ahead l.rows.items (kept_rows kept (walk (step_at l.program l.lengths) (l.left - l._turn) l.registers l.cut)) ≡ kept_rows kept (line_rows l.program l.lengths l.fn.cut);
    }
