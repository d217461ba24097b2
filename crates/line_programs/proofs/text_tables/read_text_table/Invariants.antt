use Rattle.std.proofs.Common.{◌≡◌, ◌-◌, map}
use Rattle.dw_fields.specs.Span.{at}
use Rattle.dw_fields.specs.Times.{with_front}
use Rattle.line_programs.specs.Shapes.{name_view}
use Rattle.line_programs.specs.TextTables.{entries_from, text_entry_at, text_table_at}
use Rattle.line_programs.proofs.text_tables.read_text_table.Given as goal

abbrev pub invariant-entries : goal.invariant-entries
invariant-entries l = record {
  stands : l.cut ≡ at l.fn.cut l.cut.place;
  turns : l.left ≡ l.fn.cut.end - l.fn.cut.place;
  read : with_front (map name_view l.names.items) (entries_from (text_entry_at l.table) (l.left - l._turn) l.cut)
      ≡ text_table_at l.table l.fn.cut;
}
