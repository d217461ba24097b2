use Rattle.std.proofs.Common.{◌≡◌, ◌-◌, map}
use Rattle.dw_fields.specs.Span.{at}
use Rattle.dw_fields.specs.Times.{times, with_front}
use Rattle.line_programs.specs.Shapes.{name_view}
use Rattle.line_programs.specs.Names.{name_at}
use Rattle.line_programs.proofs.tables.read_names.Given as goal

abbrev pub invariant-entries : goal.invariant-entries
invariant-entries l = record {
  stands : l.cut ≡ at l.fn.cut l.cut.place;
  same : l.texts ≡ l.fn.texts;
  read : with_front (map name_view l.names.items) (times (l.count - l._turn) (name_at l.texts l.widths l.formats) l.cut)
      ≡ times l.count (name_at l.fn.texts l.widths l.formats) l.fn.cut;
}
