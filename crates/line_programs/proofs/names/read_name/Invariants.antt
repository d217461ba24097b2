use Rattle.std.proofs.Common.{◌≡◌, drop}
use Rattle.dw_fields.specs.Span.{at}
use Rattle.line_programs.specs.Shapes.{name_view}
use Rattle.line_programs.specs.Names.{fields_at, name_at}
use Rattle.line_programs.proofs.names.read_name.Given as goal

abbrev pub invariant-loop-format : goal.invariant-loop-format
invariant-loop-format l = record {
  stands : l.cut ≡ at l.fn.cut l.cut.place;
  same : l.texts ≡ l.fn.texts;
  read : fields_at l.fn.texts l.widths l.left (drop l.format-index l.formats) (name_view l.name) l.cut
      ≡ name_at l.fn.texts l.widths l.formats l.fn.cut;
}
