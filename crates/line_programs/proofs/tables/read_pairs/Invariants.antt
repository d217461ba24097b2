use Rattle.std.proofs.Common.{◌≡◌, ◌-◌}
use Rattle.dw_fields.specs.Span.{at}
use Rattle.dw_fields.specs.Times.{times, with_front}
use Rattle.line_programs.specs.Formats.{format_at}
use Rattle.line_programs.proofs.tables.read_pairs.Given as goal

abbrev pub invariant-pairs : goal.invariant-pairs
invariant-pairs l = record {
  stands : l.cut ≡ at l.fn.cut l.cut.place;
  read : with_front l.formats.items (times (l.count - l._turn) format_at l.cut) ≡ times l.count format_at l.fn.cut;
}
