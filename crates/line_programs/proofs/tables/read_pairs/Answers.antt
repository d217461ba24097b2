use Rattle.std.proofs.Common.{rules, ◌+◌, ◌-◌, sym, ◌∙◌, arith}
use Rattle.dw_fields.specs.Times.{times_fails}
use Rattle.line_programs.specs.Formats.{format_at}
use Rattle.line_programs.proofs.Lists.{at_again, turn_next}
use Rattle.line_programs.proofs.tables.read_pairs.Goals as goal

pub returns-in_err-format : goal.returns-in_err-format
returns-in_err-format c =
    let refused = sym c.pairs.invariant.read
    ∙ times_fails format_at (c.args.count - c.pairs._turn) (c.args.count - (c.pairs._turn + 1)) c.pairs.cut c.pairs.formats.items
    c.in_err-format.field-0.0 (omega arith) c.in_err-format.ensures in
    search rules

pub pairs-preserved : goal.pairs-preserved
pairs-preserved c = record {
  stands = at_again c.args.cut.now c.pairs.cut c.read_format.new.cut c.pairs.invariant.stands c.in_ok-format.ensures.1;
  read = turn_next format_at (c.args.count - c.pairs._turn) (c.args.count - (c.pairs._turn + 1)) c.pairs.cut c.read_format.new.cut c.pairs.formats.items c.push.new.self.items
      c.in_ok-format.format _ (omega arith) c.in_ok-format.ensures.0 c.in_ok-format.ensures.1 c.in_ok-push.ensures.items c.pairs.invariant.read;
}
