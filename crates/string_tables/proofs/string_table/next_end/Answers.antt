use Rattle.std.proofs.Common.{◌∙◌, sym, arith}
use Rattle.string_tables.proofs.Ends.{end_later}
use Rattle.string_tables.proofs.string_table.next_end.Goals as goal

pub returns-else-end-place : goal.returns-else-end-place
returns-else-end-place c = λ start behind e. e ∙ sym (end_later c.args.bytes.now start c.args.place behind (omega (arith, e, c.if-end-place.false)))
