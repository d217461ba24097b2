use Rattle.std.proofs.Common.{◌≤◌, arith}
use Rattle.line_programs.proofs.Entries.{text_table_stands}
use Rattle.line_programs.proofs.laws.text_tables_are_their_entries.Goals as goal

pub returns : goal.returns
returns c = λ table. text_table_stands table c.args.cut.now (omega (arith, c.place-place.ensures.within))
