use Rattle.std.proofs.Common.{◌-◌, length, sym, arith, length-drop}
use Rattle.string_tables.proofs.Ends.{end_found, end_missed}
use Rattle.string_tables.proofs.string_table.end_from.Goals as goal

pub returns-in-Some : goal.returns-in-Some
returns-in-Some c =
    sym (end_found c.args.bytes.now c.args.place (length c.args.bytes.now - c.args.place) c.in-Some.count (sym c.in-Some.ensures.place))

pub returns-in-None : goal.returns-in-None
returns-in-None c =
    sym (end_missed c.args.bytes.now c.args.place (length c.args.bytes.now - c.args.place) (omega arith) c.requires
    (omega (arith, length-drop c.args.place c.args.bytes.now)) (sym c.in-None.ensures.place))
