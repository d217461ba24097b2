use Rattle.std.proofs.Common.{inl, arith}
use Rattle.map_core.proofs.PlaceLemmas.{up_to_last}
use Rattle.map_cells.proofs.WalkLemmas.{closed_here}
use Rattle.table_tests.proofs.HandLemmas.{placed_uncounted, counted_sees}
use Rattle.table_tests.proofs.stopped_helpers.make_move_due.Goals as goal

pub put_from-requires-clause-generation : goal.put_from-requires-clause-generation
put_from-requires-clause-generation c = up_to_last c.args.cells.now.layout 0 (omega arith)

pub put_from-requires-clause-may : goal.put_from-requires-clause-may
put_from-requires-clause-may c = inl (tt, c.requires.current)

pub count-requires-clause-uncounted : goal.count-requires-clause-uncounted
count-requires-clause-uncounted c =
    let v = c.args.pass.now.knows in
    placed_uncounted 48 148 v c.put_from.new.pass.knows (c.in-Placed.ensures.put.fresh tt (closed_here v 0 48 c.requires.current))

pub returns-in-Placed : goal.returns-in-Placed
returns-in-Placed c =
    let v = c.args.pass.now.knows in
    let put = c.in-Placed.ensures.put in
    counted_sees c.args.cells.now 48 148 c.count.result c.args.pass.now c.put_from.new.pass c.count.new.pass c.requires c.count.ensures.of put.steps put.claim (put.fresh tt (closed_here v 0 48 c.requires.current)) c.count.ensures.raised
