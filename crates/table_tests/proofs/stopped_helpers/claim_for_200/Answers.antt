use Rattle.map_core.proofs.PlaceLemmas.{up_to_last}
use Rattle.std.proofs.Common.{arith}
use Rattle.map_cells.proofs.WalkLemmas.{closed_here, settled_closed}
use Rattle.table_tests.proofs.stopped_helpers.claim_for_200.Goals as goal

pub claim_on_walk-requires-clause-generation : goal.claim_on_walk-requires-clause-generation
claim_on_walk-requires-clause-generation c = up_to_last c.args.cells.now.layout 0 (omega arith)

pub claim_on_walk-requires-clause-settled : goal.claim_on_walk-requires-clause-settled
claim_on_walk-requires-clause-settled c =
    let v = c.args.pass.now.knows in
    settled_closed v 0 200 (closed_here v 0 200 c.requires.current)
