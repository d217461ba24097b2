use Rattle.std.proofs.Common.{ℕ, sym, subst}
use Rattle.map_core.specs.Machine.{Reaches}
use Rattle.map_core.specs.Passes.{look}
use Rattle.map_cells.proofs.WalkLemmas.{closed_here, settled_closed}
use Rattle.table_tests.proofs.HandLemmas.{first_cell, home_reached}
use Rattle.table_tests.proofs.hand_steps.claim_home.Goals as goal

pub claim-requires-clause-cell : goal.claim-requires-clause-cell
claim-requires-clause-cell c = first_cell c.args.cells.now.layout c.home_of.result c.home_of.ensures.low

pub claim-requires-clause-reached : goal.claim-requires-clause-reached
claim-requires-clause-reached c =
    let v = c.args.pass.now.knows in
    subst (λ (i : ℕ). Reaches v.layout (look v.known) 0 i c.args.key) (sym c.home_of.ensures.place) (home_reached c.args.key v)

pub claim-requires-clause-settled : goal.claim-requires-clause-settled
claim-requires-clause-settled c =
    let v = c.args.pass.now.knows in
    settled_closed v 0 c.args.key (closed_here v 0 c.args.key c.requires.sees.current)
