use Rattle.std.proofs.Common.{inl, arith}
use Rattle.map_core.proofs.PlaceLemmas.{up_to_last}
use Rattle.map_cells.proofs.WalkLemmas.{published_view}
use Rattle.table_tests.proofs.HandLemmas.{pair_in_first, settled_above, carried_sees}
use Rattle.table_tests.proofs.hand_steps.carry_pair.Goals as goal

pub claim_on_walk-requires-clause-generation : goal.claim_on_walk-requires-clause-generation
claim_on_walk-requires-clause-generation c = let more = c.requires.sees.below in up_to_last c.args.cells.now.layout 1 (omega arith)

pub claim_on_walk-requires-clause-settled : goal.claim_on_walk-requires-clause-settled
claim_on_walk-requires-clause-settled c =
    let v = c.args.pass.now.knows in
    settled_above c.args.key c.args.value v c.requires.sees.current (pair_in_first c.args.index c.args.key c.args.value v c.requires.index c.requires.key c.requires.value)

pub publish-requires-clause-fits : goal.publish-requires-clause-fits
publish-requires-clause-fits c =
    let v = c.args.pass.now.knows in
    let pair = pair_in_first c.args.index c.args.key c.args.value v c.requires.index c.requires.key c.requires.value in
    inl (0, published_view v c.claim_on_walk.new.pass.knows 0 c.args.key c.args.value c.claim_on_walk.ensures.frame pair)

pub returns-in-Unset : goal.returns-in-Unset
returns-in-Unset c =
    let v = c.args.pass.now.knows in
    let pair = pair_in_first c.args.index c.args.key c.args.value v c.requires.index c.requires.key c.requires.value in
    carried_sees c.args.cells.now 1 c.in-Some.above 0 c.args.key c.args.value c.claim_on_walk.new.pass c.publish.new.pass c.in-Some.ensures.claimed c.in-Unset.ensures.of c.in-Unset.ensures.tried
    (published_view v c.claim_on_walk.new.pass.knows 0 c.args.key c.args.value c.claim_on_walk.ensures.frame pair)
