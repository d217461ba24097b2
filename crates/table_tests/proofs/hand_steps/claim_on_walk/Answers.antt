use Rattle.map_cells.proofs.WalkLemmas.{settled_more, steps_then}
use Rattle.table_tests.proofs.HandLemmas.{claimed_now}
use Rattle.table_tests.proofs.hand_steps.claim_on_walk.Goals as goal

pub claim-requires-clause-settled : goal.claim-requires-clause-settled
claim-requires-clause-settled c = settled_more c.args.pass.now.knows c.find_empty.new.pass.knows c.args.generation c.args.key c.find_empty.ensures.frame c.requires.key.0 c.requires.settled

pub returns-in-Empty-clause-frame : goal.returns-in-Empty-clause-frame
returns-in-Empty-clause-frame c = steps_then c.args.pass.now.knows c.find_empty.new.pass.knows c.claim.new.pass.knows c.find_empty.ensures.frame c.in-Empty.ensures.tried.looks.steps

pub returns-in-Sealed-clause-frame : goal.returns-in-Sealed-clause-frame
returns-in-Sealed-clause-frame c = steps_then c.args.pass.now.knows c.find_empty.new.pass.knows c.claim.new.pass.knows c.find_empty.ensures.frame c.in-Sealed.ensures.tried.looks.steps

pub returns-in-Key-clause-frame : goal.returns-in-Key-clause-frame
returns-in-Key-clause-frame c = steps_then c.args.pass.now.knows c.find_empty.new.pass.knows c.claim.new.pass.knows c.find_empty.ensures.frame c.in-Key.ensures.tried.looks.steps

pub returns-in-Empty-clause-claimed : goal.returns-in-Empty-clause-claimed
returns-in-Empty-clause-claimed c = claimed_now c.args.cells.now c.args.generation c.in-Some.index c.args.key c.find_empty.new.pass c.claim.new.pass c.find_empty.ensures.sees c.in-Some.ensures.cell c.in-Empty.ensures.of c.in-Empty.ensures.tried
