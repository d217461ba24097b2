use Rattle.std.proofs.Common.{ℕ, subst}
use Rattle.block_moves.specs.Moved.{SeenFinished}
use Rattle.block_moves.proofs.MoveLemmas.{finished_on}
use Rattle.table_tests.proofs.HandLemmas.{one_block, first_full}
use Rattle.table_tests.proofs.stopped_helpers.switch.Goals as goal

pub switch-requires-clause-finished : goal.switch-requires-clause-finished
switch-requires-clause-finished c = λ b low.
    let w = c.counted.new.pass.knows in
    subst (λ (n : ℕ). SeenFinished 0 n w) (one_block b low) (finished_on 0 0 c.args.pass.now.knows w c.counted.ensures.seen.looks.steps c.requires.finished)

pub switch-requires-clause-full : goal.switch-requires-clause-full
switch-requires-clause-full c = first_full c.counted.result c.counted.new.pass.knows.count_seen c.if-counted-lt48.false c.counted.ensures.seen.seen
