use Rattle.table_tests.proofs.HandLemmas.{WalkedTo}
use Rattle.table_tests.proofs.hand_steps.find_empty.Given as goal

abbrev pub invariant-loop-passed : goal.invariant-loop-passed
invariant-loop-passed l = WalkedTo l.cells l.generation l.key l.passed l.initial.pass.knows l.pass
