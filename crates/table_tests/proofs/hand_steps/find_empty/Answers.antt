use Rattle.std.proofs.Common.{ℕ, sym, subst}
use Rattle.map_core.specs.Places.{IsCell}
use Rattle.map_core.proofs.PlaceLemmas.{spot_cell}
use Rattle.table_tests.proofs.HandLemmas.{seen_reaches, seen_sees, seen_frame, walk_goes}
use Rattle.table_tests.proofs.hand_steps.find_empty.Goals as goal

pub key_at-requires-clause-cell : goal.key_at-requires-clause-cell
key_at-requires-clause-cell c =
    subst (λ (i : ℕ). IsCell c.args.cells.now.layout c.args.generation i) (sym c.cell_of_walk-index.ensures)
    (spot_cell c.args.cells.now.layout c.args.generation c.args.key c.loop-passed.passed c.requires.generation)

pub returns-in-Empty-clause-reached : goal.returns-in-Empty-clause-reached
returns-in-Empty-clause-reached c =
    seen_reaches c.args.cells.now c.args.generation c.args.key c.loop-passed.passed c.cell_of_walk-index.result 0 c.args.pass.now.knows c.loop-passed.pass c.key_at.new.pass c.loop-passed.invariant c.cell_of_walk-index.ensures c.in-Empty.ensures.of c.in-Empty.ensures.seen c.loop-passed-test.true

pub returns-in-Empty-clause-cell : goal.returns-in-Empty-clause-cell
returns-in-Empty-clause-cell c =
    subst (λ (i : ℕ). IsCell c.args.cells.now.layout c.args.generation i) (sym c.cell_of_walk-index.ensures)
    (spot_cell c.args.cells.now.layout c.args.generation c.args.key c.loop-passed.passed c.requires.generation)

pub returns-in-Empty-clause-sees : goal.returns-in-Empty-clause-sees
returns-in-Empty-clause-sees c = seen_sees c.args.cells.now c.args.generation c.args.key c.loop-passed.passed c.cell_of_walk-index.result 0 c.args.pass.now.knows c.loop-passed.pass c.key_at.new.pass c.loop-passed.invariant c.cell_of_walk-index.ensures c.in-Empty.ensures.of c.in-Empty.ensures.seen

pub returns-in-Empty-clause-frame : goal.returns-in-Empty-clause-frame
returns-in-Empty-clause-frame c = seen_frame c.args.cells.now c.args.generation c.args.key c.loop-passed.passed c.cell_of_walk-index.result 0 c.args.pass.now.knows c.loop-passed.pass c.key_at.new.pass c.loop-passed.invariant c.cell_of_walk-index.ensures c.in-Empty.ensures.of c.in-Empty.ensures.seen

pub returns-in-Sealed-clause-sees : goal.returns-in-Sealed-clause-sees
returns-in-Sealed-clause-sees c = seen_sees c.args.cells.now c.args.generation c.args.key c.loop-passed.passed c.cell_of_walk-index.result 18446744073709551615 c.args.pass.now.knows c.loop-passed.pass c.key_at.new.pass c.loop-passed.invariant c.cell_of_walk-index.ensures c.in-Sealed.ensures.of c.in-Sealed.ensures.seen

pub returns-in-Sealed-clause-frame : goal.returns-in-Sealed-clause-frame
returns-in-Sealed-clause-frame c = seen_frame c.args.cells.now c.args.generation c.args.key c.loop-passed.passed c.cell_of_walk-index.result 18446744073709551615 c.args.pass.now.knows c.loop-passed.pass c.key_at.new.pass c.loop-passed.invariant c.cell_of_walk-index.ensures c.in-Sealed.ensures.of c.in-Sealed.ensures.seen

pub returns-then-found-key-clause-sees : goal.returns-then-found-key-clause-sees
returns-then-found-key-clause-sees c = seen_sees c.args.cells.now c.args.generation c.args.key c.loop-passed.passed c.cell_of_walk-index.result c.in-Key.found c.args.pass.now.knows c.loop-passed.pass c.key_at.new.pass c.loop-passed.invariant c.cell_of_walk-index.ensures c.in-Key.ensures.of c.in-Key.ensures.seen

pub returns-then-found-key-clause-frame : goal.returns-then-found-key-clause-frame
returns-then-found-key-clause-frame c = seen_frame c.args.cells.now c.args.generation c.args.key c.loop-passed.passed c.cell_of_walk-index.result c.in-Key.found c.args.pass.now.knows c.loop-passed.pass c.key_at.new.pass c.loop-passed.invariant c.cell_of_walk-index.ensures c.in-Key.ensures.of c.in-Key.ensures.seen

pub loop-passed-preserved : goal.loop-passed-preserved
loop-passed-preserved c = walk_goes c.args.cells.now c.args.generation c.args.key c.loop-passed.passed c.cell_of_walk-index.result c.in-Key.found c.args.pass.now.knows c.loop-passed.pass c.key_at.new.pass c.loop-passed.invariant c.cell_of_walk-index.ensures c.in-Key.ensures.of c.in-Key.ensures.seen c.in-Key.ensures.word c.if-found-key.false
