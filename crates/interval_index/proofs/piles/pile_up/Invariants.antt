use Rattle.std.proofs.Common.{take}
use Rattle.interval_index.specs.Piles.{IsPile}
use Rattle.interval_index.proofs.piles.pile_up.Given as goal

abbrev pub invariant-loop-place : goal.invariant-loop-place
invariant-loop-place l = IsPile l.intervals (take l.place l.numbers) l.pile
