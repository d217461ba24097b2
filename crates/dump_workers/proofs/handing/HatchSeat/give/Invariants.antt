use Rattle.std.proofs.Common.{◌≡◌}
use Rattle.dump_workers.proofs.handing.HatchSeat.give.Given as goal

-- what is left is the text
abbrev pub invariant-tries : goal.invariant-tries
invariant-tries g l = l.left ≡ l.fn.text
