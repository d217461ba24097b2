use Rattle.std.proofs.Common.{◌≡◌}
use Rattle.dump_workers.proofs.printer.Printer.fetch.Given as goal

-- what contracts see of the printing is what it was
abbrev pub invariant-texts : goal.invariant-texts
invariant-texts g l = l.self ≡ l.fn.self
