use Rattle.std.proofs.Common.{◌+◌, length}
use Rattle.interval_index.proofs.boundaries.+lay.Given as goal

abbrev pub decreases-lay : goal.decreases-lay
decreases-lay l = l.piles + length l.numbers.now
