use Rattle.std.proofs.Common.{subst, sym}
use Rattle.interval_index.specs.declared.boundaries.Boundary.{Boundary}
use Rattle.interval_index.specs.Boundaries.{AscendsBy}
use Rattle.interval_index.proofs.index.IntervalIndex.first.Goals as goal

pub first_covering-requires : goal.first_covering-requires
first_covering-requires c = subst (AscendsBy (λ (b : Boundary). b.from) 0) (sym c.deref.ensures.value) c.self.invariant
