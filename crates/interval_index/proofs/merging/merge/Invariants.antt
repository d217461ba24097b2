use Rattle.std.proofs.Common.{◌+◌, ◌++◌, length, List, None}
use Rattle.interval_index.specs.declared.boundaries.Boundary.{Boundary}
use Rattle.interval_index.specs.Boundaries.{Merges}
use Rattle.interval_index.proofs.merging.merge.Given as goal

abbrev pub invariant-loop-boundary : goal.invariant-loop-boundary
invariant-loop-boundary l =
    (rest : List Boundary) → Merges l.sides rest
    → Merges (record { first = l.fn.first; first_owner = None; second = l.fn.second; second_owner = None }) (l.merged.items ++ rest)

abbrev pub decreases-loop-boundary : goal.decreases-loop-boundary
decreases-loop-boundary l = length l.sides.first + length l.sides.second
