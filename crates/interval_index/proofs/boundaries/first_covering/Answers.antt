use Rattle.std.proofs.Common.{rules, leb, arith}
use Rattle.std.proofs.lemmas.List.Sorted.{IsPartitionPoint-from_clause, IsPartitionedBy-leb}
use Rattle.interval_index.specs.declared.boundaries.Boundary.{Boundary}
use Rattle.interval_index.proofs.Bisection.{non_decreasing, told_at, told_nothing}
use Rattle.interval_index.proofs.boundaries.first_covering.Goals as goal

pub returns-then-count-eq0 : goal.returns-then-count-eq0
returns-then-count-eq0 c =
    let parted = IsPartitionedBy-leb (λ (b : Boundary). b.from) _ c.args.number (non_decreasing (λ (b : Boundary). b.from) 0 _ c.requires) in
    told_nothing _ _ _ c.if-count-eq0.true (IsPartitionPoint-from_clause (λ (b : Boundary). leb b.from c.args.number) _ _ c.partition_point-count.ensures.partitioned parted (λ a r q k. search rules))

pub returns-else-count-eq0 : goal.returns-else-count-eq0
returns-else-count-eq0 c =
    let parted = IsPartitionedBy-leb (λ (b : Boundary). b.from) _ c.args.number (non_decreasing (λ (b : Boundary). b.from) 0 _ c.requires) in
    told_at _ _ _ _ (omega arith) c.partition_point-count.ensures.bound
    (IsPartitionPoint-from_clause (λ (b : Boundary). leb b.from c.args.number) _ _ c.partition_point-count.ensures.partitioned parted (λ a r q k. search rules))
