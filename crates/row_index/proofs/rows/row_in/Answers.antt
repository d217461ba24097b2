use Rattle.std.proofs.Common.{rules, leb, arith}
use Rattle.std.proofs.lemmas.List.Sorted.{IsPartitionPoint-from_clause, IsPartitionedBy-leb}
use Rattle.row_index.specs.declared.rows.KeptRow.{KeptRow}
use Rattle.row_index.proofs.Bisected.{rows_in_order, none_under, none_over, some_between}
use Rattle.row_index.proofs.rows.row_in.Goals as goal

pub returns-then-count-eq0 : goal.returns-then-count-eq0
returns-then-count-eq0 c =
    let parted = IsPartitionedBy-leb (λ (r : KeptRow). r.address) _ c.args.address (rows_in_order _ c.requires) in
    none_under _ _ _ c.if-count-eq0.true (IsPartitionPoint-from_clause (λ (r : KeptRow). leb r.address c.args.address) _ _ c.partition_point-count.ensures.partitioned parted (λ a r q k. search rules))

pub returns-then-count-rows : goal.returns-then-count-rows
returns-then-count-rows c =
    let parted = IsPartitionedBy-leb (λ (r : KeptRow). r.address) _ c.args.address (rows_in_order _ c.requires) in
    none_over _ _ _ c.if-count-rows.true (IsPartitionPoint-from_clause (λ (r : KeptRow). leb r.address c.args.address) _ _ c.partition_point-count.ensures.partitioned parted (λ a r q k. search rules))

pub returns : goal.returns
returns c =
    let parted = IsPartitionedBy-leb (λ (r : KeptRow). r.address) _ c.args.address (rows_in_order _ c.requires) in
    some_between _ _ _ _ c.requires (omega arith) (omega (arith, c.partition_point-count.ensures.bound)) (IsPartitionPoint-from_clause (λ (r : KeptRow). leb r.address c.args.address) _ _ c.partition_point-count.ensures.partitioned parted (λ a r q k. search rules))
