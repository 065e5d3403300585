use Rattle.std.proofs.Common.{rules, nat_lt}
use Rattle.std.proofs.lemmas.List.Sorted.{IsPartitionPoint-from_clause}
use Rattle.tree_exclusive.proofs.Walks.{partition_is, rising_parts}
use Rattle.tree_exclusive.proofs.pairs.count_before.Goals as goal

pub returns : goal.returns
returns c =
    let end = c.args.end in
    let leaves = c.args.leaves.now in
    partition_is 0 end leaves c.partition_point.result c.requires c.partition_point.ensures.bound
    (IsPartitionPoint-from_clause (λ y. nat_lt y end) leaves c.partition_point.result c.partition_point.ensures.partitioned (rising_parts 0 end leaves c.requires) (λ a r f called. search rules))
