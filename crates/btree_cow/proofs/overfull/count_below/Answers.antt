use Rattle.std.proofs.Common.{ltb, rules}
use Rattle.std.proofs.lemmas.List.Sorted.{IsPartitionPoint-from_clause, IsPartitionedBy-ltb}
use Rattle.node_page.specs.Nodes.{Entry}
use Rattle.btree_cow.proofs.Searches.{rises_order, count_of}
use Rattle.btree_cow.proofs.overfull.count_below.Goals as goal

pub returns : goal.returns
returns c =
    let parted = IsPartitionedBy-ltb (λ (e : Entry). e.0) _ c.args.chunk (rises_order c.args.entries.now c.requires) in
    count_of _ _ _ c.partition_point.ensures.bound
    (IsPartitionPoint-from_clause (λ (e : Entry). ltb e.0 c.args.chunk) _ _ c.partition_point.ensures.partitioned parted (λ a r q k. search rules))
