use Rattle.std.proofs.Common.{rules, arith}
use Rattle.std.proofs.lemmas.List.Sorted.{IsPartitionPoint-from_clause}
use Rattle.wal_index.specs.Live.{is_before_store}
use Rattle.wal_index.specs.Rows.{key_of}
use Rattle.wal_index.proofs.StoreRows.{partitioned}
use Rattle.wal_index.proofs.live.border.Goals as goal

pub returns : goal.returns
returns c =
    let parted = IsPartitionPoint-from_clause (λ b. is_before_store c.args.through c.args.store (key_of b)) c.args.rows.now c.partition_point.result c.partition_point.ensures.partitioned (partitioned c.args.rows.now c.requires c.args.through c.args.store) (λ a r f k. search rules) in
    record {
      within = c.partition_point.ensures.bound;
      before = λ j d l. parted.0 j d (omega arith) l;
      behind = λ j d l m. parted.1 j d l m;
    }
