use Rattle.std.proofs.Common.{rules, arith}
use Rattle.std.proofs.lemmas.List.Sorted.{IsPartitionPoint-from_clause}
use Rattle.wal_index.specs.Numbers.{stands_before}
use Rattle.wal_index.proofs.NextNumber.{partitioned}
use Rattle.wal_index.proofs.nearest_number.border.Goals as goal

pub returns : goal.returns
returns c =
    let parted = IsPartitionPoint-from_clause (λ b. stands_before c.args.through c.args.store c.args.seq b.value) c.args.numbers.now c.partition_point.result c.partition_point.ensures.partitioned (partitioned c.args.numbers.now c.requires c.args.through c.args.store c.args.seq) (λ a r f k. search rules) in
    record {
      within = c.partition_point.ensures.bound;
      before = λ j d l. parted.0 j d (omega arith) l;
      behind = λ j d l m. parted.1 j d l m;
    }
