use Rattle.std.proofs.Common.{◌≡◌, ◌+◌, length}
use Rattle.wal_index.specs.Merged.{all_pairs}
use Rattle.wal_index.proofs.Moved.{Copying}
use Rattle.wal_index.proofs.copies.list_of.Given as goal

abbrev pub invariant-loop : goal.invariant-loop
invariant-loop l =
    Copying (all_pairs l.settled l.recent) l.left.settled.now l.left.recent.now l.list.items
    × (length l.left.settled.now + length l.left.recent.now + l.counter ≡ l.count)
