use Rattle.std.proofs.Common.{◌≡◌, ◌≤◌, length}
use Rattle.std.specs.Vec.Iter.{into_iter_items}
use Rattle.file_documents.specs.BatchPuts.{known_after, known_from}
use Rattle.file_documents.proofs.batch_puts.enter_each.Given as goal

-- the entries that still wait come to the same as all
abbrev pub invariant-loop-next : goal.invariant-loop-next
invariant-loop-next l = record {
  room : length (into_iter_items l.next-iterator) ≤ l.wal.room;
  known : known_after l.store (known_from l.wal.entries l.count l.live) (into_iter_items l.next-iterator)
      ≡ known_after l.store (known_from l.fn.wal.entries l.documents l.fn.live) l.fn.pending.items;
  gone : l.wal.gone ≡ l.fn.wal.gone;
}
