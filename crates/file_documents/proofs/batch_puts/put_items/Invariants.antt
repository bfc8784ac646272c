use Rattle.std.proofs.Common.{◌≡◌, ◌+◌, ◌*◌, ◌<◌, ◌≤◌, ◌^◌, length, drop}
use Rattle.file_documents.proofs.BatchPut.{PutSoFar}
use Rattle.file_documents.proofs.batch_puts.put_items.Given as goal

abbrev pub invariant-loop-item : goal.invariant-loop-item
invariant-loop-item l = record {
  so_far : PutSoFar l.revision l.at.store l.at.seq l.last l.items (drop l.item-index l.items) l.pending.items l.fn.tail l.tail l.fn.out.items l.out.items;
  last : l.last ≡ l.at.seq + l.item-index;
  low : l.tail.number ≤ 2 ^ 32 + 1024 * l.item-index;
  room : 0 < l.item-index → length l.items ≤ l.wal.room;
  entries : l.wal.entries ≡ l.fn.wal.entries;
  gone : l.wal.gone ≡ l.fn.wal.gone;
}
