use Rattle.std.proofs.Common.{◌≡◌, [], take, drop}
use Rattle.file_documents.specs.Batching.{misses}
use Rattle.file_documents.proofs.items.misses_one.Given as goal

-- the items that are left come to the same as all
abbrev pub invariant-loop-n : goal.invariant-loop-n
invariant-loop-n l = misses l.wal.entries l.store (take l.n l.items) (drop l.n l.items) ≡ misses l.wal.entries l.store [] l.items
