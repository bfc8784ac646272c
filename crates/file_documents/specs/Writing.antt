-- What an update of a store's documents leaves in memory and in the file.
use Rattle.std.specs.Prelude.{◌≡◌, ◌+◌, ◌++◌, ℕ, Bool, List, [], length, IsTrue}
use Rattle.block_host.specs.declared.block.Block.{Block}
use Rattle.doc_stream.specs.OpenBlock.{PutsBytes}
use Rattle.kvs_names.specs.Table.{counted}
use Rattle.file_parts.specs.Held.{Held}
use Rattle.file_parts.specs.Moment.{Moment}

-- Bytes of records are put, the store comes to a number and a count of documents, and the live records to their bytes. No
-- store goes.
pub record Writes (p q : Held) (store seq documents live : ℕ) (bytes : List ℕ) (out : List Block) : Type 0 where
  pub put : PutsBytes p.revision bytes p.tail q.tail [] out
  pub gone : q.wal.gone ≡ p.wal.gone
  pub rest : q ≡ record p {
    blocks = q.tail.number;
    names = counted p.names store seq documents;
    wal = q.wal;
    tail = q.tail;
    loose = length q.tail.bytes;
    live = live;
    place = p.place + 1;
  }

-- the same with the file, at whose end the full blocks are
pub record WritesFile (told : Bool) (store seq documents live : ℕ) (bytes : List ℕ) (old new : Moment) : Type 0 where
  pub out : List Block
  pub writes : Writes old.held new.held store seq documents live bytes out
  pub files : IsTrue told → new.disk.files old.held.revision ≡ old.disk.files old.held.revision ++ out
  pub shown : IsTrue told → old.file ≡ old.disk.files old.held.revision → new.file ≡ new.disk.files old.held.revision
