-- What the records of an open file make, which is what opening will need.
use Rattle.std.specs.Prelude.{◌≡◌, ℕ, ◌+◌, List}
use Rattle.std.specs.FinMap as finite
use Rattle.block_host.specs.declared.block.Block.{Block}
use Rattle.doc_stream.specs.Fold.{after_records}
use Rattle.doc_stream.specs.Scanned.{IsScanned}
use Rattle.file_image.specs.Commits.{Make}
use Rattle.forest_model.specs.declared.state.State.{State}
use Rattle.forest_model.specs.declared.stored.Rec.{Rec}
use Rattle.file_parts.specs.Held.{Held}

-- The records of the current file, with the open block behind its blocks. No trees so far.
pub record IsRecorded (p : Held) (file : List Block) (s : State) : Type 0 where
  -- those from `wal_from` on make the documents, with the numbers of the table
  pub records : List (ℕ × Rec)
  pub scanned : IsScanned p.revision file p.tail p.header.wal_from records
  pub made : Make finite.empty records p.names.rows s.next_store s.documents
  -- those behind the last header make the stores and documents of those of the last commit
  pub recent : List (ℕ × Rec)
  pub behind : IsScanned p.revision file p.tail (p.header_at + 1) recent
  pub folded : after_records (s.last.stores, s.last.documents) recent ≡ (s.stores, s.documents)
