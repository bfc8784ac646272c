-- The records in a file's blocks and in the open block behind them.
use Rattle.std.specs.Prelude.{◌≡◌, ℕ, ◌+◌, ◌<◌, List, [], ◌∷◌, ◌++◌, length}
use Rattle.block_host.specs.declared.block.Block.{Block}
use Rattle.forest_model.specs.declared.stored.Rec.{Rec}
use Rattle.doc_stream.specs.OpenBlock.{OpenBlock}
use Rattle.doc_stream.specs.Runs.{Piece, RecordBlocks, AreRecords}

-- the open block stands right behind the file, and has fewer bytes than a block takes
pub record IsAtEnd (file : List Block) (tail : OpenBlock) : Type 0 where
  pub number : tail.number ≡ length file
  pub short : length tail.bytes < 4064

-- the whole of the open block
abbrev pub open_piece : OpenBlock → Piece
open_piece tail = record { block = tail.number; offset = 0; bytes = tail.bytes }

-- The records in the record blocks of a file from a block up to its end, with the open block behind them as the last one.
pub record IsScanned (revision : ℕ) (file : List Block) (tail : OpenBlock) (start : ℕ) (records : List (ℕ × Rec)) : Type 0 where
  pub ends : IsAtEnd file tail
  pub pieces : List Piece
  pub count : ℕ
  pub counted : start + count ≡ length file
  pub blocks : RecordBlocks revision file start count pieces
  pub are : AreRecords (pieces ++ open_piece tail ∷ []) records
