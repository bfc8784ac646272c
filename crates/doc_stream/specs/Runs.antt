-- The records that stand in the blocks of a file.
use Rattle.std.specs.Prelude.{◌≡◌, ◌≢◌, ◌⊎◌, ℕ, zero, suc, ◌+◌, List, [], ◌∷◌, ◌++◌, length, filter, not, slice_get, Some, IsTrue}
use Rattle.block_host.specs.Sealed.{IsSealed}
use Rattle.block_host.specs.declared.block.Block.{Block}
use Rattle.forest_model.specs.declared.stored.Rec.{Rec}
use Rattle.doc_stream.specs.OpenBlock.{address_of}
use Rattle.forest_model.specs.Records.{record_bytes, is_record, is_empty}

-- what is still to be read of a record block: its number, where its bytes begin, and these
pub record Piece : Type 0 where
  pub block : ℕ
  pub offset : ℕ
  pub bytes : List ℕ

-- The record blocks among so many blocks from one on, each sealed; sealed blocks of another kind are passed over.
abbrev pub RecordBlocks : ℕ → List Block → ℕ → ℕ → List Piece → Type 0
RecordBlocks revision file at zero pieces = pieces ≡ []
RecordBlocks revision file at (suc more) pieces =
    (block : Block) × (kind : ℕ) × (payload : List ℕ) × (slice_get file at ≡ Some block) × IsSealed revision at kind payload block
    × (((kind ≡ 1) × (rest : List Piece) × (pieces ≡ record { block = at; offset = 0; bytes = payload } ∷ rest) × RecordBlocks revision file (at + 1) more rest)
    ⊎ ((kind ≢ 1) × RecordBlocks revision file (at + 1) more pieces))

-- a block follows another in the file
abbrev pub Follows : Piece → List Piece → Type 0
Follows p [] = ⊥
Follows p (q ∷ rest) = q.block ≡ p.block + 1

-- Bytes at the front of pieces, and the pieces behind them. They run over a block's end only where the block is full
-- and the next one follows it.
abbrev pub Spreads : List ℕ → List Piece → List Piece → Type 0
Spreads bytes [] behind = ⊥
Spreads bytes (p ∷ pieces) behind =
    ((rest : List ℕ) × (p.bytes ≡ bytes ++ rest) × (behind ≡ record { block = p.block; offset = p.offset + length bytes; bytes = rest } ∷ pieces))
    ⊎ ((more : List ℕ) × (bytes ≡ p.bytes ++ more) × (more ≢ []) × (p.offset + length p.bytes ≡ 4064) × Follows p pieces × Spreads more pieces behind)

-- the pieces that have bytes left
abbrev pub left : List Piece → List Piece
left pieces = filter (λ p. not (is_empty p.bytes)) pieces

-- the address at which the first piece begins
abbrev pub StartsAt : ℕ → List Piece → Type 0
StartsAt address [] = ⊥
StartsAt address (p ∷ pieces) = address ≡ address_of p.block p.offset

-- the pieces are these records one after another, each with its address
abbrev pub AreRecords : List Piece → List (ℕ × Rec) → Type 0
AreRecords pieces [] = left pieces ≡ []
AreRecords pieces ((address, r) ∷ records) =
    IsTrue (is_record r) × StartsAt address (left pieces)
    × ((behind : List Piece) × Spreads (record_bytes r) (left pieces) behind × AreRecords behind records)

-- The records in the record blocks of a file from a block up to, not including, another: so many blocks.
pub record RecordsOf (revision : ℕ) (file : List Block) (start count : ℕ) (records : List (ℕ × Rec)) : Type 0 where
  pub pieces : List Piece
  pub blocks : RecordBlocks revision file start count pieces
  pub are : AreRecords pieces records
