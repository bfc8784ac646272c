-- The record at an address, which may lie in whole or in part in the open block.
use Rattle.std.specs.Prelude.{◌≡◌, ◌≢◌, ◌⊎◌, ℕ, ◌+◌, ◌<◌, ◌/◌, ◌%◌, List, [], ◌∷◌, length, drop, slice_get, Some, IsTrue, ⊤}
use Rattle.block_host.specs.Sealed.{IsSealed}
use Rattle.block_host.specs.declared.block.Block.{Block}
use Rattle.forest_model.specs.declared.stored.Rec.{Rec}
use Rattle.doc_stream.specs.OpenBlock.{OpenBlock}
use Rattle.forest_model.specs.Records.{record_bytes, is_record}
use Rattle.doc_stream.specs.Runs.{Piece, Spreads}

-- the bytes of a record block: those of the open block, or of a sealed one of the file
abbrev pub Holds : ℕ → List Block → OpenBlock → ℕ → List ℕ → Type 0
Holds revision file tail at bytes =
    ((at ≡ tail.number) × (bytes ≡ tail.bytes))
    ⊎ ((at ≢ tail.number) × (block : Block) × (slice_get file at ≡ Some block) × IsSealed revision at 1 bytes block)

-- record blocks one after another, from one on
abbrev pub AreHeld : ℕ → List Block → OpenBlock → ℕ → List Piece → Type 0
AreHeld revision file tail at [] = ⊤
AreHeld revision file tail at (p ∷ pieces) =
    (p.block ≡ at) × (p.offset ≡ 0) × Holds revision file tail at p.bytes × AreHeld revision file tail (at + 1) pieces

-- an offset at which the first piece has a byte
abbrev pub IsInside : ℕ → List Piece → Type 0
IsInside offset [] = ⊥
IsInside offset (p ∷ pieces) = offset < length p.bytes

-- the pieces from this offset of the first one on
abbrev pub from_offset : ℕ → List Piece → List Piece
from_offset offset [] = []
from_offset offset (p ∷ pieces) = record { block = p.block; offset = offset; bytes = drop offset p.bytes } ∷ pieces

-- The record whose bytes begin at this address.
pub record RecordAt (revision : ℕ) (file : List Block) (tail : OpenBlock) (address : ℕ) (r : Rec) : Type 0 where
  pub is_record : IsTrue (is_record r)
  pub pieces : List Piece
  pub behind : List Piece
  pub held : AreHeld revision file tail (address / 4096) pieces
  pub inside : IsInside (address % 4096) pieces
  pub spreads : Spreads (record_bytes r) (from_offset (address % 4096) pieces) behind
