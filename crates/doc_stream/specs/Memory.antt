-- Where a reader takes memory: behind a whole head, for the bytes that it asks.
use Rattle.std.specs.Prelude.{◌≡◌, ℕ, ◌+◌, ◌/◌, ◌%◌, ◌<◌, List, [], ◌∷◌, length}
use Rattle.block_host.specs.declared.block.Block.{Block}
use Rattle.doc_stream.specs.Runs.{Piece}
use Rattle.doc_stream.specs.Shown.{Asked, Shows, range_of}
use Rattle.doc_stream.specs.Broken.{Begins, IsHead, Leads, piece_at}

-- a head whose lengths a record may have stands from a piece on
pub record HasHead (asked : Asked) (file : List Block) (first : Piece) : Type 0 where
  pub head : List ℕ
  pub count : ℕ
  pub last : Piece
  pub is : IsHead head count
  pub begins : Begins asked file first head last

-- The block of an address has the address's byte, and such a head stands from there on.
pub record HasHeadAt (asked : Asked) (file : List Block) (address : ℕ) : Type 0 where
  pub payload : List ℕ
  pub inside : address % 4096 < length payload
  pub shows : Shows asked.revision asked.tail file (address / 4096) 1 payload
  pub stands : HasHead asked file (piece_at address payload)

-- Whole records stand in what is in hand and up to a piece before a range's end, and such a head stands from there on.
pub record HasHeadBehind (revision end : ℕ) (file : List Block) (hand : List Piece) (start : ℕ) : Type 0 where
  pub count : ℕ
  pub first : Piece
  pub at : first.block + 1 ≡ start + count
  pub within : first.block < end
  pub leads : Leads revision file hand start count (first ∷ [])
  pub stands : HasHead (range_of revision end) file first
