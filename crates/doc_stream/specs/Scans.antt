-- How the records of a range, and the record at an address, are read from a place on.
use Rattle.std.specs.Prelude.{◌≡◌, ◌⊎◌, ℕ, ◌+◌, ◌-◌, ◌*◌, ◌/◌, ◌≤◌, List, [], ◌∷◌, ◌++◌, length, IsTrue}
use Rattle.block_host.specs.declared.block.Block.{Block}
use Rattle.forest_model.specs.declared.stored.Rec.{Rec}
use Rattle.doc_stream.specs.OpenBlock.{OpenBlock}
use Rattle.forest_model.specs.Records.{record_bytes, is_record}
use Rattle.doc_stream.specs.Runs.{Piece, AreRecords}
use Rattle.doc_stream.specs.Reading.{RecordAt}
use Rattle.doc_stream.specs.Shown.{Asked}
use Rattle.doc_stream.specs.Broken.{BreaksRange, BreaksAt, BreaksAddress}
use Rattle.doc_stream.specs.Memory.{HasHeadBehind}
use Rattle.doc_stream.specs.Steps.{Place, in_hand, Following, SameBelow, Stretch}

-- the records that are left from a place on
pub record RestOf (asked : Asked) (file : List Block) (place : Place) (records : List (ℕ × Rec)) : Type 0 where
  pub pieces : List Piece
  pub following : Following asked.revision asked.tail asked.end file place.next pieces
  pub are : AreRecords (in_hand place ∷ pieces) records

-- records stand between two places: what is left from the first begins with them, and goes on from the second
pub record Scans (asked : Asked) (file : List Block) (old new : Place) (done : List (ℕ × Rec)) : Type 0 where
  pub later : old.next ≤ new.next
  pub on : (other : List Block) (rest : List (ℕ × Rec)) → SameBelow new.next file other → RestOf asked other new rest → RestOf asked other old (done ++ rest)
  pub back : (other : List Block) (records : List (ℕ × Rec)) → SameBelow new.next file other → RestOf asked other old records → (rest : List (ℕ × Rec)) × (records ≡ done ++ rest) × RestOf asked other new rest
  pub breaks : (block : ℕ) → BreaksRange asked.revision asked.end file (in_hand new ∷ []) new.next block → BreaksRange asked.revision asked.end file (in_hand old ∷ []) old.next block
  pub heads : HasHeadBehind asked.revision asked.end file (in_hand new ∷ []) new.next → HasHeadBehind asked.revision asked.end file (in_hand old ∷ []) old.next

-- a block of what is still to be read of a range
pub record IsAhead (asked : Asked) (place : Place) (block : ℕ) : Type 0 where
  pub reached : (1 ≤ length place.bytes) ⊎ (place.next ≤ block)
  pub behind : place.next ≤ block + 1
  pub within : block + 1 ≤ asked.end

-- a block by which no records are left from a place on
pub record BreaksRest (asked : Asked) (file : List Block) (place : Place) (block : ℕ) : Type 0 where
  pub reached : (1 ≤ length place.bytes) ⊎ (place.next ≤ block)
  pub behind : place.next ≤ block + 1
  pub within : block + 1 ≤ asked.end
  pub breaks : BreaksRange asked.revision asked.end file (in_hand place ∷ []) place.next block
  pub broken : (other : List Block) (records : List (ℕ × Rec)) → SameBelow (block + 1) file other → RestOf asked other place records → ⊥

-- what a scan still has before it
abbrev pub still : ℕ → Place → ℕ
still end place = (end - place.next) * 4065 + length place.bytes

-- the place of an address, in its block
pub record StartsFrom (asked : Asked) (file : List Block) (tail : OpenBlock) (address : ℕ) (place : Place) : Type 0 where
  pub next : place.next ≡ address / 4096 + 1
  pub breaks : (block : ℕ) → BreaksAt asked file (in_hand place) block → BreaksAddress asked file address block
  pub on : (other : List Block) (r : Rec) (behind : List Piece) → SameBelow place.next file other → IsTrue (is_record r) → Stretch asked other place (record_bytes r) behind → RecordAt asked.revision other tail address r
  pub back : (other : List Block) (r : Rec) → SameBelow place.next file other → RecordAt asked.revision other tail address r → (behind : List Piece) × Stretch asked other place (record_bytes r) behind
