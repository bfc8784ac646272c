-- How a file's record blocks are read step by step, and what each step tells of every way to go on.
use Rattle.std.specs.Prelude.{◌≡◌, ◌≢◌, ℕ, ◌+◌, ◌-◌, ◌*◌, ◌≤◌, ◌<◌, List, [], ◌∷◌, ◌++◌, length, take, Bool, true, false, Option, Some, None, IsTrue}
use Rattle.block_host.specs.declared.block.Block.{Block}
use Rattle.forest_model.specs.declared.stored.Rec.{Rec}
use Rattle.doc_stream.specs.OpenBlock.{OpenBlock}
use Rattle.forest_model.specs.Records.{record_bytes, is_record}
use Rattle.doc_stream.specs.Runs.{Piece, RecordBlocks, Spreads, left}
use Rattle.doc_stream.specs.Reading.{AreHeld}
use Rattle.doc_stream.specs.Shown.{Asked, Shows}
use Rattle.doc_stream.specs.Broken.{Begins, BreaksAt, EndsAt}

-- where a reader stands: the number of the next block, and what is left of the one before it
pub record Place : Type 0 where
  pub next : ℕ
  pub offset : ℕ
  pub bytes : List ℕ

-- what is left of the block in hand
abbrev pub in_hand : Place → Piece
in_hand place = record { block = place.next - 1; offset = place.offset; bytes = place.bytes }

-- the record blocks with bytes from a block on
abbrev pub Following : ℕ → Option OpenBlock → ℕ → List Block → ℕ → List Piece → Type 0
Following revision None end file at pieces = (all : List Piece) × RecordBlocks revision file at (end - at) all × (pieces ≡ left all)
Following revision (Some tail) end file at pieces = AreHeld revision file tail at pieces

-- a block within the range, where there is one
abbrev pub IsWithin : Option OpenBlock → ℕ → ℕ → Type 0
IsWithin None end at = at ≤ end
IsWithin (Some tail) end at = Unit {0}

-- files that are the same below a block
abbrev pub SameBelow : ℕ → List Block → List Block → Type 0
SameBelow block file other = take block other ≡ take block file

-- bytes stand from a place on, and pieces behind them
pub record Stretch (asked : Asked) (file : List Block) (place : Place) (bytes : List ℕ) (behind : List Piece) : Type 0 where
  pub pieces : List Piece
  pub following : Following asked.revision asked.tail asked.end file place.next pieces
  pub spreads : Spreads bytes (in_hand place ∷ pieces) behind

-- The block after the one in hand, once it has come into hand. Only one of records is kept there.
abbrev pub Loads : Asked → List Block → ℕ → Place → Bool → Type 0
Loads asked file at place true = (place.offset ≡ 0) × Shows asked.revision asked.tail file at 1 place.bytes
Loads asked file at place false = (place.bytes ≡ []) × ((kind : ℕ) × (payload : List ℕ) × (kind ≢ 1) × Shows asked.revision asked.tail file at kind payload)

-- Places that any bytes go on from alike, in each file that is the same as far as the later one.
pub record Turns (asked : Asked) (file : List Block) (old new : Place) : Type 0 where
  pub later : old.next ≤ new.next
  pub on : (other : List Block) (bytes : List ℕ) (behind : List Piece) → SameBelow new.next file other → 1 ≤ length bytes → Stretch asked other new bytes behind → Stretch asked other old bytes behind
  pub back : (other : List Block) (bytes : List ℕ) (behind : List Piece) → SameBelow new.next file other → 1 ≤ length bytes → Stretch asked other old bytes behind → Stretch asked other new bytes behind
  pub begins : (bytes : List ℕ) (last : Piece) → 1 ≤ length bytes → Begins asked file (in_hand new) bytes last → Begins asked file (in_hand old) bytes last

-- Bytes stand between two places: what goes on from the first begins with them, and goes on from the second.
pub record Takes (asked : Asked) (file : List Block) (old new : Place) (bytes : List ℕ) : Type 0 where
  pub later : old.next ≤ new.next
  pub on : (other : List Block) (more : List ℕ) (behind : List Piece) → SameBelow new.next file other → Stretch asked other new more behind → Stretch asked other old (bytes ++ more) behind
  pub back : (other : List Block) (all : List ℕ) (behind : List Piece) → SameBelow new.next file other → length bytes ≤ length all → Stretch asked other old all behind → (more : List ℕ) × (all ≡ bytes ++ more) × Stretch asked other new more behind
  pub begins : (more : List ℕ) (last : Piece) → Begins asked file (in_hand new) more last → Begins asked file (in_hand old) (bytes ++ more) last

-- a reader goes on by so many bytes, over at most so many blocks
pub record Moves (asked : Asked) (old new : Place) (blocks count : ℕ) : Type 0 where
  pub later : old.next ≤ new.next
  pub near : new.next ≤ old.next + blocks
  pub within : IsWithin asked.tail asked.end new.next
  pub further : old.next * 4064 + length new.bytes + count ≤ new.next * 4064 + length old.bytes
  pub exact : new.next * 4064 + new.offset ≡ old.next * 4064 + old.offset + count

-- a block among those in which so many bytes stand from a place on: the one in hand, or one behind it
pub record IsNear (asked : Asked) (place : Place) (count block : ℕ) : Type 0 where
  pub reached : place.next ≤ block + 1
  pub within : IsWithin asked.tail asked.end (block + 1)
  pub near : (block + 1) * 4064 ≤ place.next * 4064 + place.offset + count

-- A block by which so many bytes don't stand from a place on, whatever stands behind it: fewer stand there, and end because of it.
pub record Stops (asked : Asked) (file : List Block) (place : Place) (count block : ℕ) : Type 0 where
  pub reached : place.next ≤ block + 1
  pub within : IsWithin asked.tail asked.end (block + 1)
  pub fewer : (bytes : List ℕ) × (length bytes < count) × EndsAt asked file (in_hand place) bytes block
  pub broken : (other : List Block) (all : List ℕ) (behind : List Piece) → SameBelow (block + 1) file other → count ≤ length all → Stretch asked other place all behind → ⊥

-- a record stands between two places, and no other one from the first on
pub record TakesRecord (asked : Asked) (file : List Block) (old new : Place) (r : Rec) : Type 0 where
  pub later : old.next ≤ new.next
  pub on : (other : List Block) (behind : List Piece) → SameBelow new.next file other → Stretch asked other new [] behind → Stretch asked other old (record_bytes r) behind
  pub back : (other : List Block) (s : Rec) (behind : List Piece) → SameBelow new.next file other → IsTrue (is_record s) → Stretch asked other old (record_bytes s) behind → (s ≡ r) × Stretch asked other new [] behind
  pub begins : Begins asked file (in_hand old) (record_bytes r) (in_hand new)

-- a block by which no record stands from a place on
pub record StopsRecord (asked : Asked) (file : List Block) (place : Place) (block : ℕ) : Type 0 where
  pub reached : place.next ≤ block + 1
  pub within : IsWithin asked.tail asked.end (block + 1)
  pub breaks : BreaksAt asked file (in_hand place) block
  pub broken : (other : List Block) (r : Rec) (behind : List Piece) → SameBelow (block + 1) file other → IsTrue (is_record r) → Stretch asked other place (record_bytes r) behind → ⊥
