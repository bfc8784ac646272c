-- By which block no record stands at a place: what of one stands before it, and what is wrong there.
use Rattle.std.specs.Prelude.{◌≡◌, ◌≢◌, ◌⊎◌, ℕ, ◌+◌, ◌/◌, ◌%◌, ◌<◌, ◌≤◌, List, [], ◌∷◌, ◌++◌, length, drop, Option, Some, None, IsTrue, ⊤}
use Rattle.block_host.specs.declared.block.Block.{Block}
use Rattle.forest_model.specs.declared.stored.Rec.{Rec}
use Rattle.doc_stream.specs.OpenBlock.{OpenBlock}
use Rattle.doc_stream.specs.Heads.{allows, head_with}
use Rattle.forest_model.specs.Records.{head_bytes, record_bytes, is_record}
use Rattle.doc_stream.specs.Runs.{Piece, RecordBlocks, Spreads, StartsAt, left}
use Rattle.doc_stream.specs.Shown.{Asked, Shows, Unsealed, range_of}

-- record blocks one after another from a number on, each with all its bytes
abbrev pub AreShown : Asked → List Block → ℕ → List Piece → Type 0
AreShown asked file at [] = ⊤
AreShown asked file at (p ∷ pieces) =
    (p.block ≡ at) × (p.offset ≡ 0) × Shows asked.revision asked.tail file at 1 p.bytes × AreShown asked file (at + 1) pieces

-- Bytes stand from a piece on, over the record blocks right behind it, and end in the block of the last piece, which is
-- what is left of it.
pub record Begins (asked : Asked) (file : List Block) (first : Piece) (bytes : List ℕ) (last : Piece) : Type 0 where
  pub more : List Piece
  pub blocks : AreShown asked file (first.block + 1) more
  pub spreads : Spreads bytes (first ∷ more) (last ∷ [])

-- a head whose lengths a record may have, with so many bytes behind it
pub record IsHead (bytes : List ℕ) (count : ℕ) : Type 0 where
  pub kind : ℕ
  pub meta : ℕ
  pub key : ℕ
  pub body : ℕ
  pub store : ℕ
  pub seq : ℕ
  pub allowed : IsTrue (allows kind meta key body seq)
  pub behind : count ≡ key + meta + body
  pub is : bytes ≡ head_with kind meta key body store seq

-- the front of a record, by its head if that is whole, with bytes still to come
abbrev pub IsUnfinished : List ℕ → Type 0
IsUnfinished bytes =
    (length bytes < 24)
    ⊎ ((head : List ℕ) × (rest : List ℕ) × (count : ℕ) × IsHead head count × (bytes ≡ head ++ rest) × (length rest < count))

-- a whole head that no record has, or as many bytes as a head asks that are no record's
abbrev pub IsNoRecord : List ℕ → Type 0
IsNoRecord bytes =
    ((length bytes ≡ 24) × ((r : Rec) → IsTrue (is_record r) → bytes ≡ head_bytes r → ⊥))
    ⊎ ((head : List ℕ) × (rest : List ℕ) × (count : ℕ) × IsHead head count × (bytes ≡ head ++ rest) × (length rest ≡ count)
    × ((r : Rec) → IsTrue (is_record r) → bytes ≡ record_bytes r → ⊥))

-- the last block of a range
abbrev pub IsLastAsked : Option OpenBlock → ℕ → ℕ → Type 0
IsLastAsked None end block = end ≡ block + 1
IsLastAsked (Some tail) end block = ⊥

-- The block because of which no bytes follow those that end with a block's end: that block itself, where it isn't full
-- or is the last one asked; else the next one, which is unsealed, of another kind or empty.
abbrev pub Ends : Asked → List Block → Piece → ℕ → Type 0
Ends asked file last block =
    ((block ≡ last.block) × (last.offset < 4064))
    ⊎ ((block ≡ last.block) × IsLastAsked asked.tail asked.end block)
    ⊎ ((block ≡ last.block + 1) × (last.offset ≡ 4064) × Unsealed asked file block)
    ⊎ ((block ≡ last.block + 1) × (last.offset ≡ 4064)
    × ((kind : ℕ) × (payload : List ℕ) × ((kind ≢ 1) ⊎ (payload ≡ [])) × Shows asked.revision asked.tail file block kind payload))

-- these bytes stand from a piece on, and no more, because of a block
pub record EndsAt (asked : Asked) (file : List Block) (first : Piece) (bytes : List ℕ) (block : ℕ) : Type 0 where
  pub last : Piece
  pub begins : Begins asked file first bytes last
  pub none : last.bytes ≡ []
  pub why : Ends asked file last block

-- the last of these bytes stands in a block
pub record StandsUpTo (asked : Asked) (file : List Block) (first : Piece) (bytes : List ℕ) (block : ℕ) : Type 0 where
  pub last : Piece
  pub begins : Begins asked file first bytes last
  pub in_block : block ≡ last.block

-- The block by which no record stands from a piece on: the record breaks off there, or what is none ends there.
abbrev pub BreaksAt : Asked → List Block → Piece → ℕ → Type 0
BreaksAt asked file first block =
    (bytes : List ℕ) × ((IsUnfinished bytes × EndsAt asked file first bytes block) ⊎ (IsNoRecord bytes × StandsUpTo asked file first bytes block))

-- records at the front of pieces, each with its address, and the pieces behind them that have bytes left
abbrev pub Precede : List Piece → List (ℕ × Rec) → List Piece → Type 0
Precede pieces [] behind = left pieces ≡ behind
Precede pieces ((address, r) ∷ records) behind =
    IsTrue (is_record r) × StartsAt address (left pieces)
    × ((rest : List Piece) × Spreads (record_bytes r) (left pieces) rest × Precede rest records behind)

-- Records stand in what is in hand and in so many sealed blocks from one on, and these pieces are left behind them.
pub record Leads (revision : ℕ) (file : List Block) (hand : List Piece) (start count : ℕ) (behind : List Piece) : Type 0 where
  pub pieces : List Piece
  pub blocks : RecordBlocks revision file start count pieces
  pub records : List (ℕ × Rec)
  pub precede : Precede (hand ++ pieces) records behind

-- Whole records stand up to a block, which is unsealed; or they stand up to a piece, and a block breaks the next one.
abbrev pub BreaksRange : ℕ → ℕ → List Block → List Piece → ℕ → ℕ → Type 0
BreaksRange revision end file hand start block =
    ((count : ℕ) × (block ≡ start + count) × Leads revision file hand start count [] × Unsealed (range_of revision end) file block)
    ⊎ ((count : ℕ) × (first : Piece) × (first.block + 1 ≡ start + count) × Leads revision file hand start count (first ∷ [])
    × BreaksAt (range_of revision end) file first block)

-- what is left of a block from an address on
abbrev pub piece_at : ℕ → List ℕ → Piece
piece_at address payload = record { block = address / 4096; offset = address % 4096; bytes = drop (address % 4096) payload }

-- The block of an address is unsealed, of another kind or too short; or it has the address's byte, and a block breaks the
-- record there.
abbrev pub BreaksAddress : Asked → List Block → ℕ → ℕ → Type 0
BreaksAddress asked file address block =
    ((block ≡ address / 4096) × Unsealed asked file block)
    ⊎ ((block ≡ address / 4096)
    × ((kind : ℕ) × (payload : List ℕ) × ((kind ≢ 1) ⊎ (length payload ≤ address % 4096)) × Shows asked.revision asked.tail file block kind payload))
    ⊎ ((payload : List ℕ) × (address % 4096 < length payload) × Shows asked.revision asked.tail file (address / 4096) 1 payload
    × BreaksAt asked file (piece_at address payload) block)
