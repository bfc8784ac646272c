-- What a tail writes to a file, step by step, and the records that stand there then.
use Rattle.std.specs.Prelude.{◌≡◌, ◌≢◌, ◌⊎◌, ℕ, ◌+◌, List, [], ◌∷◌, ◌++◌, length, IsTrue, ⊤}
use Rattle.block_host.specs.Sealed.{IsSealed}
use Rattle.block_host.specs.declared.block.Block.{Block}
use Rattle.forest_model.specs.declared.stored.Rec.{Rec}
use Rattle.doc_stream.specs.OpenBlock.{OpenBlock, PutsBytes, address_of}
use Rattle.forest_model.specs.Records.{record_bytes, is_record}

-- the blocks of the file, the open block behind them, the block at which its records begin, and these with their addresses
pub record Writing : Type 0 where
  pub file : List Block
  pub tail : OpenBlock
  pub start : ℕ
  pub records : List (ℕ × Rec)

-- nothing is open, and the records begin at the file's end
pub record Begins (w : Writing) : Type 0 where
  pub empty : w.tail.bytes ≡ []
  pub at_end : w.tail.number ≡ length w.file
  pub first : w.start ≡ length w.file
  pub none : w.records ≡ []

-- a record was put, and the blocks that were full by then are appended
pub record Puts (revision : ℕ) (r : Rec) (old new : Writing) : Type 0 where
  pub is_record : IsTrue (is_record r)
  pub bytes : PutsBytes revision (record_bytes r) old.tail new.tail old.file new.file
  pub start : new.start ≡ old.start
  pub records : new.records ≡ old.records ++ (address_of old.tail.number (length old.tail.bytes), r) ∷ []

-- the open block was appended, where it had bytes
abbrev pub Pads : ℕ → Writing → Writing → Type 0
Pads revision old new =
    ((old.tail.bytes ≡ []) × (new ≡ old))
    ⊎ ((block : Block) × (old.tail.bytes ≢ []) × IsSealed revision old.tail.number 1 old.tail.bytes block
    × (new ≡ record old { file = old.file ++ block ∷ []; tail = record { number = old.tail.number + 1; bytes = [] } }))

-- sealed blocks of other kinds from a number on
abbrev pub AreOthers : ℕ → ℕ → List Block → Type 0
AreOthers revision at [] = ⊤
AreOthers revision at (block ∷ blocks) =
    ((kind : ℕ) × (payload : List ℕ) × (kind ≢ 1) × IsSealed revision at kind payload block) × AreOthers revision (at + 1) blocks

-- blocks of other kinds were appended where nothing was open, and the tail goes on behind them
pub record Passes (revision : ℕ) (old new : Writing) : Type 0 where
  pub empty : old.tail.bytes ≡ []
  pub others : List Block
  pub are : AreOthers revision old.tail.number others
  pub after : new ≡ record old { file = old.file ++ others; tail = record { number = old.tail.number + length others; bytes = [] } }

-- the tail was restarted at the file's end, whatever was open and whatever was appended: records begin anew
pub record Restarts (old new : Writing) : Type 0 where
  pub begins : Begins new

-- one step, and steps one after another to the last
abbrev pub Steps : ℕ → Writing → Writing → Type 0
Steps revision old new = ((r : Rec) × Puts revision r old new) ⊎ Pads revision old new ⊎ Passes revision old new ⊎ Restarts old new

abbrev pub Wrote : ℕ → Writing → List Writing → Writing → Type 0
Wrote revision first [] last = last ≡ first
Wrote revision first (next ∷ later) last = Steps revision first next × Wrote revision next later last
