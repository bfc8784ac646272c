-- What is asked of a file, and what stands in a block of it: a sealed block, or the open one.
use Rattle.std.specs.Prelude.{◌≡◌, ◌≢◌, ◌⊎◌, ℕ, ◌≤◌, ◌<◌, List, slice_get, Option, Some, None}
use Rattle.block_host.specs.Sealed.{IsSealed}
use Rattle.block_host.specs.declared.block.Block.{Block}
use Rattle.doc_stream.specs.OpenBlock.{OpenBlock}

-- what is read: a revision of a file, with its open block, or else up to the end of a range
pub record Asked : Type 0 where
  pub revision : ℕ
  pub tail : Option OpenBlock
  pub end : ℕ

-- a sealed block of the file
pub record Stands (revision : ℕ) (file : List Block) (at kind : ℕ) (payload : List ℕ) : Type 0 where
  pub block : Block
  pub there : slice_get file at ≡ Some block
  pub sealed : IsSealed revision at kind payload block

-- a block of the file, or the open one, which is a record block
abbrev pub Shows : ℕ → Option OpenBlock → List Block → ℕ → ℕ → List ℕ → Type 0
Shows revision None file at kind payload = Stands revision file at kind payload
Shows revision (Some tail) file at kind payload =
    ((at ≡ tail.number) × (kind ≡ 1) × (payload ≡ tail.bytes)) ⊎ ((at ≢ tail.number) × Stands revision file at kind payload)

-- a block is not the open one
abbrev pub IsNotOpen : Option OpenBlock → ℕ → Type 0
IsNotOpen None at = Unit {0}
IsNotOpen (Some tail) at = at ≢ tail.number

-- a block is neither open nor sealed
abbrev pub Unsealed : Asked → List Block → ℕ → Type 0
Unsealed asked file at = (kind : ℕ) (payload : List ℕ) → Shows asked.revision asked.tail file at kind payload → ⊥

-- the blocks from one up to, not including, another are sealed, or open
abbrev pub AreSealed : Asked → List Block → ℕ → ℕ → Type 0
AreSealed asked file from to = (at : ℕ) → from ≤ at → at < to → (kind : ℕ) × (payload : List ℕ) × Shows asked.revision asked.tail file at kind payload

-- the range that is asked, with no open block
abbrev pub range_of : ℕ → ℕ → Asked
range_of revision end = record { revision = revision; tail = None; end = end }

-- the file with its open block
abbrev pub open_file : ℕ → OpenBlock → Asked
open_file revision tail = record { revision = revision; tail = Some tail; end = 0 }
