-- The last header of a file and the one before a header, and by which block there is none.
use Rattle.std.specs.Prelude.{◌≡◌, ◌⊎◌, ℕ, ◌≤◌, List, [], ◌∷◌, Option, Some, None, slice_get}
use Rattle.block_host.specs.Disk.{risen}
use Rattle.block_host.specs.Sealed.{IsSealed}
use Rattle.block_host.specs.declared.block.Block.{Block}
use Rattle.forest_model.specs.declared.refusal.Refusal.{Refusal}
use Rattle.forest_model.specs.declared.stored.Header.{Header}
use Rattle.header_block.specs.Headers.{IsHeaderAt, IsLast, LinksTo, Placed}

-- a block of a file that is sealed as a header, whatever its payload is
pub record IsSealedAt (revision : ℕ) (file : List Block) (at : ℕ) : Type 0 where
  pub block : Block
  pub payload : List ℕ
  pub there : slice_get file at ≡ Some block
  pub is_sealed : IsSealed revision at 4 payload block

-- the header in the last block that is sealed as one
pub record IsLastHeader (revision : ℕ) (file : List Block) (last : Placed) : Type 0 where
  pub header : IsHeaderAt revision file last.0 last.1
  pub is_last : IsLast revision file last.0

-- The block by which a file has no last header: the last one that is sealed as a header, which has no well-formed one; or
-- block 0, where no block is sealed as a header.
abbrev pub HasNoLast : ℕ → List Block → ℕ → Type 0
HasNoLast revision file block =
    (IsSealedAt revision file block × ((h : Header) → IsHeaderAt revision file block h → ⊥) × IsLast revision file block)
    ⊎ ((block ≡ 0) × ((at : ℕ) → IsSealedAt revision file at → ⊥))

-- what stands before a header: nothing where it links to nothing, else the header that it links to
abbrev pub IsBefore : ℕ → List Block → Header → Option Placed → Type 0
IsBefore revision file h None = LinksTo h []
IsBefore revision file h (Some before) = LinksTo h (before ∷ []) × IsHeaderAt revision file before.0 before.1

-- the block that a header links to, where no header stands that may be before it
pub record BreaksLink (revision : ℕ) (file : List Block) (h : Header) (block : ℕ) : Type 0 where
  pub links : h.previous ≡ Some block
  pub broken : (before : Header) → IsHeaderAt revision file block before → LinksTo h ((block, before) ∷ []) → ⊥

-- The reasons not to give a header: a count of faults that rose, or a block by which there is none. No memory is asked for.
abbrev pub Reason : ℕ → (ℕ → Type 0) → ℕ → ℕ → Refusal → Type 0
Reason revision Breaks before after why =
    ((why ≡ Refusal.DiskFault) × (risen before ≤ after)) ⊎ ((block : ℕ) × (why ≡ Refusal.Damaged revision block) × Breaks block)
