-- The open record block in memory, and what goes out of it.
use Rattle.std.specs.Prelude.{◌≡◌, ℕ, ◌+◌, ◌*◌, ◌/◌, List, [], ◌++◌, ◌∷◌, length}
use Rattle.block_host.specs.Sealed.{IsSealed}
use Rattle.block_host.specs.declared.block.Block.{Block}

-- its number in the file, and the bytes of records that it has so far, fewer than 4,064
pub record OpenBlock : Type 0 where
  pub number : ℕ
  pub bytes : List ℕ

-- full record blocks from a number on, and the bytes in them
abbrev pub AreFull : ℕ → ℕ → List Block → List ℕ → Type 0
AreFull revision at [] bytes = bytes ≡ []
AreFull revision at (block ∷ blocks) bytes =
    (payload : List ℕ) × (rest : List ℕ) × (bytes ≡ payload ++ rest) × (length payload ≡ 4064)
    × IsSealed revision at 1 payload block × AreFull revision (at + 1) blocks rest

-- the address of what stands at an offset of a block
abbrev pub address_of : ℕ → ℕ → ℕ
address_of block offset = block * 4096 + offset

-- Bytes put behind those of the open block: blocks that are full by then go out, and the rest stays open.
pub record PutsBytes (revision : ℕ) (bytes : List ℕ) (before after : OpenBlock) (out_before out_after : List Block) : Type 0 where
  pub more : List Block
  pub whole : List ℕ
  pub out : out_after ≡ out_before ++ more
  pub full : AreFull revision before.number more whole
  pub all : before.bytes ++ bytes ≡ whole ++ after.bytes
  pub number : after.number ≡ before.number + length more
  pub count : length more ≡ (length before.bytes + length bytes) / 4064
