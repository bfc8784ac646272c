-- The bytes of a file as blocks.
use Rattle.std.specs.Prelude.{◌≡◌, ◌+◌, ◌-◌, ◌*◌, ◌/◌, ◌<◌, ◌≤◌, ℕ, Bool, false, true, List, ◌++◌, length, take, drop, replicate}
use Rattle.std.specs.List.{flat_map}
use Rattle.block_host.specs.declared.block.Block.{Block}
use Rattle.block_host.specs.Sealed.{zero_block}

-- the bytes of blocks, one after another
abbrev pub bytes_of : List Block → List ℕ
bytes_of blocks = flat_map (λ block. block.bytes) blocks

-- bytes written over those at a place
abbrev pub overwritten : ℕ → List ℕ → List ℕ → List ℕ
overwritten at bytes old = take at old ++ bytes ++ drop (at + length bytes) old

-- the whole blocks, without a torn tail
abbrev pub whole_part : List ℕ → List ℕ
whole_part bytes = take (length bytes / 4096 * 4096) bytes

-- the same, with zeros behind or cut, so that it has two blocks
abbrev pub two_blocks : List ℕ → List ℕ
two_blocks bytes = take 8192 (whole_part bytes) ++ replicate (8192 - length (whole_part bytes)) 0

-- the block at a place; where no whole block is there, a block of zeros
pub record IsBlockAt (bytes : List ℕ) (at : ℕ) (block : Block) : Type 0 where
  pub there : at * 4096 + 4096 ≤ length bytes → block.bytes ≡ take 4096 (drop (at * 4096) bytes)
  pub beyond : length bytes < at * 4096 + 4096 → block ≡ zero_block

-- where no name is noted as changed, the folder is on the disk
abbrev pub KnowsNames : Bool → Bool → Type 0
KnowsNames named settled = named ≡ false → settled ≡ true
