-- What a settled file is.
use Rattle.std.specs.Prelude.{ℕ, List, Option}
use Rattle.block_host.specs.declared.block.Block.{Block}

-- a file whose blocks are on the disk, with its number and, where they are told, its blocks
pub record SettledFile : Type 0 where
  pub file : ℕ
  pub blocks : Option (List Block)
