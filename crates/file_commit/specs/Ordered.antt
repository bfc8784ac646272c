-- What a crash at a moment of a commit leaves.
use Rattle.std.specs.Prelude.{◌≡◌, ◌≢◌, ◌⊎◌, ◌+◌, ℕ, List, [], ◌∷◌, ◌++◌, length, Option}
use Rattle.block_host.specs.Calls.{Written}
use Rattle.block_host.specs.Disk.{Disk, Image}
use Rattle.block_host.specs.Moments.{LeavesOnly}
use Rattle.block_host.specs.Sealed.{IsSealed}
use Rattle.block_host.specs.declared.block.Block.{Block}
use Rattle.header_block.specs.Layout.{header_bytes}
use Rattle.file_parts.specs.Moment.{Moment}
use Rattle.file_core.specs.Updates.{IsOpenBlock, listed}
use Rattle.file_commit.specs.Committing.{header_after}

-- A crash leaves only images that are so, now and at each moment since, and nothing is said meanwhile.
pub record Leaves (Is : Image → Type 0) (old new : Disk) : Type 0 where
  pub now : (image : Image) → new.may_leave image → Is image
  pub since : LeavesOnly old new (λ image said. Is image × (said ≡ old.said))

-- ---- blocks at the end of a file

-- An image of before, with these blocks begun behind what reads gave of the file.
pub record IsBegun (file : ℕ) (old : Disk) (blocks : List Block) (image : Image) : Type 0 where
  pub before : Image
  pub left : old.may_leave before
  pub others : (other : ℕ) → other ≢ file → image other ≡ before other
  pub there : Written file (length (old.files file)) blocks (before file) (image file)

-- An image of before, with the records begun, or all that reads gave and all the records, with the header begun behind them.
pub record IsInTurn (file : ℕ) (old : Disk) (records : List Block) (header : Block) (image : Image) : Type 0 where
  pub before : Image
  pub left : old.may_leave before
  pub others : (other : ℕ) → other ≢ file → image other ≡ before other
  pub there : Written file (length (old.files file)) records (before file) (image file)
      ⊎ Written file (length (old.files file ++ records)) (header ∷ []) (old.files file ++ records) (image file)

-- ---- a commit

-- what an image of before had of the file, with the open block begun behind what reads gave: each block is as it was, the
-- open block or torn
pub record HasOpenBlock (old : Moment) (before now : List Block) : Type 0 where
  pub block : Option Block
  pub open_block : IsOpenBlock old.held.revision old.held.tail block
  pub begun : Written old.held.revision (length (old.disk.files old.held.revision)) (listed block) before now

-- All that reads gave of the file, and the open block behind it, each block whole; then the header, a torn block or none.
pub record HasHeader (old : Moment) (now : List Block) : Type 0 where
  pub block : Option Block
  pub header : Block
  pub open_block : IsOpenBlock old.held.revision old.held.tail block
  pub is_sealed : IsSealed old.held.revision (old.held.tail.number + length (listed block)) 4 (header_bytes (header_after old.held)) header
  pub begun : Written old.held.revision (length (old.disk.files old.held.revision ++ listed block)) (header ∷ []) (old.disk.files old.held.revision ++ listed block) now

-- An image that a commit leaves comes of one of before, of which it has the other files. Of the current file it has the
-- same, or over that the open block, or the header behind all the blocks that it has to stand behind.
pub record IsOrdered (old : Moment) (image : Image) : Type 0 where
  pub before : Image
  pub left : old.disk.may_leave before
  pub others : (other : ℕ) → other ≢ old.held.revision → image other ≡ before other
  pub there : (image old.held.revision ≡ before old.held.revision)
      ⊎ HasOpenBlock old (before old.held.revision) (image old.held.revision)
      ⊎ HasHeader old (image old.held.revision)

-- whatever a commit answers, a crash leaves its header only behind its records
abbrev pub Ordered : Moment → Moment → Type 0
Ordered old new = Leaves (IsOrdered old) old.disk new.disk
