-- What blocks put at the end of a file leave of it in each image.
use Rattle.std.specs.Prelude.{◌≡◌, ◌⊎◌, ◌≤◌, ◌<◌, ℕ, List, length, slice_get, Some}
use Rattle.block_host.specs.Calls.{At}
use Rattle.block_host.specs.Disk.{Disk, Image}
use Rattle.block_host.specs.Sealed.{IsSealed, IsTorn}
use Rattle.block_host.specs.declared.block.Block.{Block}

-- ---- what is put

-- a block that is sealed as a header for no file and no number
pub record IsNoHeader (block : Block) : Type 0 where
  pub apart : (file at : ℕ) (payload : List ℕ) → IsSealed file at 4 payload block → ⊥

pub record AreNoHeaders (blocks : List Block) : Type 0 where
  pub each : (i : ℕ) (block : Block) → slice_get blocks i ≡ Some block → IsNoHeader block

-- one of these blocks
pub record IsAmong (blocks : List Block) (block : Block) : Type 0 where
  pub place : ℕ
  pub there : slice_get blocks place ≡ Some block

-- any block
pub record IsAny (block : Block) : Type 0 where
  pub same : block ≡ block

-- ---- what is left

-- A file in an image once such blocks were put behind this many: those before stay, and each block is as before, or a new
-- one behind them, or torn.
pub record Grown (IsNew : Block → Type 0) (file at : ℕ) (before after : List Block) : Type 0 where
  pub no_shorter : length before ≤ length after
  pub same : (i : ℕ) → i < at → i < length before → slice_get after i ≡ slice_get before i
  pub each : (i : ℕ) (block : Block) → slice_get after i ≡ Some block → (slice_get before i ≡ Some block) ⊎ ((at ≤ i) × IsNew block) ⊎ IsTorn file i block

-- an image that comes of an old one by such blocks at the end of one file, with the others as before
pub record ComesOf (IsNew : Block → Type 0) (file : ℕ) (old : Disk) (image : Image) : Type 0 where
  pub before : Image
  pub left : old.may_leave before
  pub grown : At file (Grown IsNew file (length (old.files file))) before image

-- Such blocks were put at the end of a file: each image comes of an old one, and each that was left since an earlier moment
-- was left before, or comes of an old one with nothing said meanwhile.
pub record Grows (IsNew : Block → Type 0) (file : ℕ) (old new : Disk) : Type 0 where
  pub left : (image : Image) → new.may_leave image → ComesOf IsNew file old image
  pub since : (t : ℕ) (image : Image) (said : List ℕ) → t ≤ old.moment → new.left_since t image said → old.left_since t image said ⊎ (ComesOf IsNew file old image × (said ≡ old.said))
