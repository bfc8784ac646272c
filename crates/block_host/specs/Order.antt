-- Records that stand before their header.
use Rattle.std.specs.Prelude.{◌≡◌, ◌≢◌, ◌⊎◌, ℕ, ◌-◌, ◌≤◌, List, [], ◌∷◌, ◌++◌, length, take, Some, slice_get}
use Rattle.block_host.specs.declared.block.Block.{Block}
use Rattle.block_host.specs.Disk.{Disk, Image}
use Rattle.block_host.specs.Sealed.{IsTorn}
use Rattle.block_host.specs.Moments.{LeavesOnly}

-- a crash leaves of this file what reads give, and nothing else
abbrev pub IsSettled : ℕ → Disk → Type 0
IsSettled file disk = (image : Image) → disk.may_leave image → image file ≡ disk.files file

-- the old blocks, and behind them only records at their places and torn blocks
pub record Begun (file : ℕ) (old records image : List Block) : Type 0 where
  pub front : take (length old) image ≡ old
  pub behind : (i : ℕ) (block : Block) → length old ≤ i → slice_get image i ≡ Some block → (slice_get records (i - length old) ≡ Some block) ⊎ IsTorn file i block

-- the header stands only behind all of its records, each of them whole
abbrev pub InOrder : ℕ → List Block → List Block → Block → List Block → Type 0
InOrder file old records header image = Begun file old records image ⊎ (image ≡ old ++ records ++ header ∷ [])

-- this image has of each other file what a crash of that disk may leave of it
abbrev pub OthersLeft : ℕ → Disk → Image → Type 0
OthersLeft file disk image = (before : Image) × disk.may_leave before × ((other : ℕ) → other ≢ file → image other ≡ before other)

-- A run of calls that touches one file: the others are read as before, a crash at any moment of it leaves of them only
-- what it might have left before, and nothing is said.
pub record TouchesOnly (file : ℕ) (old new : Disk) : Type 0 where
  pub others : (other : ℕ) → other ≢ file → new.files other ≡ old.files other
  pub left : (image : Image) → new.may_leave image → OthersLeft file old image
  pub any_moment : LeavesOnly old new (λ image said. OthersLeft file old image × (said ≡ old.said))
  pub said : new.said ≡ old.said
