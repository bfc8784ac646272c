-- What each call of a host does to the disk. A step says what a file may be after a call that was cut short.
use Rattle.std.specs.Prelude.{◌≡◌, ◌≢◌, ◌⊎◌, ◌+◌, ◌-◌, ◌^◌, ◌<◌, ◌≤◌, max, min, ℕ, Bool, List, [], ◌∷◌, ◌++◌, length, take, slice_set, Result, OnOk, Some, Option, MatchOption, unwrap_or, slice_get}
use Rattle.std.specs.Bool.{OnTrue}
use Rattle.block_host.specs.declared.block.Block.{Block}
use Rattle.block_host.specs.declared.failed.Failed.{Failed}
use Rattle.block_host.specs.Disk.{Image, Disk, SameImages, Elapses}
use Rattle.block_host.specs.Sealed.{IsTorn, zero_block}

-- the block at a place; past the end a block of zeros
abbrev pub block_at : List Block → ℕ → Block
block_at blocks at = unwrap_or (slice_get blocks at) zero_block

-- Blocks written at a place of a file: the length lies between, and each block is as before, as written or torn. Only a
-- block in the range, or one past the old end, is not as before.
pub record Written (file at : ℕ) (blocks before after : List Block) : Type 0 where
  pub no_shorter : length before ≤ length after
  pub no_longer : length after ≤ max (length before) (at + length blocks)
  pub kept : (i : ℕ) → i < length before → (i < at) ⊎ (at + length blocks ≤ i) → slice_get after i ≡ slice_get before i
  pub each : (i : ℕ) (block : Block) → slice_get after i ≡ Some block → (slice_get before i ≡ Some block) ⊎ ((at ≤ i) × (slice_get blocks (i - at) ≡ Some block)) ⊎ IsTorn file i block

-- a cut has happened or not
abbrev pub Cut : ℕ → List Block → List Block → Type 0
Cut blocks before after = (after ≡ before) ⊎ (after ≡ take blocks before)

-- another file has taken the place of this one or not
abbrev pub Replaced : List Block → List Block → List Block → Type 0
Replaced blocks before after = (after ≡ before) ⊎ (after ≡ blocks)

-- the two blocks of the meta file, with this one in its slot
abbrev pub with_slot : ℕ → Block → List Block → List Block
with_slot slot block blocks = slice_set (block_at blocks 0 ∷ block_at blocks 1 ∷ []) slot block

-- a slot of the meta file written, which then has two blocks
pub record Put (slot : ℕ) (block : Block) (before after : List Block) : Type 0 where
  pub no_shorter : min (length before) 2 ≤ length after
  pub no_longer : length after ≤ max (length before) 2
  pub kept : (i : ℕ) → i < length before → i < length after → i ≢ slot → slice_get after i ≡ slice_get before i
  pub each : (i : ℕ) (other : Block) → slice_get after i ≡ Some other → (slice_get before i ≡ Some other) ⊎ ((i ≡ slot) × (other ≡ block)) ⊎ IsTorn 0 i other

-- one file after a step, and the others as before
pub record At (file : ℕ) (step : List Block → List Block → Type 0) (before after : Image) : Type 0 where
  pub others : (other : ℕ) → other ≢ file → after other ≡ before other
  pub there : step (before file) (after file)

-- A call that changes one file by a step, of which a crash may leave any part. Until a sync each image stays one.
pub record Changes (file : ℕ) (step : List Block → List Block → Type 0) (old new : Disk) : Type 0 where
  pub reads : At file step old.files new.files
  pub crash : (image : Image) → new.may_leave image → (before : Image) × old.may_leave before × At file step before image
  pub stays : (image : Image) → old.may_leave image → new.may_leave image
  pub said : new.said ≡ old.said
  pub time : Elapses (λ said. said ≡ new.said) old new

-- a call that changes nothing
pub record Reads (old new : Disk) : Type 0 where
  pub files : new.files ≡ old.files
  pub images : SameImages old new
  pub said : new.said ≡ old.said
  pub time : Elapses (λ said. said ≡ new.said) old new

-- blocks at the end of a file
pub record Appends {T : Type 0} (file : ℕ) (blocks : List Block) (result : Result T Failed) (old new : Disk) : Type 0 where
  pub done : OnOk result (new.files file ≡ old.files file ++ blocks)
  pub part : Changes file (Written file (length (old.files file)) blocks) old new

-- a slot of the meta file
pub record Puts {T : Type 0} (slot : ℕ) (block : Block) (result : Result T Failed) (old new : Disk) : Type 0 where
  pub done : OnOk result (new.files 0 ≡ with_slot slot block (old.files 0))
  pub part : Changes 0 (Put slot block) old new

-- a file shortened to this many blocks
pub record Cuts {T : Type 0} (file blocks : ℕ) (result : Result T Failed) (old new : Disk) : Type 0 where
  pub done : OnOk result (new.files file ≡ take blocks (old.files file))
  pub part : Changes file (Cut blocks) old new

-- a settled file in the place of another
pub record Becomes {T : Type 0} (file : ℕ) (blocks : List Block) (result : Result T Failed) (old new : Disk) : Type 0 where
  pub done : OnOk result (new.files file ≡ blocks)
  pub part : Changes file (Replaced blocks) old new

-- a file removed
pub record Removes (file : ℕ) (removed : Bool) (old new : Disk) : Type 0 where
  pub done : OnTrue removed (new.files file ≡ [])
  pub part : Changes file (Cut 0) old new

-- a file made sure of: at Ok an image has of it what reads give; what a crash leaves is one of the images before
pub record Syncs {T : Type 0} (file : ℕ) (result : Result T Failed) (old new : Disk) : Type 0 where
  pub done : OnOk result ((image : Image) → new.may_leave image → image file ≡ new.files file)
  pub files : new.files ≡ old.files
  pub crash : (image : Image) → new.may_leave image → old.may_leave image
  pub stays : (image : Image) → old.may_leave image → image file ≡ old.files file → new.may_leave image
  pub said : new.said ≡ old.said
  pub time : Elapses (λ said. said ≡ new.said) old new

-- the least number above this of a file that has blocks
abbrev pub NextFile : ℕ → Image → Option ℕ → Type 0
NextFile after files next = MatchOption next
    ((file : ℕ) → after < file → file < 2 ^ 64 → files file ≡ [])
    (λ least. (after < least) × (1 ≤ length (files least)) × ((file : ℕ) → after < file → file < least → files file ≡ []))
