-- What files hold, what a crash may leave of them, and what was said.
use Rattle.std.specs.Prelude.{◌≡◌, ◌⊎◌, ◌+◌, ◌-◌, ◌^◌, ◌≤◌, min, ℕ, List, [], ◌++◌, length, take, Result, OnOk, OnErr}
use Rattle.std.specs.Prelude.{Bool, false, cond, IsTrue}
use Rattle.std.proofs.Common.{subst}
use Rattle.block_host.specs.declared.block.Block.{Block}
use Rattle.block_host.specs.declared.failed.Failed.{Failed}

-- the blocks of each file, by its number; an absent file is empty
abbrev pub Image : Type 0
Image = ℕ → List Block

pub record Disk : Type 1 where
  -- what reads give
  pub files : Image
  -- what a crash at this moment may leave
  pub may_leave : Image → Type 0
  -- this moment, as a number that doesn't fall
  pub moment : ℕ
  -- what a crash at some moment from that one on might have left, with the bytes said by then
  pub left_since : ℕ → Image → List ℕ → Type 0
  -- the bytes said
  pub said : List ℕ

-- the disk of a host that tells nothing of its content
abbrev pub untold : Disk
untold = record { files = λ _. []; may_leave = λ _. Unit {0}; moment = 0; left_since = λ _ _ _. Unit {0}; said = [] }

-- it owes nothing on content
pub not_told : {A : Type 0} → IsTrue false → A
not_told {A} told = subst (λ (b : Bool). cond b A (Unit {0})) told tt

-- what is true of a disk at every moment
pub record Lawful (disk : Disk) : Type 0 where
  -- what reads give is one of the images
  pub present : disk.may_leave disk.files
  -- this moment is one of those since an earlier one
  pub counts_now : (t : ℕ) (image : Image) → t ≤ disk.moment → disk.may_leave image → disk.left_since t image disk.said
  -- since this moment there is no other
  pub only_now : (image : Image) (said : List ℕ) → disk.left_since disk.moment image said → disk.may_leave image × (said ≡ disk.said)
  -- what is left since a later moment is left since an earlier one
  pub earlier : (t u : ℕ) (image : Image) (said : List ℕ) → t ≤ u → disk.left_since u image said → disk.left_since t image said

-- the images stay
pub record SameImages (old new : Disk) : Type 0 where
  pub none_new : (image : Image) → new.may_leave image → old.may_leave image
  pub none_lost : (image : Image) → old.may_leave image → new.may_leave image

-- the bytes said at some moment of a call that says these: all that was said before it, then the first of them
abbrev pub SaidMeanwhile : List ℕ → Disk → Disk → List ℕ → Type 0
SaidMeanwhile bytes old new said = (n : ℕ) × (n ≤ length bytes) × (said ≡ old.said ++ take n bytes) × (length said ≤ length new.said)

-- Time goes on over a call: a crash since t might have left what it might have left before the call, or what it may
-- leave now, with bytes said that had been heard at some moment of the call.
pub record Elapses (heard : List ℕ → Type 0) (old new : Disk) : Type 0 where
  pub nothing_else : (t : ℕ) (image : Image) (said : List ℕ) → t ≤ old.moment → new.left_since t image said → old.left_since t image said ⊎ (new.may_leave image × heard said)
  pub keeps : (t : ℕ) (image : Image) (said : List ℕ) → t ≤ old.moment → old.left_since t image said → new.left_since t image said

-- a call that says bytes: at Ok all of them, at Err the first of them; no file changes
pub record Says {T : Type 0} (bytes : List ℕ) (result : Result T Failed) (old new : Disk) : Type 0 where
  pub done : OnOk result (new.said ≡ old.said ++ bytes)
  pub part : OnErr result ((n : ℕ) × (n ≤ length bytes) × (new.said ≡ old.said ++ take n bytes))
  pub files : new.files ≡ old.files
  pub images : SameImages old new
  pub time : Elapses (SaidMeanwhile bytes old new) old new

-- one more than this count, which stands still at the last value of a u64
abbrev pub risen : ℕ → ℕ
risen count = min (count + 1) (2 ^ 64 - 1)
