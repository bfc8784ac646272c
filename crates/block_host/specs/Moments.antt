-- What a crash leaves at each moment of a run of calls.
use Rattle.std.specs.Prelude.{◌⊎◌, ◌≤◌, ℕ, List}
use Rattle.block_host.specs.Disk.{Image, Disk}

-- a crash at any moment since old leaves an image, with the bytes said by then, that has P
pub record LeavesOnly (old new : Disk) (P : Image → List ℕ → Type 0) : Type 0 where
  pub later : old.moment ≤ new.moment
  pub each : (image : Image) (said : List ℕ) → new.left_since old.moment image said → P image said
  -- for a run that began earlier
  pub before : (t : ℕ) (image : Image) (said : List ℕ) → t ≤ old.moment → new.left_since t image said → old.left_since t image said ⊎ P image said
