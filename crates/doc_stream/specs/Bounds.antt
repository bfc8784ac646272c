-- What holds of the fields of an open block.
use Rattle.std.specs.Prelude.{ℕ, ◌^◌, ◌<◌, ◌≤◌}

-- its number, how many bytes it has, and for how many there is memory
pub record IsOpen (number used capacity : ℕ) : Type 0 where
  pub not_full : used < 4064
  pub has_memory : 4064 ≤ capacity
  pub low : number ≤ 2 ^ 42
  pub has_next : 1 ≤ used → number < 2 ^ 42
