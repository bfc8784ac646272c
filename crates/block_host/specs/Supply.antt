-- What a source in memory still has, and how it gives it.
use Rattle.std.specs.Prelude.{ℕ, List}

pub record Supply : Type 0 where
  -- the bytes that it still has to give
  pub rest : List ℕ
  -- the most that it gives in one read
  pub step : ℕ
  -- the number of the read that fails, counted from the next as 1; 0 where none does
  pub fails_at : ℕ
  -- how many reads have failed
  pub faults : ℕ
