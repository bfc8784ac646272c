-- What holds of any relation that says which images since a clock stand for which durables.
use Rattle.std.specs.Prelude.{ℕ, ◌≤◌, List, Contains}
use Rattle.forest_model.specs.State.{Durable}

-- What is covered since a clock with a list is covered since each later clock, and with each longer list.
pub record Weakens (covers : ℕ → List Durable → Type 0) : Type 0 where
  pub later : (since after : ℕ) (list : List Durable) → since ≤ after → covers since list → covers after list
  pub longer : (since : ℕ) (short long : List Durable) → ((d : Durable) → Contains short d → Contains long d) → covers since short → covers since long
