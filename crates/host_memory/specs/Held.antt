-- What the state of a host in memory holds.
use Rattle.std.specs.Prelude.{◌≡◌, ◌≢◌, ℕ, unwrap_or}
use Rattle.std.specs.Ordering.{nat_cmp}
use Rattle.std.specs.BTreeMap as tree
use Rattle.host_memory.specs.Pending.{FileState, no_file}
use Rattle.host_memory.specs.declared.state.State.{State}

-- a file by its number
abbrev pub held : State → ℕ → FileState
held state file = unwrap_or (tree.get nat_cmp state.files file) no_file

-- one file became this, and nothing else changed
pub record Becomes (file : ℕ) (after : FileState) (old new : State) : Type 0 where
  pub there : held new file ≡ after
  pub others : (other : ℕ) → other ≢ file → held new other ≡ held old other
  pub said : new.said.items ≡ old.said.items

-- nothing changed
pub record Stays (old new : State) : Type 0 where
  pub files : (file : ℕ) → held new file ≡ held old file
  pub said : new.said.items ≡ old.said.items
