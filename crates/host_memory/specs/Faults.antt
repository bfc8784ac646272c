-- Which calls of an object fail.
use Rattle.std.specs.Prelude.{◌-◌, ◌^◌, ◌==◌, ◌||◌, Bool, nat_lt, Vec, ℕ, List, [], Option, Some, None}
use Rattle.std.specs.List.{list_any}
use Rattle.std.specs.Arc.{arc_value}
use Rattle.std.specs.declared.alloc.Global.{Global}
use Rattle.std.specs.declared.sync.Arc.{Arc}
use Rattle.block_host.specs.Disk.{risen}
use Rattle.host_memory.specs.declared.faults.Faults.{Faults}

-- the numbers of a list that may be shared
abbrev pub listed_of : Option (Arc (Vec ℕ Global) Global) → List ℕ
listed_of None = []
listed_of (Some numbers) = (arc_value numbers).items

-- the next call is to fail: its number is listed, or past the one after which all calls fail
abbrev pub is_due : Faults → Bool
is_due faults = list_any (λ number. number == risen faults.calls) (listed_of faults.listed) || nat_lt faults.stop (risen faults.calls)

-- no call has been made
abbrev pub no_calls : Option (Arc (Vec ℕ Global) Global) → Faults
no_calls listed = record { listed = listed; stop = 2 ^ 64 - 1; calls = 0; count = 0; short = 0 }

-- how many calls of an object that can fail were made, which of them are to fail, and after how many each fails
pub record Numbered : Type 0 where
  pub calls : ℕ
  pub listed : List ℕ
  pub stop : ℕ

abbrev pub numbered : Faults → Numbered
numbered faults = record { calls = faults.calls; listed = listed_of faults.listed; stop = faults.stop }

-- no call was made, and only those of these numbers are to fail
abbrev pub only_listed : List ℕ → Numbered
only_listed listed = record { calls = 0; listed = listed; stop = 2 ^ 64 - 1 }

-- one more call was made
abbrev pub once_more : Numbered → Numbered
once_more plan = record plan { calls = risen plan.calls }
