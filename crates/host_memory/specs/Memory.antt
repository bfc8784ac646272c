-- What a host in memory tells.
use Rattle.std.specs.Prelude.{Bool, ◌≡◌, ◌⊎◌, ◌-◌, ◌^◌, ◌&&◌, not, if◌then◌else◌, ◌∷◌, ℕ, List, [], length, Result}
use Rattle.std.specs.Result.{is_err}
use Rattle.std.proofs.Common.{refl, inl, inr, arith, ⊎_elim}
use Rattle.block_host.specs.declared.block.Block.{Block}
use Rattle.block_host.specs.declared.failed.Failed.{Failed}
use Rattle.block_host.specs.Disk.{Image, Disk, Lawful, risen}
use Rattle.host_memory.specs.Pending.{FileState, Leaves, Noted}
use Rattle.host_memory.specs.Faults.{is_due, listed_of, Numbered, numbered}
use Rattle.host_memory.specs.Held.{held, Becomes, Stays}
use Rattle.host_memory.specs.Since.{Since, Since-below, Since-earlier}
use Rattle.host_memory.specs.declared.state.State.{State}
use Rattle.host_memory.specs.declared.fresh.MemoryFresh.{MemoryFresh}
use Rattle.host_memory.specs.declared.memory_host.MemoryHost.{MemoryHost}
use Rattle.host_memory.specs.declared.view.MemoryView.{MemoryView}

-- a crash in this state may leave this image
abbrev pub MayLeave : State → Image → Type 0
MayLeave state image = (file : ℕ) → Leaves file (held state file).blocks (held state file).steps (image file)

-- the same, with these bytes said
abbrev pub Shows : State → Image → List ℕ → Type 0
Shows state image said = MayLeave state image × (said ≡ state.said.items)

-- the disk of a state, after these states, the newest first
abbrev pub disk_of : State → List State → Disk
disk_of state past = record {
  files = λ file. (held state file).blocks;
  may_leave = MayLeave state;
  moment = length past;
  left_since = λ t image said. Shows state image said ⊎ Since Shows past t image said;
  said = state.said.items;
}

abbrev pub memory_disk : MemoryHost → Disk
memory_disk host = disk_of host.state host.past.items

abbrev pub memory_faults : MemoryHost → ℕ
memory_faults host = host.own.count

-- how many calls failed for want of memory
abbrev pub memory_short : MemoryHost → ℕ
memory_short host = host.own.short

-- whether the host's next call that can fail is to fail
abbrev pub memory_due : MemoryHost → Bool
memory_due host = is_due host.own

-- a call failed for want of memory
abbrev pub HasRunShort : MemoryHost → MemoryHost → Type 0
HasRunShort old new = memory_short new ≡ risen (memory_short old)

-- whether the next call of a view, and of a fresh file, that can fail is to fail
abbrev pub view_due : MemoryView → Bool
view_due view = is_due view.own

abbrev pub fresh_due : MemoryFresh → Bool
fresh_due fresh = is_due fresh.own

-- how many calls of a view, and of a fresh file, failed for want of memory
abbrev pub view_short : MemoryView → ℕ
view_short view = view.own.short

abbrev pub fresh_short : MemoryFresh → ℕ
fresh_short fresh = fresh.own.short

-- which calls of a view, and of a fresh file, are to fail
abbrev pub view_plan : MemoryView → Numbered
view_plan view = numbered view.own

abbrev pub fresh_plan : MemoryFresh → Numbered
fresh_plan fresh = numbered fresh.own

-- what is known of a file: its blocks, and the changes that are pending
abbrev pub memory_file : MemoryHost → ℕ → FileState
memory_file host = held host.state

-- how many of the host's calls that can fail were made; which of them, of a view's and of a fresh file's are to fail; and after how many each fails
pub record Plan : Type 0 where
  pub calls : ℕ
  pub host : List ℕ
  pub views : List ℕ
  pub fresh : List ℕ
  pub stop : ℕ

abbrev pub memory_plan : MemoryHost → Plan
memory_plan host = record { calls = host.own.calls; host = listed_of host.own.listed; views = listed_of host.views; fresh = listed_of host.fresh; stop = host.own.stop }

-- no call was made, and none is to fail
abbrev pub no_plan : Plan
no_plan = record { calls = 0; host = []; views = []; fresh = []; stop = 2 ^ 64 - 1 }

-- the greatest size of a fresh file that was absorbed
abbrev pub memory_greatest : MemoryHost → ℕ
memory_greatest host = host.greatest

-- the files, what a crash leaves, the bytes said and the counts stay
pub record Untouched (old new : MemoryHost) : Type 0 where
  pub state : new.state ≡ old.state
  pub past : new.past.items ≡ old.past.items
  pub faults : memory_faults new ≡ memory_faults old
  pub short : memory_short new ≡ memory_short old
  pub greatest : memory_greatest new ≡ memory_greatest old

-- nothing of the files, of what a crash leaves of them, and of the bytes said changed
abbrev pub Unmoved : MemoryHost → MemoryHost → Type 0
Unmoved old new = Stays old.state new.state

-- one file became this, with what is pending of it; the others, and what was said, stay
abbrev pub Became : ℕ → FileState → MemoryHost → MemoryHost → Type 0
Became file after old new = Becomes file after old.state new.state

-- one more of the host's calls was made
abbrev pub Counted : MemoryHost → MemoryHost → Type 0
Counted old new = memory_plan new ≡ record (memory_plan old) { calls = risen (memory_plan old).calls }

-- What a call that can fail does to the counts: it is counted, a failure is a fault, and one of a call that isn't to fail
-- is want of memory.
pub record Tried {T : Type 0} (result : Result T Failed) (old new : MemoryHost) : Type 0 where
  pub counted : Counted old new
  pub faults : memory_faults new ≡ (if is_err result then risen (memory_faults old) else memory_faults old)
  pub short : memory_short new ≡ (if is_err result && not (memory_due old) then risen (memory_short old) else memory_short old)

pub Leaves-present : (file : ℕ) (blocks : List Block) (steps : List Noted) → Leaves file blocks steps blocks
Leaves-present file blocks [] = refl
Leaves-present file blocks (noted ∷ steps) = inl refl

pub memory_lawful : (host : MemoryHost) → Lawful (memory_disk host)
memory_lawful host = record {
  present = λ file. Leaves-present file (held host.state file).blocks (held host.state file).steps;
  counts_now = λ t image le now. inl (now, refl);
  only_now = λ image said left. ⊎_elim (λ here. here) (λ had. absurd (let below = Since-below Shows host.past.items (length host.past.items) image said had in omega (arith, below))) left;
  earlier = λ t u image said le left. ⊎_elim (λ here. inl here) (λ had. inr (Since-earlier Shows host.past.items t u image said le had)) left;
}
