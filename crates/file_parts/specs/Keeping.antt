-- What every updating call of an open file keeps, also where it fails, is refused or meets a file that has stopped.
use Rattle.std.specs.Prelude.{◌≡◌, ◌≢◌, ◌≤◌, ◌<◌, ℕ, Bool, IsTrue, List, length, slice_get, Some, Result, Err}
use Rattle.block_host.specs.Disk.{risen}
use Rattle.block_host.specs.declared.block.Block.{Block}
use Rattle.block_host.specs.declared.fresh.Fresh as Fresh
use Rattle.block_host.specs.declared.host.Host as Host
use Rattle.block_host.specs.declared.view.View as View
use Rattle.forest_model.specs.declared.refusal.Refusal.{Refusal}
use Rattle.forest_model.specs.declared.refusal.Refusal.TheVariants.{DiskFault, Stopped}
use Rattle.file_parts.specs.Causes.{OnlyMemory}
use Rattle.file_parts.specs.Growing.{Grows, IsNoHeader}
use Rattle.file_parts.specs.Moment.{Moment, Aside}
use Rattle.file_parts.specs.declared.parts.Parts.{Parts}

-- each block that was there stays at its place
pub record Begins (front whole : List Block) : Type 0 where
  pub long : length front ≤ length whole
  pub same : (at : ℕ) → at < length front → slice_get whole at ≡ slice_get front at

-- A host that fails stops the file, and its count is noted. In memory all else but the open block is as before, and how
-- much memory the index has to spare; so is what the view shows.
pub record Halts (told : Bool) (old new : Moment) : Type 0 where
  pub rises : risen old.host_faults ≤ new.host_faults
  pub held : new.held ≡ record old.held { wal = new.held.wal; tail = new.held.tail; stopped = Some new.host_faults }
  pub entries : new.held.wal.entries ≡ old.held.wal.entries
  pub gone : new.held.wal.gone ≡ old.held.wal.gone
  pub file : IsTrue told → new.file ≡ old.file

-- What a call keeps that puts such blocks at the end of the current file, whatever it answers.
pub record KeepsWith {T : Type 0} (IsNew : Block → Type 0) (told : Bool) (old new : Moment) (result : Result T Refusal) : Type 0 where
  -- other files, what was said, and the blocks that the current file had
  pub aside : IsTrue told → Aside old.held.revision old.disk new.disk
  pub front : IsTrue told → Begins (old.disk.files old.held.revision) (new.disk.files old.held.revision)
  -- and likewise in each image that a crash may leave
  pub crash : IsTrue told → Grows IsNew old.held.revision old.disk new.disk
  -- the clock and the host's count don't fall, and the count stands still where the host doesn't fail
  pub clock : old.disk.moment ≤ new.disk.moment
  pub counts : old.host_faults ≤ new.host_faults
  pub untroubled : result ≢ Err DiskFault → new.host_faults ≡ old.host_faults
  -- any other refusal leaves all but how much memory the index has to spare
  pub refused : (why : Refusal) → result ≡ Err why → why ≢ DiskFault → OnlyMemory old new
  pub halts : result ≡ Err DiskFault → Halts told old new
  -- no update reads the file, opens it, compacts it or flushes
  pub view_count : new.view_faults ≡ old.view_faults
  pub opened : new.opened ≡ old.opened
  pub damaged : new.damaged ≡ old.damaged
  pub floor : new.held.floor ≡ old.held.floor
  pub left : new.held.left ≡ old.held.left

-- what every update keeps: it puts no header
abbrev pub Keeps : {T : Type 0} → Bool → Moment → Moment → Result T Refusal → Type 0
Keeps told old new result = KeepsWith IsNoHeader told old new result

-- a call on a file that has stopped is refused, and leaves memory, host and view as they are
abbrev pub StaysStopped : {T H V F : Type 0} {h : Host.Ghosts H V F} {v : View.Ghosts V} {f : Fresh.Ghosts F} → Parts H V F h v f → Parts H V F h v f → Result T Refusal → Type 0
StaysStopped old new result = (faults : ℕ) → old.stopped ≡ Some faults → (result ≡ Err (Stopped faults)) × (new ≡ old)

-- what is outside of memory stays, and how the file was opened and stopped
pub record Outside {H V F : Type 0} {h : Host.Ghosts H V F} {v : View.Ghosts V} {f : Fresh.Ghosts F} (old new : Parts H V F h v f) : Type 0 where
  pub host : new.host ≡ old.host
  pub view : new.view ≡ old.view
  pub opened : new.opened ≡ old.opened
  pub damaged : new.damaged ≡ old.damaged
