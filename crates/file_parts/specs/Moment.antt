-- What an open file is at a moment, with its host and its view.
use Rattle.std.specs.Prelude.{◌≡◌, ◌≢◌, ℕ, List, Option}
use Rattle.block_host.specs.Disk.{Disk}
use Rattle.block_host.specs.declared.block.Block.{Block}
use Rattle.block_host.specs.declared.fresh.Fresh as Fresh
use Rattle.block_host.specs.declared.host.Host as Host
use Rattle.block_host.specs.declared.view.View as View
use Rattle.file_parts.specs.Held.{Held, held}
use Rattle.file_parts.specs.declared.parts.Parts.{Parts}

-- What an open file is at a moment: what it has in memory, its host's disk, the blocks that its view shows, the counts of
-- faults of both, that of the host at opening, and the block of a stop by a damaged block.
pub record Moment : Type 1 where
  pub held : Held
  pub disk : Disk
  pub file : List Block
  pub host_faults : ℕ
  pub view_faults : ℕ
  pub opened : ℕ
  pub damaged : Option (ℕ × ℕ)

abbrev pub moment : {H V F : Type 0} {h : Host.Ghosts H V F} {v : View.Ghosts V} {f : Fresh.Ghosts F} → Parts H V F h v f → Moment
moment {H} {V} {F} {h} {v} {f} p = record {
  held = held p;
  disk = h.disk p.host;
  file = v.content p.view;
  host_faults = h.faults p.host;
  view_faults = v.faults p.view;
  opened = p.opened;
  damaged = p.damaged;
}

-- other files and what was said stay
pub record Aside (revision : ℕ) (old new : Disk) : Type 0 where
  pub others : (other : ℕ) → other ≢ revision → new.files other ≡ old.files other
  pub said : new.said ≡ old.said
