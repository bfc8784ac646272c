-- What an image of the disk stands for: its retained commits, and the numbers of the last header and of the slot that counts.
use Rattle.std.specs.Prelude.{◌≡◌, ◌≢◌, ℕ, ◌≤◌, List, ◌∷◌, Some}
use Rattle.block_host.specs.Calls.{block_at}
use Rattle.block_host.specs.Disk.{Image}
use Rattle.block_host.specs.declared.block.Block.{Block}
use Rattle.forest_model.specs.State.{Durable}
use Rattle.forest_model.specs.declared.stored.Header.{Header}
use Rattle.header_block.specs.Headers.{AreHeadersOf, Placed}
use Rattle.meta_slots.specs.Slots.{IsCurrent, IsSlot, Slot}
use Rattle.file_image.specs.Commits.{AreCommitsOf}

-- The blocks of a meta file name a revision, in a generation: that of the slot that counts. It is no meta file, whose
-- revision is 0, and the other slot, where it is one, has another generation.
pub record Names (meta : List Block) (generation revision : ℕ) : Type 0 where
  pub slot : IsCurrent (block_at meta 0) (block_at meta 1) (Some (generation, revision))
  pub not_meta : 1 ≤ revision
  pub apart : (a b : Slot) → IsSlot 0 a (block_at meta 0) → IsSlot 1 b (block_at meta 1) → a.0 ≢ b.0

-- What a file stands for by its last header, in this block: the commits of its headers, and the numbers of the last.
pub record StandsBy (file : List Block) (at : ℕ) (header : Header) (d : Durable) : Type 0 where
  pub older : List Placed
  pub headers : AreHeadersOf d.revision file (at, header) older
  pub commits : AreCommitsOf d.revision file ((at, header) ∷ older) d.commits
  pub next_commit : header.next_commit ≡ d.next_commit
  pub next_store : header.next_store ≡ d.next_store

pub record Stands (image : Image) (d : Durable) : Type 0 where
  pub names : Names (image 0) d.generation d.revision
  pub at : ℕ
  pub header : Header
  pub by : StandsBy (image d.revision) at header d
