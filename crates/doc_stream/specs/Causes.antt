-- Why records can't be read: the block that breaks them.
use Rattle.std.specs.Prelude.{◌≡◌, ◌⊎◌, ℕ, ◌+◌, ◌/◌, ◌<◌, ◌≤◌, List, [], Bool, IsTrue}
use Rattle.block_host.specs.declared.block.Block.{Block}
use Rattle.block_host.specs.Disk.{risen}
use Rattle.forest_model.specs.declared.refusal.Refusal.{Refusal}
use Rattle.forest_model.specs.declared.stored.Rec.{Rec}
use Rattle.doc_stream.specs.OpenBlock.{OpenBlock}
use Rattle.doc_stream.specs.Runs.{RecordsOf}
use Rattle.doc_stream.specs.Reading.{RecordAt}
use Rattle.doc_stream.specs.Shown.{AreSealed, open_file, range_of}
use Rattle.doc_stream.specs.Broken.{BreaksRange, BreaksAddress}
use Rattle.doc_stream.specs.Steps.{SameBelow}

-- so many blocks behind the one in which it begins a record may reach
abbrev pub longest_run : ℕ
longest_run = 259

-- The block of the asked range by which it has no records: what is wrong with it, and that no records stand there, whatever
-- lies behind it. All blocks before it are sealed.
pub record BreaksRecords (revision : ℕ) (file : List Block) (start count block : ℕ) : Type 0 where
  pub asked : start ≤ block
  pub within : block < start + count
  pub sealed : AreSealed (range_of revision (start + count)) file start block
  pub breaks : BreaksRange revision (start + count) file [] start block
  pub broken : (other : List Block) (records : List (ℕ × Rec)) → SameBelow (block + 1) file other → RecordsOf revision other start count records → ⊥

-- The block at or behind an address's by which no record stands at the address, in the same way. All blocks from the
-- address's up to it are sealed or open.
pub record BreaksRecord (revision : ℕ) (file : List Block) (tail : OpenBlock) (address block : ℕ) : Type 0 where
  pub asked : address / 4096 ≤ block
  pub within : block ≤ address / 4096 + longest_run
  pub sealed : AreSealed (open_file revision tail) file (address / 4096) block
  pub breaks : BreaksAddress (open_file revision tail) file address block
  pub broken : (other : List Block) (r : Rec) → SameBelow (block + 1) file other → RecordAt revision other tail address r → ⊥

-- The reasons not to give what was asked: no memory; a count of faults that rose; a block that breaks the records.
abbrev pub Reason : Bool → ℕ → (ℕ → Type 0) → ℕ → ℕ → Refusal → Type 0
Reason tells revision Breaks before after why =
    (why ≡ Refusal.NoMemory) ⊎ ((why ≡ Refusal.DiskFault) × (risen before ≤ after))
    ⊎ ((block : ℕ) × (why ≡ Refusal.Damaged revision block) × (IsTrue tells → Breaks block))

-- The same where a block is told: one that lies in what was asked, also where the content isn't told.
abbrev pub Cause : Bool → ℕ → (ℕ → Type 0) → (ℕ → Type 0) → ℕ → ℕ → Refusal → Type 0
Cause tells revision Lies Breaks before after why =
    (why ≡ Refusal.NoMemory) ⊎ ((why ≡ Refusal.DiskFault) × (risen before ≤ after))
    ⊎ ((block : ℕ) × (why ≡ Refusal.Damaged revision block) × Lies block × (IsTrue tells → Breaks block))

-- The reasons not to have a block: a count of faults that rose, or the block itself. No memory is asked for.
abbrev pub Missing : Bool → ℕ → ℕ → Type 0 → ℕ → ℕ → Refusal → Type 0
Missing tells revision at Breaks before after why =
    ((why ≡ Refusal.DiskFault) × (risen before ≤ after)) ⊎ ((why ≡ Refusal.Damaged revision at) × (IsTrue tells → Breaks))
