-- Blocks that were there stay at their places while a commit puts others behind them.
use Rattle.std.proofs.Common.{◌≡◌, ℕ, ◌≤◌, List, length, refl, sym, subst, arith}
use Rattle.std.specs.Prelude.{Result}
use Rattle.block_host.specs.Calls.{Appends, Reads, Syncs}
use Rattle.block_host.specs.Disk.{Disk, Image}
use Rattle.block_host.specs.declared.block.Block.{Block}
use Rattle.block_host.specs.declared.failed.Failed.{Failed}
use Rattle.file_parts.specs.Growing.{Grows, IsAmong, IsAny}
use Rattle.file_parts.specs.Keeping.{Begins}
use Rattle.file_parts.specs.Moment.{Aside}
use Rattle.file_parts.proofs.Growing.{appended_grows, grows_as, grows_none, grows_on, read_grows, synced_grows}
use Rattle.file_parts.proofs.Keeping.{appended_front, begins_on, begins_whole}

pub front_appended : {T : Type 0} (file : ℕ) (blocks : List Block) (result : Result T Failed) (old new : Disk) → Appends file blocks result old new → Begins (old.files file) (new.files file)
front_appended file blocks result old new appends = appended_front file blocks result old new appends

pub front_same : (file : ℕ) (old mid new : Disk) → Begins (old.files file) (mid.files file) → new.files ≡ mid.files → Begins (old.files file) (new.files file)
front_same file old mid new front same = subst (λ (files : Image). Begins (old.files file) (files file)) (sym same) front

pub front_synced : {T : Type 0} (file : ℕ) (result : Result T Failed) (old new : Disk) → Syncs file result old new → Begins (old.files file) (new.files file)
front_synced file result old new syncs = front_same file old old new (begins_whole (old.files file)) syncs.files

pub front_put : {T U : Type 0} (file : ℕ) (blocks : List Block) (first : Result T Failed) (result : Result U Failed) (old mid new : Disk) → Appends file blocks first old mid → Syncs file result mid new → Begins (old.files file) (new.files file)
front_put file blocks first result old mid new appends syncs = front_same file old mid new (appended_front file blocks first old mid appends) syncs.files

pub front_on : (file : ℕ) (old mid new : Disk) → Begins (old.files file) (mid.files file) → Begins (mid.files file) (new.files file) → Begins (old.files file) (new.files file)
front_on file old mid new first next = begins_on (old.files file) (mid.files file) (new.files file) first next

-- ---- the same in images

pub any_appended : {T : Type 0} (file : ℕ) (blocks : List Block) (result : Result T Failed) (old new : Disk) → Appends file blocks result old new → Grows IsAny file old new
any_appended file blocks result old new appends = grows_as (IsAmong blocks) IsAny file old new (λ block among. record { same = refl }) (appended_grows file blocks result old new appends)

pub any_synced : {T : Type 0} (file : ℕ) (result : Result T Failed) (old new : Disk) → Syncs file result old new → Grows IsAny file old new
any_synced file result old new syncs = synced_grows IsAny file result old new syncs

pub any_put : {T U : Type 0} (file : ℕ) (blocks : List Block) (first : Result T Failed) (result : Result U Failed) (old mid new : Disk) → old.moment ≤ mid.moment → Appends file blocks first old mid → Syncs file result mid new
    → Grows IsAny file old new
any_put file blocks first result old mid new clock appends syncs =
    grows_on IsAny file old mid new clock appends.part.said appends.part.reads.there.no_shorter (any_appended file blocks first old mid appends) (any_synced file result mid new syncs)

pub any_on : (file : ℕ) (old mid new : Disk) → old.moment ≤ mid.moment → Aside file old mid → Begins (old.files file) (mid.files file) → Grows IsAny file old mid → Grows IsAny file mid new → Grows IsAny file old new
any_on file old mid new clock aside front first next = grows_on IsAny file old mid new clock aside.said front.long first next

pub any_shown : (file : ℕ) (old mid new : Disk) → old.moment ≤ mid.moment → Aside file old mid → Begins (old.files file) (mid.files file) → Grows IsAny file old mid → Reads mid new → Grows IsAny file old new
any_shown file old mid new clock aside front first reads = grows_on IsAny file old mid new clock aside.said front.long first (read_grows IsAny file mid new reads)

-- what one append, or none, leaves before the file is made sure of
pub record Begun (file : ℕ) (old mid : Disk) : Type 0 where
  pub clock : old.moment ≤ mid.moment
  pub said : mid.said ≡ old.said
  pub long : length (old.files file) ≤ length (mid.files file)
  pub grows : Grows IsAny file old mid

pub begun_appended : {T : Type 0} (file : ℕ) (blocks : List Block) (result : Result T Failed) (old mid : Disk) → old.moment ≤ mid.moment → Appends file blocks result old mid → Begun file old mid
begun_appended file blocks result old mid clock appends = record {
  clock = clock;
  said = appends.part.said;
  long = appends.part.reads.there.no_shorter;
  grows = any_appended file blocks result old mid appends;
}

pub begun_none : (file : ℕ) (disk : Disk) → Begun file disk disk
begun_none file disk = record { clock = omega arith; said = refl; long = omega arith; grows = grows_none IsAny file disk }

pub begun_synced : {T : Type 0} (file : ℕ) (result : Result T Failed) (old mid new : Disk) → Begun file old mid → Syncs file result mid new → Grows IsAny file old new
begun_synced file result old mid new begun syncs = grows_on IsAny file old mid new begun.clock begun.said begun.long begun.grows (any_synced file result mid new syncs)
