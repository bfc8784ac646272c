-- What a crash leaves while blocks are put at the end of a file, and a header behind them.
use Rattle.std.proofs.Common.{◌≡◌, ℕ, ◌+◌, ◌≤◌, List, [], ◌∷◌, ◌++◌, length, Option, refl, sym, subst, ◌∙◌, arith, inl, inr}
use Rattle.std.specs.Prelude.{◌⊎◌, Result}
use Rattle.block_host.proofs.Moments.{begins, goes_on, goes_on_by, weakens}
use Rattle.block_host.specs.Calls.{Written, Changes, Appends, Syncs, Reads}
use Rattle.block_host.specs.Disk.{Disk, Image, Lawful, Elapses}
use Rattle.block_host.specs.Order.{IsSettled}
use Rattle.block_host.specs.Sealed.{IsSealed}
use Rattle.block_host.specs.declared.block.Block.{Block}
use Rattle.block_host.specs.declared.failed.Failed.{Failed}
use Rattle.header_block.specs.Layout.{header_bytes}
use Rattle.file_parts.specs.Moment.{Moment}
use Rattle.file_core.specs.Updates.{IsOpenBlock, listed}
use Rattle.file_commit.specs.Committing.{header_after}
use Rattle.file_commit.specs.Ordered.{Leaves, IsBegun, IsInTurn, HasOpenBlock, HasHeader, IsOrdered, Ordered}

-- ---- a run of calls

leaves_none : (Is : Image → Type 0) (disk : Disk) → Lawful disk → ((image : Image) → disk.may_leave image → Is image) → Leaves Is disk disk
leaves_none Is disk lawful here = record { now = here; since = begins disk (λ image said. Is image × (said ≡ disk.said)) lawful (λ image left. (here image left, refl)) }

leaves_on : (Is : Image → Type 0) (old mid new : Disk) → Leaves Is old mid → mid.said ≡ old.said → mid.moment ≤ new.moment → Elapses (λ said. said ≡ new.said) mid new → new.said ≡ mid.said
    → ((image : Image) → new.may_leave image → Is image) → Leaves Is old new
leaves_on Is old mid new so_far said clock time same here = record {
  now = here;
  since = goes_on old mid new (λ image said. Is image × (said ≡ old.said)) (λ said. said ≡ new.said) so_far.since clock time (λ image heard_by left heard. (here image left, heard ∙ same ∙ said));
}

leaves_also : (Is So : Image → Type 0) (old new : Disk) → ((image : Image) → Is image → So image) → Leaves Is old new → Leaves So old new
leaves_also Is So old new implies leaves = record {
  now = λ image left. implies image (leaves.now image left);
  since = weakens old new (λ image said. Is image × (said ≡ old.said)) (λ image said. So image × (said ≡ old.said)) (λ image said h. (implies image h.0, h.1)) leaves.since;
}

-- ---- blocks, and a sync behind them

unwritten : (file at : ℕ) (blocks bs : List Block) → Written file at blocks bs bs
unwritten file at blocks bs = record { no_shorter = omega arith; no_longer = omega arith; kept = λ i within apart. refl; each = λ i block is. inl is }

none_begun : (file : ℕ) (blocks : List Block) (disk : Disk) (image : Image) → disk.may_leave image → IsBegun file disk blocks image
none_begun file blocks disk image left = record { before = image; left = left; others = λ other apart. refl; there = unwritten file (length (disk.files file)) blocks (image file) }

begun_by : (file : ℕ) (blocks : List Block) (d0 d1 : Disk) → Changes file (Written file (length (d0.files file)) blocks) d0 d1 → (image : Image) → d1.may_leave image → IsBegun file d0 blocks image
begun_by file blocks d0 d1 changes image left =
    let from = changes.crash image left in
    record { before = from.0; left = from.1; others = from.2.others; there = from.2.there }

module _ (file : ℕ) (blocks : List Block) (d0 d1 : Disk) (lawful : Lawful d0) (clock : d0.moment ≤ d1.moment) where
  pub left_appended : {T : Type 0} (result : Result T Failed) → Appends file blocks result d0 d1 → Leaves (IsBegun file d0 blocks) d0 d1
  left_appended result appends =
      leaves_on (IsBegun file d0 blocks) d0 d0 d1 (leaves_none (IsBegun file d0 blocks) d0 lawful (none_begun file blocks d0)) refl clock appends.part.time appends.part.said
      (begun_by file blocks d0 d1 appends.part)

  pub left_synced : {T : Type 0} (result : Result T Failed) → Syncs file result d0 d1 → Leaves (IsBegun file d0 blocks) d0 d1
  left_synced result syncs =
      leaves_on (IsBegun file d0 blocks) d0 d0 d1 (leaves_none (IsBegun file d0 blocks) d0 lawful (none_begun file blocks d0)) refl clock syncs.time syncs.said
      (λ image left. none_begun file blocks d0 image (syncs.crash image left))

pub left_put : {T U : Type 0} (file : ℕ) (blocks : List Block) (d0 d1 d2 : Disk) (first : Result T Failed) (result : Result U Failed) → Lawful d0 → Appends file blocks first d0 d1 → d0.moment ≤ d1.moment
    → Syncs file result d1 d2 → d1.moment ≤ d2.moment → Leaves (IsBegun file d0 blocks) d0 d2
left_put file blocks d0 d1 d2 first result lawful appends clock syncs later =
    leaves_on (IsBegun file d0 blocks) d0 d1 d2 (left_appended file blocks d0 d1 lawful clock first appends) appends.part.said later syncs.time syncs.said
    (λ image left. begun_by file blocks d0 d1 appends.part image (syncs.crash image left))

-- ---- records, and then their header

module _ (file : ℕ) (records : List Block) (header : Block) (d0 d1 : Disk) (opened : Leaves (IsBegun file d0 records) d0 d1) where
  pub records_first : Leaves (IsInTurn file d0 records header) d0 d1
  records_first =
      leaves_also (IsBegun file d0 records) (IsInTurn file d0 records header) d0 d1
      (λ image begun. record { before = begun.before; left = begun.left; others = begun.others; there = inl begun.there }) opened

  module _ (d2 : Disk) (settled : IsSettled file d1) (is : d1.files file ≡ d0.files file ++ records) (said : d1.said ≡ d0.said) (put : Leaves (IsBegun file d1 (header ∷ [])) d1 d2) where
    headed : (image : Image) → IsBegun file d1 (header ∷ []) image → IsInTurn file d0 records header image
    headed image begun =
        let was = opened.now begun.before begun.left in
        record {
          before = was.before;
          left = was.left;
          others = λ other apart. begun.others other apart ∙ was.others other apart;
          there = inr (subst (λ (bs : List Block). Written file (length bs) (header ∷ []) bs (image file)) is
              (subst (λ (bs : List Block). Written file (length (d1.files file)) (header ∷ []) bs (image file)) (settled begun.before begun.left) begun.there));
        }

    pub header_then : Leaves (IsInTurn file d0 records header) d0 d2
    header_then =
        let first = records_first in
        let second = weakens d1 d2 (λ image heard. IsBegun file d1 (header ∷ []) image × (heard ≡ d1.said)) (λ image heard. IsInTurn file d0 records header image × (heard ≡ d0.said))
        (λ image heard h. (headed image h.0, h.1 ∙ said)) put.since in
        record {
          now = λ image left. headed image (put.now image left);
          since = goes_on_by d0 d1 d2 (λ image heard. IsInTurn file d0 records header image × (heard ≡ d0.said)) first.since second;
        }

-- a call that changes nothing
pub left_read : (Is : Image → Type 0) (old mid new : Disk) → Leaves Is old mid → mid.said ≡ old.said → mid.moment ≤ new.moment → Reads mid new → Leaves Is old new
left_read Is old mid new so_far said clock reads =
    leaves_on Is old mid new so_far said clock reads.time reads.said (λ image left. so_far.now image (reads.images.none_new image left))

-- ---- a commit

pub ordered_none : (m : Moment) → Lawful m.disk → Ordered m m
ordered_none m lawful = leaves_none (IsOrdered m) m.disk lawful (λ image left. record { before = image; left = left; others = λ other apart. refl; there = inl refl })

pub ordered : (old : Moment) (new : Disk) (block : Option Block) (header : Block) → IsOpenBlock old.held.revision old.held.tail block
    → IsSealed old.held.revision (old.held.tail.number + length (listed block)) 4 (header_bytes (header_after old.held)) header
    → Leaves (IsInTurn old.held.revision old.disk (listed block) header) old.disk new → Leaves (IsOrdered old) old.disk new
ordered old new block header open_block is_sealed leaves =
    leaves_also (IsInTurn old.held.revision old.disk (listed block) header) (IsOrdered old) old.disk new by leaves
  where
    there : (before now : List Block) → Written old.held.revision (length (old.disk.files old.held.revision)) (listed block) before now
        ⊎ Written old.held.revision (length (old.disk.files old.held.revision ++ listed block)) (header ∷ []) (old.disk.files old.held.revision ++ listed block) now
        → (now ≡ before) ⊎ HasOpenBlock old before now ⊎ HasHeader old now
    there before now (inl begun) = inr (inl (record { block = block; open_block = open_block; begun = begun }))
    there before now (inr begun) = inr (inr (record { block = block; header = header; open_block = open_block; is_sealed = is_sealed; begun = begun }))

    by : (image : Image) → IsInTurn old.held.revision old.disk (listed block) header image → IsOrdered old image
    by image turn = record {
      before = turn.before;
      left = turn.left;
      others = turn.others;
      there = there (turn.before old.held.revision) (image old.held.revision) turn.there;
    }

-- on the same disk
pub ordered_at : (old : Moment) (mid new : Disk) → new ≡ mid → Leaves (IsOrdered old) old.disk mid → Leaves (IsOrdered old) old.disk new
ordered_at old mid new is leaves = subst (λ (d : Disk). Leaves (IsOrdered old) old.disk d) (sym is) leaves
