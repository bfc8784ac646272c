-- A run of calls that touches one file.
use Rattle.std.proofs.Common.{◌≡◌, ◌≤◌, ℕ, List, refl, ◌∙◌, ap}
use Rattle.std.specs.Prelude.{Result}
use Rattle.block_host.specs.declared.block.Block.{Block}
use Rattle.block_host.specs.declared.failed.Failed.{Failed}
use Rattle.block_host.specs.Disk.{Disk, Image, Lawful}
use Rattle.block_host.specs.Calls.{Changes, Syncs}
use Rattle.block_host.specs.Order.{OthersLeft, TouchesOnly}
use Rattle.block_host.proofs.Moments.{begins, goes_on}

module _ (file : ℕ) where
  pub alone : (disk : Disk) → Lawful disk → TouchesOnly file disk disk
  alone disk lawful = record {
    others = λ other apart. refl;
    left = λ image left. (image, left, λ other apart. refl);
    any_moment = begins disk (λ image said. OthersLeft file disk image × (said ≡ disk.said)) lawful (λ image left. ((image, left, λ other apart. refl), refl));
    said = refl;
  }

  module _ (old mid new : Disk) (so_far : TouchesOnly file old mid) (clock : mid.moment ≤ new.moment) where
    pub alone_by_change : (step : List Block → List Block → Type 0) → Changes file step mid new → TouchesOnly file old new
    alone_by_change step changes =
        let left : (image : Image) → new.may_leave image → OthersLeft file old image = λ image left.
        let from = changes.crash image left in
        let was = so_far.left from.0 from.1 in
        (was.0, was.1, λ other apart. from.2.others other apart ∙ was.2 other apart) in
        record {
          others = λ other apart. changes.reads.others other apart ∙ so_far.others other apart;
          left = left;
          any_moment = goes_on old mid new (λ image said. OthersLeft file old image × (said ≡ old.said)) (λ said. said ≡ new.said) so_far.any_moment clock changes.time
              (λ image said here heard. (left image here, heard ∙ changes.said ∙ so_far.said));
          said = changes.said ∙ so_far.said;
        }

    pub alone_by_sync : {T : Type 0} (result : Result T Failed) → Syncs file result mid new → TouchesOnly file old new
    alone_by_sync result syncs =
        let left : (image : Image) → new.may_leave image → OthersLeft file old image = λ image left. so_far.left image (syncs.crash image left) in
        record {
          others = λ other apart. ap (λ (files : Image). files other) syncs.files ∙ so_far.others other apart;
          left = left;
          any_moment = goes_on old mid new (λ image said. OthersLeft file old image × (said ≡ old.said)) (λ said. said ≡ new.said) so_far.any_moment clock syncs.time
              (λ image said here heard. (left image here, heard ∙ syncs.said ∙ so_far.said));
          said = syncs.said ∙ so_far.said;
        }
