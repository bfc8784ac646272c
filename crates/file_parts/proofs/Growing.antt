-- Blocks put at the end of a file, in each image.
use Rattle.std.proofs.Common.{◌≡◌, ℕ, zero, suc, ◌+◌, ◌-◌, ◌≤◌, List, [], ◌∷◌, ◌++◌, length, Option, Some, ⊎_elim, refl, sym, ◌∙◌, subst, arith, inl, inr}
use Rattle.std.specs.Prelude.{Result, slice_get}
use Rattle.block_host.proofs.Back.{kind_back}
use Rattle.block_host.specs.Calls.{Appends, Reads, Syncs, Written}
use Rattle.block_host.specs.Disk.{Disk, Image}
use Rattle.block_host.specs.Sealed.{IsSealed}
use Rattle.block_host.specs.declared.block.Block.{Block}
use Rattle.block_host.specs.declared.failed.Failed.{Failed}
use Rattle.doc_stream.specs.OpenBlock.{OpenBlock, AreFull, PutsBytes}
use Rattle.file_parts.specs.Growing.{AreNoHeaders, ComesOf, Grown, Grows, IsAmong, IsNoHeader}

-- ---- one file

pub grown_none : (IsNew : Block → Type 0) (file at : ℕ) (blocks : List Block) → Grown IsNew file at blocks blocks
grown_none IsNew file at blocks = record {
  no_shorter = omega arith;
  same = λ i low within. refl;
  each = λ i block is. inl is;
}

pub grown_as : (IsNew IsOther : Block → Type 0) (file at : ℕ) (before after : List Block) → ((block : Block) → IsNew block → IsOther block) → Grown IsNew file at before after → Grown IsOther file at before after
grown_as IsNew IsOther file at before after implies grown = record {
  no_shorter = grown.no_shorter;
  same = grown.same;
  each = λ i block is. elim (grown.each i block is) [
    | inl had ↦ inl had
    | inr rest ↦ elim rest [ inl fresh ↦ inr (inl (fresh.0, implies block fresh.1)) | inr torn ↦ inr (inr torn) ]
  ];
}

pub grown_on : (IsNew : Block → Type 0) (file at later : ℕ) (a b c : List Block) → at ≤ later → Grown IsNew file at a b → Grown IsNew file later b c → Grown IsNew file at a c
grown_on IsNew file at later a b c behind first next = record {
  no_shorter = omega (arith, first.no_shorter, next.no_shorter);
  same = λ i low within. next.same i (omega (arith, low, behind)) (omega (arith, within, first.no_shorter)) ∙ first.same i low within;
  each = λ i block is. elim (next.each i block is) [
    | inl had ↦ first.each i block had
    | inr rest ↦ elim rest [ inl fresh ↦ inr (inl (omega (arith, behind, fresh.0), fresh.1)) | inr torn ↦ inr (inr torn) ]
  ];
}

pub written_grown : (file at : ℕ) (blocks before after : List Block) → Written file at blocks before after → Grown (IsAmong blocks) file at before after
written_grown file at blocks before after written = record {
  no_shorter = written.no_shorter;
  same = λ i low within. written.kept i within (inl low);
  each = λ i block is. elim (written.each i block is) [
    | inl had ↦ inl had
    | inr rest ↦ elim rest [ inl fresh ↦ inr (inl (fresh.0, record { place = i - at; there = fresh.1 })) | inr torn ↦ inr (inr torn) ]
  ];
}

-- ---- each image

comes_as : (IsNew IsOther : Block → Type 0) (file : ℕ) (old : Disk) (image : Image) → ((block : Block) → IsNew block → IsOther block) → ComesOf IsNew file old image → ComesOf IsOther file old image
comes_as IsNew IsOther file old image implies comes = record {
  before = comes.before;
  left = comes.left;
  grown = record { others = comes.grown.others; there = grown_as IsNew IsOther file (length (old.files file)) (comes.before file) (image file) implies comes.grown.there };
}

comes_on : (IsNew : Block → Type 0) (file : ℕ) (old mid : Disk) (image : Image) → length (old.files file) ≤ length (mid.files file) → ((before : Image) → mid.may_leave before → ComesOf IsNew file old before) → ComesOf IsNew file mid image
    → ComesOf IsNew file old image
comes_on IsNew file old mid image long first next =
    let came = first next.before next.left in
    record {
      before = came.before;
      left = came.left;
      grown = record {
        others = λ other apart. next.grown.others other apart ∙ came.grown.others other apart;
        there = grown_on IsNew file (length (old.files file)) (length (mid.files file)) (came.before file) (next.before file) (image file) long came.grown.there next.grown.there;
      };
    }

pub grows_as : (IsNew IsOther : Block → Type 0) (file : ℕ) (old new : Disk) → ((block : Block) → IsNew block → IsOther block) → Grows IsNew file old new → Grows IsOther file old new
grows_as IsNew IsOther file old new implies grows = record {
  left = λ image is. comes_as IsNew IsOther file old image implies (grows.left image is);
  since = λ t image said low is. ⊎_elim (λ was. inl was) (λ comes. inr (comes_as IsNew IsOther file old image implies comes.0, comes.1)) (grows.since t image said low is);
}

same_image : (IsNew : Block → Type 0) (file : ℕ) (old : Disk) (image : Image) → old.may_leave image → ComesOf IsNew file old image
same_image IsNew file old image is = record {
  before = image;
  left = is;
  grown = record { others = λ other apart. refl; there = grown_none IsNew file (length (old.files file)) (image file) };
}

-- nothing is done
pub grows_none : (IsNew : Block → Type 0) (file : ℕ) (disk : Disk) → Grows IsNew file disk disk
grows_none IsNew file disk = record {
  left = λ image is. same_image IsNew file disk image is;
  since = λ t image said low is. inl is;
}

-- one after another
pub grows_on : (IsNew : Block → Type 0) (file : ℕ) (old mid new : Disk) → old.moment ≤ mid.moment → mid.said ≡ old.said → length (old.files file) ≤ length (mid.files file) → Grows IsNew file old mid → Grows IsNew file mid new
    → Grows IsNew file old new
grows_on IsNew file old mid new clock quiet long first next = record {
  left = λ image is. comes_on IsNew file old mid image long first.left (next.left image is);
  since = λ t image said low is.
      ⊎_elim (λ was. first.since t image said low was) (λ comes. inr (comes_on IsNew file old mid image long first.left comes.0, comes.1 ∙ quiet))
      (next.since t image said (omega (arith, low, clock)) is);
}

pub appended_grows : {T : Type 0} (file : ℕ) (blocks : List Block) (result : Result T Failed) (old new : Disk) → Appends file blocks result old new → Grows (IsAmong blocks) file old new
appended_grows file blocks result old new appends = record {
  left = comes;
  since = λ t image said low is.
      ⊎_elim (λ was. inl was) (λ heard. inr (comes image heard.0, heard.1 ∙ appends.part.said)) (appends.part.time.nothing_else t image said low is);
} where
  comes : (image : Image) → new.may_leave image → ComesOf (IsAmong blocks) file old image
  comes image is =
      let came = appends.part.crash image is in
      record {
        before = came.0;
        left = came.1;
        grown = record { others = came.2.others; there = written_grown file (length (old.files file)) blocks (came.0 file) (image file) came.2.there };
      }

pub read_grows : (IsNew : Block → Type 0) (file : ℕ) (old new : Disk) → Reads old new → Grows IsNew file old new
read_grows IsNew file old new reads = record {
  left = λ image is. same_image IsNew file old image (reads.images.none_new image is);
  since = λ t image said low is.
      ⊎_elim (λ was. inl was) (λ heard. inr (same_image IsNew file old image (reads.images.none_new image heard.0), heard.1 ∙ reads.said)) (reads.time.nothing_else t image said low is);
}

pub synced_grows : {T : Type 0} (IsNew : Block → Type 0) (file : ℕ) (result : Result T Failed) (old new : Disk) → Syncs file result old new → Grows IsNew file old new
synced_grows IsNew file result old new syncs = record {
  left = λ image is. same_image IsNew file old image (syncs.crash image is);
  since = λ t image said low is.
      ⊎_elim (λ was. inl was) (λ heard. inr (same_image IsNew file old image (syncs.crash image heard.0), heard.1 ∙ syncs.said)) (syncs.time.nothing_else t image said low is);
}

-- ---- blocks of records are no headers

record_no_header : (revision at : ℕ) (payload : List ℕ) (block : Block) → IsSealed revision at 1 payload block → IsNoHeader block
record_no_header revision at payload block sealed = record {
  apart = λ file number other header. omega (arith, kind_back revision at 1 payload block sealed, kind_back file number 4 other block header);
}

same_some : (a b : Block) → ◌≡◌ {A = Option Block} (Some a) (Some b) → a ≡ b
same_some a b e = cc

no_header_of : (a b : Block) → IsNoHeader a → a ≡ b → IsNoHeader b
no_header_of a b none same = subst IsNoHeader same none

pub full_no_headers : (revision at : ℕ) (blocks : List Block) (bytes : List ℕ) → AreFull revision at blocks bytes → (i : ℕ) (block : Block) → slice_get blocks i ≡ Some block → IsNoHeader block
full_no_headers revision at [] bytes full i block is = absurd cc
full_no_headers revision at (first ∷ blocks) bytes full zero block is = no_header_of first block (record_no_header revision at full.0 first full.4) (same_some first block is)
full_no_headers revision at (first ∷ blocks) bytes full (suc i) block is = full_no_headers revision (at + 1) blocks full.1 full.5 i block is

both_at : (a b : List Block) → ((i : ℕ) (block : Block) → slice_get a i ≡ Some block → IsNoHeader block) → AreNoHeaders b → (i : ℕ) (block : Block) → slice_get (a ++ b) i ≡ Some block → IsNoHeader block
both_at [] b each rest i block is = rest.each i block is
both_at (x ∷ a) b each rest zero block is = each zero block is
both_at (x ∷ a) b each rest (suc i) block is = both_at a b (λ j other at. each (suc j) other at) rest i block is

pub both_no_headers : (a b : List Block) → AreNoHeaders a → AreNoHeaders b → AreNoHeaders (a ++ b)
both_no_headers a b front rest = record { each = both_at a b front.each rest }

pub none_no_headers : AreNoHeaders []
none_no_headers = record { each = λ i block is. absurd cc }

-- the blocks that go out where bytes are put
pub puts_no_headers : (revision : ℕ) (bytes : List ℕ) (a b : OpenBlock) (before after : List Block) → PutsBytes revision bytes a b before after → AreNoHeaders before → AreNoHeaders after
puts_no_headers revision bytes a b before after puts none =
    subst AreNoHeaders (sym puts.out)
    (both_no_headers before puts.more none (record { each = full_no_headers revision a.number puts.more puts.whole puts.full }))
