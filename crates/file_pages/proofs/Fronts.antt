-- The first blocks of a file, while others behind them come and go.
use Rattle.std.proofs.Common.{◌≡◌, ◌≢◌, ℕ, zero, suc, ◌+◌, ◌<◌, ◌≤◌, List, [], ◌∷◌, length, take, refl, sym, ap, ◌∙◌, subst, inl, inr, arith, le_refl, length-take-le, take-take}
use Rattle.std.specs.Prelude.{Bool, true, false, IsTrue, Some, Option, unwrap_or, slice_get}
use Rattle.block_host.specs.Calls.{block_at, Changes, Cut, Written}
use Rattle.block_host.specs.Disk.{Disk, not_told, risen}
use Rattle.block_host.specs.Sealed.{zero_block}
use Rattle.block_host.specs.declared.block.Block.{Block}
use Rattle.btree_cow.specs.Meanings.{meaning_lies_below}
use Rattle.file_pages.specs.Files.{told, NoPage, short_front}

-- ---- blocks of the front

got_front : (n i : ℕ) (xs : List Block) → i < n → slice_get (take n xs) i ≡ slice_get xs i
got_front zero i xs lt = absurd (omega (arith, lt))
got_front (suc n) i [] lt = refl
got_front (suc n) zero (x ∷ xs) lt = refl
got_front (suc n) (suc i) (x ∷ xs) lt = got_front n i xs (omega (arith, lt))

pub front_at : (t : Bool) (n at : ℕ) (xs : List Block) → IsTrue t → at < n → block_at (told t (take n xs)) at ≡ block_at xs at
front_at true n at xs is lt = ap (λ (o : Option Block). unwrap_or o zero_block) (got_front n at xs lt)
front_at false n at xs is lt = not_told is

pub past_front : (t : Bool) (file n at kind : ℕ) (xs : List Block) → n ≤ at → NoPage file (told t (take n xs)) at kind
past_front t file n at kind xs le page is =
    omega (arith, le, meaning_lies_below file (told t (take n xs)) at (record { kind = kind; page = page }) is, short_front t n xs)

-- ---- a front that stays

-- the first so many blocks of a file stay, and so do the other files and what was said
pub record KeepsFront (file blocks : ℕ) (old new : Disk) : Type 0 where
  pub within : blocks ≤ length (new.files file)
  pub front : take blocks (new.files file) ≡ take blocks (old.files file)
  pub others : (other : ℕ) → other ≢ file → new.files other ≡ old.files other
  pub said : new.said ≡ old.said

same_front : (n : ℕ) (xs ys : List Block) → n ≤ length xs → n ≤ length ys → ((i : ℕ) → i < n → slice_get ys i ≡ slice_get xs i) → take n ys ≡ take n xs
same_front zero xs ys le long same = refl
same_front (suc n) [] ys le long same = absurd (omega (arith, le))
same_front (suc n) (x ∷ xs) [] le long same = absurd (omega (arith, long))
same_front (suc n) (x ∷ xs) (y ∷ ys) le long same =
    let first : y ≡ x = let e : Some y ≡ Some x = same zero (omega arith) in cc in
    let rest : take n ys ≡ take n xs = same_front n xs ys (omega (arith, le)) (omega (arith, long)) (λ i lt. same (suc i) (omega (arith, lt))) in
    cc

front_of_cut : (n : ℕ) (before after : List Block) → n ≤ length before → Cut n before after → (take n after ≡ take n before) × (n ≤ length after)
front_of_cut n before after le (inl same) = (ap (λ (b : List Block). take n b) same, subst (λ (b : List Block). n ≤ length b) (sym same) le)
front_of_cut n before after le (inr cut) = (
  ap (λ (b : List Block). take n b) cut ∙ take-take n n before (le_refl n),
  subst (λ (b : List Block). n ≤ length b) (sym cut) (omega (arith, length-take-le n before le)),
)

front_of_written : (file n : ℕ) (blocks before after : List Block) → n ≤ length before → Written file (length before) blocks before after → (take n after ≡ take n before) × (n ≤ length after)
front_of_written file n blocks before after le written =
    let long : n ≤ length after = omega (arith, le, written.no_shorter) in
    (same_front n before after le long (λ i lt. written.kept i (omega (arith, lt, le)) (inl (omega (arith, lt, le)))), long)

pub keeps_all : (file n : ℕ) (d : Disk) → n ≤ length (d.files file) → KeepsFront file n d d
keeps_all file n d le = record { within = le; front = refl; others = λ other ne. refl; said = refl }

pub keeps_by_cut : (file n : ℕ) (d e : Disk) → n ≤ length (d.files file) → Changes file (Cut n) d e → KeepsFront file n d e
keeps_by_cut file n d e le part =
    let same = front_of_cut n (d.files file) (e.files file) le part.reads.there in
    record { within = same.1; front = same.0; others = part.reads.others; said = part.said }

pub keeps_by_append : (file n : ℕ) (blocks : List Block) (d e : Disk) → n ≤ length (d.files file) → Changes file (Written file (length (d.files file)) blocks) d e → KeepsFront file n d e
keeps_by_append file n blocks d e le part =
    let same = front_of_written file n blocks (d.files file) (e.files file) le part.reads.there in
    record { within = same.1; front = same.0; others = part.reads.others; said = part.said }

pub keeps_on : (file n : ℕ) (d e f : Disk) → KeepsFront file n d e → KeepsFront file n e f → KeepsFront file n d f
keeps_on file n d e f first then_ = record {
  within = then_.within;
  front = then_.front ∙ first.front;
  others = λ other ne. then_.others other ne ∙ first.others other ne;
  said = then_.said ∙ first.said;
}

-- ---- counts of two that fail

pub risen_first : (a b c : ℕ) → risen a ≤ b → risen (a + c) ≤ b + c
risen_first a b c rose = omega (arith, rose)

pub risen_second : (a b c : ℕ) → risen a ≤ b → risen (c + a) ≤ c + b
risen_second a b c rose = omega (arith, rose)
