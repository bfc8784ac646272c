-- What the run of a line leaves of a disk.
use Rattle.std.proofs.Common.{◌≡◌, ℕ, zero, suc, ◌<◌, ◌≤◌, List, [], ◌∷◌, ◌++◌, length, map, refl, sym, ap, subst, ◌∙◌, arith}
use Rattle.std.specs.Prelude.{Option, Some, None, slice_get}
use Rattle.block_host.specs.Disk.{Disk, Image}
use Rattle.block_host.specs.declared.block.Block.{Block}
use Rattle.file_core.specs.Updates.{bytes_of}
use Rattle.file_parts.specs.Keeping.{Begins}
use Rattle.forest_model.specs.Blocks.{File}
use Rattle.play_run.specs.Seen.{OthersStay, BeginsWith, seen}
use Rattle.play_run.specs.Progress.{Spares}

begins_same : (file : List Block) → Begins file file
begins_same file = record { long = omega arith; same = λ at low. refl }

-- a disk with the same files and the same bytes said
pub spares_same : (revision : ℕ) (old new : Disk) → new.files ≡ old.files → new.said ≡ old.said → Spares revision old new
spares_same revision old new files said = record {
  aside = record { others = λ other apart. ap (λ (image : Image). image other) files; said = said };
  front = subst (λ (file : List Block). Begins (old.files revision) file) (ap (λ (image : Image). image revision) (sym files)) (begins_same (old.files revision));
}

-- the blocks that were there come first
pub begins_with : (front whole : List Block) → length front ≤ length whole → ((at : ℕ) → at < length front → slice_get whole at ≡ slice_get front at) → (more : List Block) × (whole ≡ front ++ more)
begins_with [] whole long same = (whole, refl)
begins_with (b ∷ front) [] long same = absurd (omega (arith, long))
begins_with (b ∷ front) (d ∷ whole) long same =
    let rest = begins_with front whole (omega (arith, long)) (λ at low. same (suc at) (omega (arith, low))) in
    (rest.0, λ i. head (same 0 (omega arith)) i ∷ rest.1 i)
  where
    first : Block → Option Block → Block
    first none None = none
    first none (Some x) = x

    head : Some d ≡ Some b → d ≡ b
    head e = ap (first b) e

bytes_append : (a b : List Block) → bytes_of (a ++ b) ≡ bytes_of a ++ bytes_of b
bytes_append [] b = refl
bytes_append (x ∷ a) b = ap (λ (f : File). x.bytes ∷ f) (bytes_append a b)

module _ (old new : Disk) (spares : Spares 1 old new) where
  pub spares_front : BeginsWith (seen old).file (seen new).file
  spares_front =
      let more = begins_with (old.files 1) (new.files 1) spares.front.long spares.front.same in
      (bytes_of more.0, ap bytes_of more.1 ∙ bytes_append (old.files 1) more.0)

  pub spares_others : OthersStay old new
  spares_others = spares.aside.others

-- the current file is file 1
pub spares_first : (revision : ℕ) (old new : Disk) → revision ≡ 1 → Spares revision old new → Spares 1 old new
spares_first revision old new one s = subst (λ (r : ℕ). Spares r old new) one s
