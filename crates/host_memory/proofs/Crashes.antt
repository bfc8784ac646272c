-- The image that a crash leaves by a pick is one that it may leave.
use Rattle.std.proofs.Common.{zero, suc, ◌≡◌, ◌≢◌, ◌⊎◌, ◌+◌, ◌-◌, ◌<◌, ℕ, List, [], ◌∷◌, ◌++◌, length, drop, replicate, refl, subst, inl, inr, arith, length-append, length-drop}
use Rattle.std.specs.Prelude.{Some, slice_get}
use Rattle.std.proofs.lemmas.List.{length-replicate}
use Rattle.block_host.specs.declared.block.Block.{Block}
use Rattle.block_host.specs.Sealed.{zero_block, IsTorn}
use Rattle.block_host.specs.Calls.{block_at, with_slot, Written, Put}
use Rattle.block_host.proofs.Back.{zero_block-torn}
use Rattle.host_memory.specs.Memory.{Leaves-present}
use Rattle.host_memory.specs.Pending.{FileState, Noted, Does, Leaves, oldest, tear, torn_of, picked}
use Rattle.host_memory.specs.declared.pick.Pick.{Pick}
use Rattle.host_memory.specs.declared.pick.Pick.TheVariants.{Before, Written as Whole, Torn}
use Rattle.host_memory.specs.declared.change.Change.{Change}
use Rattle.host_memory.specs.declared.change.Change.TheVariants.{Append, Slot, Shorten, Adopt}
use Rattle.host_memory.proofs.Steps.{Does-same, slice_get-front, slice_get-split, block_at-within, found_or_torn}

only_one : (n i : ℕ) (one block : Block) → slice_get (replicate n one) i ≡ Some block → one ≡ block
only_one zero i one block is = absurd cc
only_one (suc n) zero one block is = cc
only_one (suc n) (suc i) one block is = only_one n i one block is

torn_behind : (file at : ℕ) (blocks image : List Block) → Written file at (drop at blocks) image (image ++ replicate (length blocks - length image) zero_block)
torn_behind file at blocks image =
    let behind = replicate (length blocks - length image) zero_block in
    let long : length (image ++ behind) ≡ length image + (length blocks - length image) = omega (arith, length-append image behind, length-replicate (length blocks - length image) zero_block) in
    record {
      no_shorter = omega (arith, long);
      no_longer = omega (arith, long, length-drop at blocks);
      kept = λ i within outside. slice_get-front image behind i within;
      each = λ i block is. elim (slice_get-split image behind i block is) [
        | inl front ↦ inl front
        | inr past ↦ inr (inr (subst (IsTorn file i) (only_one (length blocks - length image) (i - length image) zero_block block past.1) (zero_block-torn file i)))
      ];
    }

-- the slots, of which none is new but a torn one
torn_slots : (slot : ℕ) (block : Block) (image : List Block) → Put slot block image (with_slot slot zero_block image)
torn_slots zero block image = record { no_shorter = omega arith; no_longer = omega arith; kept = kept; each = each }
  where
    kept : (i : ℕ) → i < length image → i < 2 → i ≢ 0 → slice_get (zero_block ∷ block_at image 1 ∷ []) i ≡ slice_get image i
    kept zero within still apart = absurd (apart refl)
    kept (suc zero) within still apart = block_at-within image 1 within
    kept (suc (suc i)) within still apart = absurd (omega (arith, still))

    each : (i : ℕ) (other : Block) → slice_get (zero_block ∷ block_at image 1 ∷ []) i ≡ Some other → (slice_get image i ≡ Some other) ⊎ ((i ≡ 0) × (other ≡ block)) ⊎ IsTorn 0 i other
    each zero other is = let same : zero_block ≡ other = cc in inr (inr (subst (IsTorn 0 0) same (zero_block-torn 0 0)))
    each (suc zero) other is = elim (found_or_torn 1 (slice_get image 1) other is) [ inl found ↦ inl found | inr torn ↦ inr (inr torn) ]
    each (suc (suc i)) other is = absurd cc
torn_slots (suc zero) block image = record { no_shorter = omega arith; no_longer = omega arith; kept = kept; each = each }
  where
    kept : (i : ℕ) → i < length image → i < 2 → i ≢ 1 → slice_get (block_at image 0 ∷ zero_block ∷ []) i ≡ slice_get image i
    kept zero within still apart = block_at-within image 0 within
    kept (suc zero) within still apart = absurd (apart refl)
    kept (suc (suc i)) within still apart = absurd (omega (arith, still))

    each : (i : ℕ) (other : Block) → slice_get (block_at image 0 ∷ zero_block ∷ []) i ≡ Some other → (slice_get image i ≡ Some other) ⊎ ((i ≡ 1) × (other ≡ block)) ⊎ IsTorn 0 i other
    each zero other is = elim (found_or_torn 0 (slice_get image 0) other is) [ inl found ↦ inl found | inr torn ↦ inr (inr torn) ]
    each (suc zero) other is = let same : zero_block ≡ other = cc in inr (inr (subst (IsTorn 0 1) same (zero_block-torn 0 1)))
    each (suc (suc i)) other is = absurd cc
torn_slots (suc (suc slot)) block image = record { no_shorter = omega arith; no_longer = omega arith; kept = kept; each = each }
  where
    kept : (i : ℕ) → i < length image → i < 2 → i ≢ suc (suc slot) → slice_get (block_at image 0 ∷ block_at image 1 ∷ []) i ≡ slice_get image i
    kept zero within still apart = block_at-within image 0 within
    kept (suc zero) within still apart = block_at-within image 1 within
    kept (suc (suc i)) within still apart = absurd (omega (arith, still))

    each : (i : ℕ) (other : Block) → slice_get (block_at image 0 ∷ block_at image 1 ∷ []) i ≡ Some other → (slice_get image i ≡ Some other) ⊎ ((i ≡ suc (suc slot)) × (other ≡ block)) ⊎ IsTorn 0 i other
    each zero other is = elim (found_or_torn 0 (slice_get image 0) other is) [ inl found ↦ inl found | inr torn ↦ inr (inr torn) ]
    each (suc zero) other is = elim (found_or_torn 1 (slice_get image 1) other is) [ inl found ↦ inl found | inr torn ↦ inr (inr torn) ]
    each (suc (suc i)) other is = absurd cc

does-tear : (file : ℕ) (change : Change) (blocks image : List Block) → Does file change blocks image (tear change blocks image)
does-tear file (Append at) blocks image = torn_behind file at blocks image
does-tear file (Slot slot) blocks image = torn_slots slot (block_at blocks slot) image
does-tear file (Shorten n) blocks image = inr refl
does-tear file Adopt blocks image = inr refl

leaves_oldest : (file : ℕ) (blocks : List Block) (steps : List Noted) → Leaves file blocks steps (oldest blocks steps)
leaves_oldest file blocks [] = refl
leaves_oldest file blocks (noted ∷ steps) = inr (oldest noted.0 steps, leaves_oldest file noted.0 steps, Does-same file noted.1 blocks (oldest noted.0 steps))

leaves_torn : (file : ℕ) (blocks : List Block) (steps : List Noted) → Leaves file blocks steps (torn_of blocks steps)
leaves_torn file blocks [] = refl
leaves_torn file blocks (noted ∷ steps) = inr (torn_of noted.0 steps, leaves_torn file noted.0 steps, does-tear file noted.1 blocks (torn_of noted.0 steps))

pub leaves_picked : (number : ℕ) (pick : Pick) (file : FileState) → Leaves number file.blocks file.steps (picked pick file)
leaves_picked number Before file = leaves_oldest number file.blocks file.steps
leaves_picked number Whole file = Leaves-present number file.blocks file.steps
leaves_picked number Torn file = leaves_torn number file.blocks file.steps
