-- What each change may do to an image.
use Rattle.std.proofs.Common.{zero, suc, ◌≡◌, ◌≢◌, ◌⊎◌, ◌-◌, ◌<◌, ◌≤◌, ℕ, List, [], ◌∷◌, ◌++◌, length, drop, refl, subst, get_or, inl, inr, arith, length-append}
use Rattle.std.specs.Prelude.{Some, None, Option, slice_get, unwrap_or}
use Rattle.std.proofs.lemmas.List.{drop_at}
use Rattle.std.proofs.lemmas.Option.{slice_get-get_or}
use Rattle.block_host.specs.declared.block.Block.{Block}
use Rattle.block_host.specs.Sealed.{zero_block, IsTorn}
use Rattle.block_host.specs.Calls.{block_at, with_slot, Written, Put}
use Rattle.block_host.proofs.Back.{zero_block-torn}
use Rattle.host_memory.specs.Pending.{Does}
use Rattle.host_memory.specs.declared.change.Change.{Change}
use Rattle.host_memory.specs.declared.change.Change.TheVariants.{Append, Slot, Shorten, Adopt}

pub written-same : (file at : ℕ) (blocks image : List Block) → Written file at blocks image image
written-same file at blocks image = record {
  no_shorter = omega arith;
  no_longer = omega arith;
  kept = λ i within outside. refl;
  each = λ i block is. inl is;
}

pub put-same : (slot : ℕ) (block : Block) (image : List Block) → Put slot block image image
put-same slot block image = record {
  no_shorter = omega arith;
  no_longer = omega arith;
  kept = λ i within still apart. refl;
  each = λ i other is. inl is;
}

pub Does-same : (file : ℕ) (change : Change) (blocks image : List Block) → Does file change blocks image image
Does-same file (Append at) blocks image = written-same file at (drop at blocks) image
Does-same file (Slot slot) blocks image = put-same slot (block_at blocks slot) image
Does-same file (Shorten n) blocks image = inl refl
Does-same file Adopt blocks image = inl refl

pub slice_get-front : (xs ys : List Block) (i : ℕ) → i < length xs → slice_get (xs ++ ys) i ≡ slice_get xs i
slice_get-front [] ys i within = absurd (omega (arith, within))
slice_get-front (x ∷ xs) ys zero within = refl
slice_get-front (x ∷ xs) ys (suc i) within = slice_get-front xs ys i (omega (arith, within))

pub slice_get-split : (xs ys : List Block) (i : ℕ) (block : Block) → slice_get (xs ++ ys) i ≡ Some block → (slice_get xs i ≡ Some block) ⊎ ((length xs ≤ i) × (slice_get ys (i - length xs) ≡ Some block))
slice_get-split [] ys i block is = inr (omega arith, subst (λ (k : ℕ). slice_get ys k ≡ Some block) (omega arith) is)
slice_get-split (x ∷ xs) ys zero block is = inl is
slice_get-split (x ∷ xs) ys (suc i) block is =
    elim (slice_get-split xs ys i block is) [ inl front ↦ inl front | inr behind ↦ inr (omega (arith, behind.0), subst (λ (k : ℕ). slice_get ys k ≡ Some block) (omega arith) behind.1) ]

pub written-append : (file : ℕ) (old blocks : List Block) → Written file (length old) blocks old (old ++ blocks)
written-append file old blocks = record {
  no_shorter = omega (arith, length-append old blocks);
  no_longer = omega (arith, length-append old blocks);
  kept = λ i within outside. slice_get-front old blocks i within;
  each = λ i block is. elim (slice_get-split old blocks i block is) [ inl front ↦ inl front | inr behind ↦ inr (inl behind) ];
}

pub does-append : (file : ℕ) (old blocks before after : List Block) → Does file (Append (length old)) (old ++ blocks) before after → Written file (length old) blocks before after
does-append file old blocks before after does = subst (λ (bs : List Block). Written file (length old) bs before after) (drop_at old blocks (length old) refl) does

block-slot : (slot : ℕ) (block : Block) (old : List Block) → slot < 2 → block_at (with_slot slot block old) slot ≡ block
block-slot zero block old low = refl
block-slot (suc zero) block old low = refl
block-slot (suc (suc slot)) block old low = absurd (omega (arith, low))

pub does-slot : (file slot : ℕ) (block : Block) (old before after : List Block) → slot < 2 → Does file (Slot slot) (with_slot slot block old) before after → Put slot block before after
does-slot file slot block old before after low does = subst (λ (b : Block). Put slot b before after) (block-slot slot block old low) does

within : (o : Option Block) (block : Block) → o ≡ Some block → Some (unwrap_or o zero_block) ≡ o
within o block is = rw is refl

pub block_at-within : (old : List Block) (i : ℕ) → i < length old → Some (block_at old i) ≡ slice_get old i
block_at-within old i lt = within (slice_get old i) (get_or old i zero_block) (slice_get-get_or old i zero_block lt)

pub found_or_torn : (i : ℕ) (o : Option Block) (other : Block) → Some (unwrap_or o zero_block) ≡ Some other → (o ≡ Some other) ⊎ IsTorn 0 i other
found_or_torn i (Some block) other is = inl is
found_or_torn i None other is = let same : zero_block ≡ other = cc in inr (subst (IsTorn 0 i) same (zero_block-torn 0 i))

kept_one : (block : Block) (old : List Block) (i : ℕ) → i < length old → i < 2 → i ≢ 0 → slice_get (block ∷ block_at old 1 ∷ []) i ≡ slice_get old i
kept_one block old zero within still apart = absurd (apart refl)
kept_one block old (suc zero) within still apart = block_at-within old 1 within
kept_one block old (suc (suc i)) within still apart = absurd (omega (arith, still))

kept_zero : (block : Block) (old : List Block) (i : ℕ) → i < length old → i < 2 → i ≢ 1 → slice_get (block_at old 0 ∷ block ∷ []) i ≡ slice_get old i
kept_zero block old zero within still apart = block_at-within old 0 within
kept_zero block old (suc zero) within still apart = absurd (apart refl)
kept_zero block old (suc (suc i)) within still apart = absurd (omega (arith, still))

each_one : (block : Block) (old : List Block) (i : ℕ) (other : Block) → slice_get (block ∷ block_at old 1 ∷ []) i ≡ Some other → (slice_get old i ≡ Some other) ⊎ ((i ≡ 0) × (other ≡ block)) ⊎ IsTorn 0 i other
each_one block old zero other is = inr (inl (refl, cc))
each_one block old (suc zero) other is = elim (found_or_torn 1 (slice_get old 1) other is) [ inl found ↦ inl found | inr torn ↦ inr (inr torn) ]
each_one block old (suc (suc i)) other is = absurd cc

each_zero : (block : Block) (old : List Block) (i : ℕ) (other : Block) → slice_get (block_at old 0 ∷ block ∷ []) i ≡ Some other → (slice_get old i ≡ Some other) ⊎ ((i ≡ 1) × (other ≡ block)) ⊎ IsTorn 0 i other
each_zero block old zero other is = elim (found_or_torn 0 (slice_get old 0) other is) [ inl found ↦ inl found | inr torn ↦ inr (inr torn) ]
each_zero block old (suc zero) other is = inr (inl (refl, cc))
each_zero block old (suc (suc i)) other is = absurd cc

pub put-written : (slot : ℕ) (block : Block) (old : List Block) → slot < 2 → Put slot block old (with_slot slot block old)
put-written zero block old low = record {
  no_shorter = omega arith;
  no_longer = omega arith;
  kept = kept_one block old;
  each = each_one block old;
}
put-written (suc zero) block old low = record {
  no_shorter = omega arith;
  no_longer = omega arith;
  kept = kept_zero block old;
  each = each_zero block old;
}
put-written (suc (suc slot)) block old low = absurd (omega (arith, low))
