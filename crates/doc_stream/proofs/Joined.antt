-- The record blocks of a file to which blocks are appended.
use Rattle.std.proofs.Common.{◌≡◌, ℕ, zero, suc, ◌+◌, List, [], ◌∷◌, ◌++◌, length, refl, sym, ap, subst, inl, inr, ⊎_elim, arith, length-append, append_assoc}
use Rattle.block_host.specs.declared.block.Block.{Block}
use Rattle.doc_stream.specs.Runs.{Piece, RecordBlocks}
use Rattle.doc_stream.specs.Writing.{AreOthers}
use Rattle.doc_stream.proofs.Fronts.{got_still, got_at}

-- they stay
pub blocks_stay : (revision : ℕ) (file more : List Block) (count at : ℕ) (pieces : List Piece) → RecordBlocks revision file at count pieces → RecordBlocks revision (file ++ more) at count pieces
blocks_stay revision file more zero at pieces blocks = blocks
blocks_stay revision file more (suc count) at pieces blocks = (
  blocks.0,
  blocks.1,
  blocks.2,
  got_still file more at blocks.0 blocks.3,
  blocks.4,
  ⊎_elim
      (λ here. inl (here.0, here.1, here.2, blocks_stay revision file more count (at + 1) here.1 here.3))
      (λ passed. inr (passed.0, blocks_stay revision file more count (at + 1) pieces passed.1))
      blocks.5,
)

-- and those of further blocks are behind them
pub blocks_joined : (revision : ℕ) (file : List Block) (count at further : ℕ) (pieces others : List Piece) → RecordBlocks revision file at count pieces → RecordBlocks revision file (at + count) further others → RecordBlocks revision file at (count + further) (pieces ++ others)
blocks_joined revision file zero at further pieces others blocks behind =
    let no_count : zero + further ≡ further = omega arith in
    let same_at : at + zero ≡ at = omega arith in
    subst (λ (n : ℕ). RecordBlocks revision file at n (pieces ++ others)) (sym no_count)
    (subst (λ (l : List Piece). RecordBlocks revision file at further (l ++ others)) (sym blocks)
    (subst (λ (n : ℕ). RecordBlocks revision file n further others) same_at behind))
blocks_joined revision file (suc count) at further pieces others blocks behind =
    let one_less : suc count + further ≡ suc (count + further) = omega arith in
    let one_on : at + suc count ≡ at + 1 + count = omega arith in
    let later : RecordBlocks revision file (at + 1 + count) further others = subst (λ (n : ℕ). RecordBlocks revision file n further others) one_on behind in
    let all : RecordBlocks revision file at (suc (count + further)) (pieces ++ others) = (
      blocks.0,
      blocks.1,
      blocks.2,
      blocks.3,
      blocks.4,
      ⊎_elim
          (λ here. inl (here.0, here.1 ++ others, ap (λ (l : List Piece). l ++ others) here.2, blocks_joined revision file count (at + 1) further here.1 others here.3 later))
          (λ passed. inr (passed.0, blocks_joined revision file count (at + 1) further pieces others passed.1 later))
          blocks.5,
    ) in
    subst (λ (n : ℕ). RecordBlocks revision file at n (pieces ++ others)) (sym one_less) all

-- blocks of other kinds have none
pub others_passed : (revision : ℕ) (others front : List Block) (at : ℕ) → at ≡ length front → AreOthers revision at others → RecordBlocks revision (front ++ others) at (length others) []
others_passed revision [] front at is_at are = refl
others_passed revision (block ∷ others) front at is_at are =
    let later = others_passed revision others (front ++ block ∷ []) (at + 1) (omega (arith, length-append front (block ∷ []))) are.1 in (
      block,
      are.0.0,
      are.0.1,
      got_at front others block at is_at,
      are.0.3,
      inr (are.0.2, subst (λ (l : List Block). RecordBlocks revision l (at + 1) (length others) []) (append_assoc front (block ∷ []) others) later),
    )
