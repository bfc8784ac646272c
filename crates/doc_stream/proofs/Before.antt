-- What a broken range or record tells of the blocks before: they are sealed or open.
use Rattle.std.proofs.Common.{◌≡◌, inl, inr, ℕ, zero, suc, ◌+◌, ◌/◌, ◌≤◌, List, [], ◌∷◌, length, refl, sym, ◌∙◌, ap, subst, arith}
use Rattle.block_host.specs.declared.block.Block.{Block}
use Rattle.doc_stream.specs.Broken.{AreShown, Begins, BreaksAddress, BreaksAt, BreaksRange, Ends, piece_at}
use Rattle.doc_stream.specs.Runs.{Piece, RecordBlocks, Spreads}
use Rattle.doc_stream.specs.Shown.{Asked, AreSealed, Shows, range_of}
use Rattle.doc_stream.proofs.Blocks.{lt_or_le}

-- a block that is sealed or open
abbrev pub IsThere : Asked → List Block → ℕ → Type 0
IsThere asked file at = (kind : ℕ) × (payload : List ℕ) × Shows asked.revision asked.tail file at kind payload

there_on : (asked : Asked) (file : List Block) (at to : ℕ) → IsThere asked file at → AreSealed asked file (at + 1) to → AreSealed asked file at to
there_on asked file at to first rest i ge lt = elim (lt_or_le at i) [
  | inl later ↦ rest i (omega arith) lt
  | inr le ↦ (let same : at ≡ i = omega arith in subst (λ (k : ℕ). IsThere asked file k) same first)
]

shown_there : (asked : Asked) (file : List Block) (at to : ℕ) (pieces : List Piece) → to ≡ at + length pieces → AreShown asked file at pieces → AreSealed asked file at to
shown_there asked file at to [] is shown = λ i ge lt. absurd (omega arith)
shown_there asked file at to (p ∷ pieces) is shown = there_on asked file at to (1, p.bytes, shown.2) (shown_there asked file (at + 1) to pieces (omega arith) shown.3)

blocks_there : (revision end : ℕ) (file : List Block) (at count to : ℕ) (pieces : List Piece) → to ≡ at + count → RecordBlocks revision file at count pieces → AreSealed (range_of revision end) file at to
blocks_there revision end file at zero to pieces is b = λ i ge lt. absurd (omega arith)
blocks_there revision end file at (suc more) to pieces is b =
    there_on (range_of revision end) file at to (b.1, b.2, record { block = b.0; there = b.3; sealed = b.4 })
    (elim b.5 [
      | inl h ↦ blocks_there revision end file (at + 1) more to h.1 (omega arith) h.3
      | inr h ↦ blocks_there revision end file (at + 1) more to pieces (omega arith) h.1
    ])

-- the last block over which bytes spread
pub last_block : (asked : Asked) (file : List Block) (bytes : List ℕ) (p last : Piece) (pieces : List Piece) → AreShown asked file (p.block + 1) pieces → Spreads bytes (p ∷ pieces) (last ∷ []) → last.block ≡ p.block + length pieces
last_block asked file bytes p last [] shown spreads = elim spreads [
  | inl x ↦ (let same : ◌≡◌ {A = Piece} last (record { block = p.block; offset = p.offset + length bytes; bytes = x.0 }) = cc (x.2) in ap (λ (q : Piece). q.block) same ∙ omega arith)
  | inr x ↦ absurd x.4
]
last_block asked file bytes p last (q ∷ pieces) shown spreads = elim spreads [
  | inl x ↦ (let none : ◌≡◌ {A = List Piece} [] (q ∷ pieces) = cc (x.2) in absurd cc)
  | inr x ↦
      (let at : q.block ≡ p.block + 1 = shown.0 in
      let rest = last_block asked file x.0 q last pieces (subst (λ (n : ℕ). AreShown asked file (n + 1) pieces) (sym at) shown.3) x.5 in
      omega arith)
]

begins_there : (asked : Asked) (file : List Block) (first last : Piece) (bytes : List ℕ) → Begins asked file first bytes last → AreSealed asked file (first.block + 1) (last.block + 1)
begins_there asked file first last bytes b =
    let at = last_block asked file bytes first last b.more b.blocks b.spreads in
    shown_there asked file (first.block + 1) (last.block + 1) b.more (omega arith) b.blocks

ends_at_most : (asked : Asked) (file : List Block) (last : Piece) (block : ℕ) → Ends asked file last block → block ≤ last.block + 1
ends_at_most asked file last block (inl x) = omega (arith, x.0)
ends_at_most asked file last block (inr (inl x)) = omega (arith, x.0)
ends_at_most asked file last block (inr (inr (inl x))) = omega (arith, x.0)
ends_at_most asked file last block (inr (inr (inr x))) = omega (arith, x.0)

-- behind the block in which a record begins
breaks_there : (asked : Asked) (file : List Block) (first : Piece) (block : ℕ) → BreaksAt asked file first block → AreSealed asked file (first.block + 1) block
breaks_there asked file first block b i ge lt = elim b.1 [
  | inl x ↦
      (let most = ends_at_most asked file x.1.last block x.1.why in
      begins_there asked file first x.1.last b.0 x.1.begins i ge (omega arith))
  | inr x ↦
      (let at = x.1.in_block in
      begins_there asked file first x.1.last b.0 x.1.begins i ge (omega arith))
]

pub address_there : (asked : Asked) (file : List Block) (address block : ℕ) → BreaksAddress asked file address block → AreSealed asked file (address / 4096) block
address_there asked file address block (inl x) = λ i ge lt. let same = x.0 in absurd (omega arith)
address_there asked file address block (inr (inl x)) = λ i ge lt. let same = x.0 in absurd (omega arith)
address_there asked file address block (inr (inr x)) = there_on asked file (address / 4096) block (1, x.0, x.2) (breaks_there asked file (piece_at address x.0) block x.3)

pub range_there : (revision end : ℕ) (file : List Block) (hand : List Piece) (start block : ℕ) → BreaksRange revision end file hand start block → AreSealed (range_of revision end) file start block
range_there revision end file hand start block (inl x) = blocks_there revision end file start x.0 block x.2.pieces x.1 x.2.blocks
range_there revision end file hand start block (inr x) = λ i ge lt. elim (lt_or_le i (start + x.0)) [
  | inl below ↦ blocks_there revision end file start x.0 (start + x.0) x.3.pieces refl x.3.blocks i ge below
  | inr above ↦ (let at = x.2 in breaks_there (range_of revision end) file x.1 block x.4 i (omega arith) lt)
]
