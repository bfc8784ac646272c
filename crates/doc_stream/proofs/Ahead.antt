-- How a block that breaks what is left of a range breaks the range: step by step backwards.
use Rattle.std.proofs.Common.{◌≡◌, ◌≢◌, ◌⊎◌, inl, inr, ℕ, suc, ◌+◌, ◌≤◌, List, [], ◌∷◌, ◌++◌, length, None, IsTrue, refl, sym, ◌∙◌, ap, subst, arith, length-append}
use Rattle.block_host.specs.declared.block.Block.{Block}
use Rattle.forest_model.specs.declared.stored.Rec.{Rec}
use Rattle.doc_stream.specs.Broken.{AreShown, Begins, BreaksRange, Leads, Precede}
use Rattle.doc_stream.specs.Memory.{HasHeadBehind}
use Rattle.doc_stream.specs.OpenBlock.{address_of}
use Rattle.forest_model.specs.Records.{record_bytes, is_record}
use Rattle.doc_stream.specs.Runs.{Piece, RecordBlocks, Follows, Spreads, StartsAt, left}
use Rattle.doc_stream.specs.Shown.{Asked, Shows, Stands}
use Rattle.doc_stream.proofs.Before.{last_block}
use Rattle.doc_stream.proofs.Blocks.{kept, left_left, passed, some_or_none}

pub precede_same : (xs ys : List Piece) (records : List (ℕ × Rec)) (behind : List Piece) → left xs ≡ left ys → Precede xs records behind → Precede ys records behind
precede_same xs ys [] behind same are = sym same ∙ are
precede_same xs ys ((address, r) ∷ records) behind same are =
    (are.0, subst (λ (ps : List Piece). StartsAt address ps) same are.1, (are.2.0, subst (λ (ps : List Piece). Spreads (record_bytes r) ps are.2.0) same are.2.1, are.2.2))

-- so many blocks more
abbrev pub Lifts : ℕ → List Block → List Piece → ℕ → List Piece → ℕ → ℕ → Type 0
Lifts revision file new next old start more = (count all : ℕ) (behind : List Piece) → all ≡ more + count → Leads revision file new next count behind → Leads revision file old start all behind

pub range_lifted : (revision end : ℕ) (file : List Block) (new : List Piece) (next : ℕ) (old : List Piece) (start more : ℕ) → next ≡ start + more → Lifts revision file new next old start more
    → (block : ℕ) → BreaksRange revision end file new next block → BreaksRange revision end file old start block
range_lifted revision end file new next old start more is lift block (inl x) = let at = x.1 in inl (more + x.0, omega arith, lift x.0 (more + x.0) [] refl x.2, x.3)
range_lifted revision end file new next old start more is lift block (inr x) = let at = x.2 in inr (more + x.0, x.1, omega arith, lift x.0 (more + x.0) (x.1 ∷ []) refl x.3, x.4)

pub head_lifted : (revision end : ℕ) (file : List Block) (new : List Piece) (next : ℕ) (old : List Piece) (start more : ℕ) → next ≡ start + more → Lifts revision file new next old start more
    → HasHeadBehind revision end file new next → HasHeadBehind revision end file old start
head_lifted revision end file new next old start more is lift h =
    let at = h.at in
    record { count = more + h.count; first = h.first; at = omega arith; within = h.within; leads = lift h.count (more + h.count) (h.first ∷ []) refl h.leads; stands = h.stands }

-- a block that is passed over, or a record block
module _ (revision : ℕ) (file : List Block) (start : ℕ) (kind : ℕ) (payload : List ℕ) (stands : Stands revision file start kind payload) (old new : List Piece) where
  pub past : kind ≢ 1 → ((pieces : List Piece) → left (new ++ pieces) ≡ left (old ++ pieces)) → Lifts revision file new (start + 1) old start 1
  past other same count all behind is leads =
      let counted : suc count ≡ all = omega arith in
      let blocks : RecordBlocks revision file start (suc count) leads.pieces = (stands.block, kind, payload, stands.there, stands.sealed, inr (other, leads.blocks)) in
      record {
        pieces = leads.pieces;
        blocks = subst (λ (n : ℕ). RecordBlocks revision file start n leads.pieces) counted blocks;
        records = leads.records;
        precede = precede_same (new ++ leads.pieces) (old ++ leads.pieces) leads.records behind (same leads.pieces) leads.precede;
      }

  pub into : kind ≡ 1 → ((pieces : List Piece) → left (new ++ pieces) ≡ left (old ++ record { block = start; offset = 0; bytes = payload } ∷ pieces)) → Lifts revision file new (start + 1) old start 1
  into one same count all behind is leads =
      let p : Piece = record { block = start; offset = 0; bytes = payload } in
      let counted : suc count ≡ all = omega arith in
      let blocks : RecordBlocks revision file start (suc count) (p ∷ leads.pieces) = (stands.block, kind, payload, stands.there, stands.sealed, inl (one, leads.pieces, refl, leads.blocks)) in
      record {
        pieces = p ∷ leads.pieces;
        blocks = subst (λ (n : ℕ). RecordBlocks revision file start n (p ∷ leads.pieces)) counted blocks;
        records = leads.records;
        precede = precede_same (new ++ leads.pieces) (old ++ p ∷ leads.pieces) leads.records behind (same leads.pieces) leads.precede;
      }

-- record blocks, and others behind
shown_blocks : (asked : Asked) (file : List Block) (at next count all : ℕ) (more pieces : List Piece) → asked.tail ≡ None → AreShown asked file at more → next ≡ at + length more → all ≡ length more + count → RecordBlocks asked.revision file next count pieces → RecordBlocks asked.revision file at all (more ++ pieces)
shown_blocks asked file at next count all [] pieces none shown is is_all blocks =
    let here : next ≡ at = omega arith in
    let counted : count ≡ all = omega arith in
    subst (λ (n : ℕ). RecordBlocks asked.revision file n all pieces) here (subst (λ (n : ℕ). RecordBlocks asked.revision file next n pieces) counted blocks)
shown_blocks asked file at next count all (p ∷ more) pieces none shown is is_all blocks =
    let rest = length more + count in
    let counted : suc rest ≡ all = omega arith in
    let stands : Stands asked.revision file at 1 p.bytes = subst (λ t. Shows asked.revision t file at 1 p.bytes) none shown.2 in
    let later = shown_blocks asked file (at + 1) next count rest more pieces none shown.3 (omega arith) refl blocks in
    let make : ℕ → ℕ → Piece = λ a b. record { block = a; offset = b; bytes = p.bytes } in
    let same : p ≡ record { block = at; offset = 0; bytes = p.bytes } = ap (λ (a : ℕ). make a p.offset) shown.0 ∙ ap (λ (b : ℕ). make at b) shown.1 in
    let here : RecordBlocks asked.revision file at (suc rest) (p ∷ more ++ pieces) = (stands.block, 1, p.bytes, stands.there, stands.sealed, inl (refl, more ++ pieces, ap (λ (q : Piece). q ∷ more ++ pieces) same, later)) in
    subst (λ (n : ℕ). RecordBlocks asked.revision file at n (p ∷ more ++ pieces)) counted here

-- bytes over pieces, with others behind
spreads_more : (bytes : List ℕ) (pieces more : List Piece) (last : Piece) → Spreads bytes pieces (last ∷ []) → Spreads bytes (pieces ++ more) (last ∷ more)
spreads_more bytes [] more last spreads = absurd spreads
spreads_more bytes (p ∷ pieces) more last spreads = elim spreads [
  | inl x ↦
      (let q : Piece = record { block = p.block; offset = p.offset + length bytes; bytes = x.0 } in
      let first : last ≡ q = cc (x.2) in
      let rest : ◌≡◌ {A = List Piece} [] pieces = cc (x.2) in
      inl (x.0, x.1, ap (λ (l : Piece). l ∷ more) first ∙ ap (λ (l : List Piece). q ∷ (l ++ more)) rest))
  | inr x ↦ inr (x.0, x.1, x.2, x.3, follows_more p pieces more x.4, spreads_more x.0 pieces more last x.5)
]
  where
    follows_more : (p : Piece) (pieces more : List Piece) → Follows p pieces → Follows p (pieces ++ more)
    follows_more p [] more f = absurd f
    follows_more p (q ∷ pieces) more f = f

-- all pieces over which bytes spread have bytes
spread_bytes : (p : Piece) (bytes : List ℕ) (pieces behind : List Piece) → 1 ≤ length bytes → p.offset ≡ 0 → Spreads bytes (p ∷ pieces) behind → 1 ≤ length p.bytes
spread_bytes p bytes pieces behind some offset spreads = elim spreads [
  | inl x ↦ (let long = ap length x.1 ∙ length-append bytes x.0 in omega arith)
  | inr x ↦ (let full = x.3 in omega arith)
]

some_bytes : (bytes : List ℕ) → bytes ≢ [] → (bytes ≡ []) ⊎ (1 ≤ length bytes) → 1 ≤ length bytes
some_bytes bytes not (inl none) = absurd (not none)
some_bytes bytes not (inr some) = some

left_over : (asked : Asked) (file : List Block) (bytes : List ℕ) (p last : Piece) (more pieces : List Piece) → 1 ≤ length p.bytes → AreShown asked file (p.block + 1) more → Spreads bytes (p ∷ more) (last ∷ []) → left (p ∷ more ++ pieces) ≡ (p ∷ more) ++ left pieces
left_over asked file bytes p last [] pieces some shown spreads = kept p pieces some
left_over asked file bytes p last (q ∷ more) pieces some shown spreads = elim spreads [
  | inl x ↦ (let none : ◌≡◌ {A = List Piece} [] (q ∷ more) = cc (x.2) in absurd cc)
  | inr x ↦
      (let at : q.block ≡ p.block + 1 = shown.0 in
      let full = spread_bytes q x.0 more (last ∷ []) (some_bytes x.0 x.2 (some_or_none x.0)) shown.1 x.5 in
      kept p (q ∷ more ++ pieces) some
      ∙ ap (λ (l : List Piece). p ∷ l) (left_over asked file x.0 q last more pieces full (subst (λ (n : ℕ). AreShown asked file (n + 1) more) (sym at) shown.3) x.5))
]

left_behind : (p : Piece) (pieces : List Piece) → left (p ∷ pieces) ≡ left (p ∷ left pieces)
left_behind p pieces = elim (some_or_none p.bytes) [
  | inl none ↦ passed p pieces none ∙ sym (left_left pieces) ∙ sym (passed p (left pieces) none)
  | inr some ↦ kept p pieces some ∙ ap (λ (l : List Piece). p ∷ l) (sym (left_left pieces)) ∙ sym (kept p (left pieces) some)
]

-- a record in front
pub over_record : (asked : Asked) (file : List Block) (first last : Piece) (r : Rec) (next : ℕ) → asked.tail ≡ None → 1 ≤ length first.bytes → IsTrue (is_record r) → (b : Begins asked file first (record_bytes r) last) → next ≡ last.block + 1
    → Lifts asked.revision file (last ∷ []) next (first ∷ []) (first.block + 1) (length b.more)
over_record asked file first last r next none some is b is_next count all behind counted leads =
    let at = last_block asked file (record_bytes r) first last b.more b.blocks b.spreads in
    let over = left_over asked file (record_bytes r) first last b.more leads.pieces some b.blocks b.spreads in
    record {
      pieces = b.more ++ leads.pieces;
      blocks = shown_blocks asked file (first.block + 1) next count all b.more leads.pieces none b.blocks (omega arith) counted leads.blocks;
      records = (address_of first.block first.offset, r) ∷ leads.records;
      precede = (
        is,
        subst (λ (ps : List Piece). StartsAt (address_of first.block first.offset) ps) (sym over) refl,
        (
          last ∷ left leads.pieces,
          subst (λ (ps : List Piece). Spreads (record_bytes r) ps (last ∷ left leads.pieces)) (sym over) (spreads_more (record_bytes r) (first ∷ b.more) (left leads.pieces) last b.spreads),
          precede_same (last ∷ leads.pieces) (last ∷ left leads.pieces) leads.records behind (left_behind last leads.pieces) leads.precede,
        ),
      );
    }
