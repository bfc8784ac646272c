-- What begins at an address stays there when bytes are put and blocks are appended.
use Rattle.std.proofs.Common.{◌≡◌, ◌≢◌, ◌⊎◌, ℕ, ◌+◌, ◌<◌, ◌≤◌, ◌/◌, ◌%◌, List, [], ◌∷◌, ◌++◌, length, drop, Some, slice_get, refl, sym, ◌∙◌, ap, subst, ap₂, IsTrue, inl, inr, ⊎_elim, arith, length-append, append_assoc, append-nil}
use Rattle.std.proofs.lemmas.Bool.{cases_lt}
use Rattle.std.proofs.lemmas.List.{drop_all, drop-append-le}
use Rattle.std.proofs.lemmas.Option.{slice_get_within}
use Rattle.block_host.specs.Sealed.{IsSealed}
use Rattle.block_host.specs.declared.block.Block.{Block}
use Rattle.forest_model.specs.declared.stored.Rec.{Rec}
use Rattle.doc_stream.specs.OpenBlock.{OpenBlock}
use Rattle.doc_stream.specs.Reading.{Holds, AreHeld, IsInside, from_offset, RecordAt}
use Rattle.forest_model.specs.Records.{record_bytes, is_record}
use Rattle.doc_stream.specs.Runs.{Piece, Follows, Spreads}
use Rattle.doc_stream.proofs.Fronts.{cons≢nil, nil_front, got_still, got_at}

-- Blocks were appended, and what was open is still there: it was nothing, or its bytes begin the block of its number.
pub record Keeps (revision : ℕ) (file grown : List Block) (before after : OpenBlock) : Type 0 where
  pub at_end : before.number ≡ length file
  pub more : List Block
  pub whole : grown ≡ file ++ more
  pub behind : before.number ≤ after.number
  pub opened : (before.bytes ≡ []) ⊎ ((rest : List ℕ) × Holds revision grown after before.number (before.bytes ++ rest))

-- bytes that begin at an offset of a block
pub record HeldAt (revision : ℕ) (file : List Block) (tail : OpenBlock) (at offset : ℕ) (bytes : List ℕ) (least : ℕ) : Type 0 where
  pub first : List ℕ
  pub others : List Piece
  pub beyond : List Piece
  pub held : Holds revision file tail at first
  pub next : AreHeld revision file tail (at + 1) others
  pub long : least ≤ length first
  pub spreads : Spreads bytes (record { block = at; offset = offset; bytes = drop offset first } ∷ others) beyond

-- nothing is held behind the open block
none_behind : (revision at : ℕ) (file : List Block) (before : OpenBlock) (p : Piece) (pieces : List Piece) → before.number ≡ length file → at ≡ before.number → AreHeld revision file before (at + 1) pieces → Follows p pieces → ⊥
none_behind revision at file before p [] is_end is_at held follows = follows
none_behind revision at file before p (q ∷ pieces) is_end is_at held follows =
    ⊎_elim (λ here. omega (arith, here.0)) (λ there. omega (arith, slice_get_within file (at + 1) there.1 there.2)) held.2

in_open : (revision at offset : ℕ) (file grown : List Block) (before after : OpenBlock) (bytes first : List ℕ) (pieces beyond : List Piece) → Keeps revision file grown before after → bytes ≢ [] → at ≡ before.number → first ≡ before.bytes → AreHeld revision file before (at + 1) pieces → Spreads bytes (record { block = at; offset = offset; bytes = drop offset first } ∷ pieces) beyond → HeldAt revision grown after at offset bytes (length first)
in_open revision at offset file grown before after bytes first pieces beyond keeps some is_at is_first next spreads =
    ⊎_elim
    (λ here. ⊎_elim (λ empty. absurd (nothing here.0 here.1 (omega (arith, ap length is_first, ap length empty)))) (λ held. still here.0 here.1 held.0 held.1) keeps.opened)
    (λ there. absurd (none_behind revision at file before (record { block = at; offset = offset; bytes = drop offset first }) pieces keeps.at_end is_at next there.4))
    spreads
  where
    nothing : (rest : List ℕ) → drop offset first ≡ bytes ++ rest → length first ≤ offset → ⊥
    nothing rest e le = some (nil_front bytes rest (sym e ∙ drop_all offset first le))

    within : (rest : List ℕ) → drop offset first ≡ bytes ++ rest → offset ≤ length first
    within rest e = ⊎_elim (λ l. omega arith) (λ l. absurd (nothing rest e l)) (cases_lt offset (length first))

    still : (rest : List ℕ) → drop offset first ≡ bytes ++ rest → (more : List ℕ) → Holds revision grown after before.number (before.bytes ++ more) → HeldAt revision grown after at offset bytes (length first)
    still rest e more held = record {
      first = first ++ more;
      others = [];
      beyond = record { block = at; offset = offset + length bytes; bytes = rest ++ more } ∷ [];
      held = subst (λ (n : ℕ). Holds revision grown after n (first ++ more)) (sym is_at) (subst (λ (l : List ℕ). Holds revision grown after before.number (l ++ more)) (sym is_first) held);
      next = tt;
      long = omega (arith, length-append first more);
      spreads = inl (rest ++ more, drop-append-le offset first more (within rest e) ∙ ap (λ (l : List ℕ). l ++ more) e ∙ append_assoc bytes rest more, refl);
    }

-- a block of the file stays
in_file : (revision at : ℕ) (file grown : List Block) (before after : OpenBlock) (bytes : List ℕ) (block : Block) → Keeps revision file grown before after → slice_get file at ≡ Some block → IsSealed revision at 1 bytes block → Holds revision grown after at bytes
in_file revision at file grown before after bytes block keeps got sealed =
    let low = slice_get_within file at block got in
    let is_end = keeps.at_end in
    let behind = keeps.behind in
    inr ((λ e. omega arith), block, subst (λ (l : List Block). slice_get l at ≡ Some block) (sym keeps.whole) (got_still file keeps.more at block got), sealed)

-- what is held from a block's first byte on, and the piece before it
onward : (revision at offset least : ℕ) (file : List Block) (tail : OpenBlock) (bytes more first : List ℕ) → Holds revision file tail at first → bytes ≡ drop offset first ++ more → more ≢ [] → offset + length (drop offset first) ≡ 4064 → HeldAt revision file tail (at + 1) 0 more least → HeldAt revision file tail at offset bytes (length first)
onward revision at offset least file tail bytes more first held split some full rest = record {
  first = first;
  others = record { block = at + 1; offset = 0; bytes = rest.first } ∷ rest.others;
  beyond = rest.beyond;
  held = held;
  next = (refl, refl, rest.held, rest.next);
  long = omega arith;
  spreads = inr (more, split, some, full, refl, rest.spreads);
}

-- a piece of a whole block
as_whole : (at : ℕ) (p : Piece) → p.block ≡ at → p.offset ≡ 0 → p ≡ record { block = at; offset = 0; bytes = p.bytes }
as_whole at p is_at is_zero = ap₂ (λ (b o : ℕ). record { block = b; offset = o; bytes = p.bytes }) is_at is_zero

pub kept : (revision : ℕ) (file grown : List Block) (before after : OpenBlock) → Keeps revision file grown before after → (pieces : List Piece) (at offset : ℕ) (first bytes : List ℕ) (beyond : List Piece) → bytes ≢ [] → Holds revision file before at first → AreHeld revision file before (at + 1) pieces → Spreads bytes (record { block = at; offset = offset; bytes = drop offset first } ∷ pieces) beyond → HeldAt revision grown after at offset bytes (length first)
kept revision file grown before after keeps [] at offset first bytes beyond some held next spreads =
    ⊎_elim
    (λ here. in_open revision at offset file grown before after bytes first [] beyond keeps some here.0 here.1 next spreads)
    (λ there. ⊎_elim
    (λ ends. record {
      first = first;
      others = [];
      beyond = record { block = at; offset = offset + length bytes; bytes = ends.0 } ∷ [];
      held = in_file revision at file grown before after first there.1 keeps there.2 there.3;
      next = tt;
      long = omega arith;
      spreads = inl (ends.0, ends.1, refl);
    })
    (λ goes. absurd goes.4)
    spreads)
    held
kept revision file grown before after keeps (q ∷ pieces) at offset first bytes beyond some held next spreads =
    ⊎_elim
    (λ here. in_open revision at offset file grown before after bytes first (q ∷ pieces) beyond keeps some here.0 here.1 next spreads)
    (λ there. ⊎_elim
    (λ ends. record {
      first = first;
      others = [];
      beyond = record { block = at; offset = offset + length bytes; bytes = ends.0 } ∷ [];
      held = in_file revision at file grown before after first there.1 keeps there.2 there.3;
      next = tt;
      long = omega arith;
      spreads = inl (ends.0, ends.1, refl);
    })
    (λ goes. onward revision at offset (length q.bytes) grown after bytes goes.0 first (in_file revision at file grown before after first there.1 keeps there.2 there.3) goes.1 goes.2 goes.3
    (kept revision file grown before after keeps pieces (at + 1) 0 q.bytes goes.0 beyond goes.2 next.2 next.3
    (subst (λ (p : Piece). Spreads goes.0 (p ∷ pieces) beyond) (as_whole (at + 1) q next.0 next.1) goes.5)))
    spreads)
    held

-- a record at an address, from what begins there
pub record_from : (revision : ℕ) (file : List Block) (tail : OpenBlock) (address : ℕ) (r : Rec) (least : ℕ) → IsTrue (is_record r) → address % 4096 < least → HeldAt revision file tail (address / 4096) (address % 4096) (record_bytes r) least → RecordAt revision file tail address r
record_from revision file tail address r least is low held = record {
  is_record = is;
  pieces = record { block = address / 4096; offset = 0; bytes = held.first } ∷ held.others;
  behind = held.beyond;
  held = (refl, refl, held.held, held.next);
  inside = let long = held.long in omega arith;
  spreads = held.spreads;
}

pub record_some : (r : Rec) → record_bytes r ≢ []
record_some r e = cons≢nil _ _ e

pub record_kept : (revision : ℕ) (file grown : List Block) (before after : OpenBlock) → Keeps revision file grown before after → (address : ℕ) (r : Rec) → RecordAt revision file before address r → RecordAt revision grown after address r
record_kept revision file grown before after keeps address r stands = by stands.pieces stands.behind stands.held stands.inside stands.spreads
  where
    by : (pieces behind : List Piece) → AreHeld revision file before (address / 4096) pieces → IsInside (address % 4096) pieces → Spreads (record_bytes r) (from_offset (address % 4096) pieces) behind → RecordAt revision grown after address r
    by [] behind held inside spreads = absurd inside
    by (p ∷ pieces) behind held inside spreads =
        let there : Spreads (record_bytes r) (record { block = address / 4096; offset = address % 4096; bytes = drop (address % 4096) p.bytes } ∷ pieces) behind =
        subst (λ (b : ℕ). Spreads (record_bytes r) (record { block = b; offset = address % 4096; bytes = drop (address % 4096) p.bytes } ∷ pieces) behind) held.0 spreads in
        record_from revision grown after address r (length p.bytes) stands.is_record inside
        (kept revision file grown before after keeps pieces (address / 4096) (address % 4096) p.bytes (record_bytes r) behind (record_some r) held.2 held.3 there)

-- the open block was padded out
pub pad_keeps : (revision : ℕ) (before : OpenBlock) (file : List Block) (block : Block) → before.number ≡ length file → IsSealed revision before.number 1 before.bytes block → Keeps revision file (file ++ block ∷ []) before (record { number = before.number + 1; bytes = [] })
pad_keeps revision before file block is_end sealed = record {
  at_end = is_end;
  more = block ∷ [];
  whole = refl;
  behind = omega arith;
  opened = inr ([], inr ((λ e. omega arith), block, got_at file [] block before.number is_end, subst (λ (l : List ℕ). IsSealed revision before.number 1 l block) (sym (append-nil before.bytes)) sealed));
}

-- blocks were appended where nothing was open
pub blocks_keep : (revision : ℕ) (before after : OpenBlock) (file more : List Block) → before.number ≡ length file → before.bytes ≡ [] → before.number ≤ after.number → Keeps revision file (file ++ more) before after
blocks_keep revision before after file more is_end empty behind = record { at_end = is_end; more = more; whole = refl; behind = behind; opened = inl empty }
