-- Bytes that fill pieces to the last one's end, as those of a record just put do.
use Rattle.std.proofs.Common.{◌≡◌, ◌≢◌, ℕ, ◌+◌, suc, ◌<◌, ◌/◌, ◌%◌, true, not, List, [], ◌∷◌, ◌++◌, length, Some, slice_get, IsTrue, refl, sym, ◌∙◌, ap, subst, subst₂, inl, inr, ⊎_elim, arith, length-append, append_assoc, append-nil, drop_at}
use Rattle.std.proofs.lemmas.Bool.{cond-true, cond-false, ne_eqb}
use Rattle.std.proofs.lemmas.List.{nil_from_length}
use Rattle.block_host.specs.Sealed.{IsSealed}
use Rattle.block_host.specs.declared.block.Block.{Block}
use Rattle.forest_model.specs.declared.stored.Rec.{Rec}
use Rattle.doc_stream.specs.OpenBlock.{OpenBlock, AreFull, PutsBytes, address_of}
use Rattle.doc_stream.specs.Reading.{Holds, AreHeld, RecordAt}
use Rattle.forest_model.specs.Records.{record_bytes, is_record, is_empty}
use Rattle.doc_stream.specs.Runs.{Piece, RecordBlocks, Spreads, left}
use Rattle.doc_stream.specs.Scanned.{open_piece}
use Rattle.doc_stream.proofs.Fronts.{cases_nil, nil_front, nil_rest, split_front, got_at}
use Rattle.doc_stream.proofs.KeptAt.{HeldAt, Keeps, record_from, record_some}

-- a piece with bytes is left, one without is not
tells : (bytes : List ℕ) → bytes ≢ [] → not (is_empty bytes) ≡ true
tells [] some = absurd (some refl)
tells (b ∷ bytes) some = ap not (ne_eqb (suc (length bytes)) 0 (λ e. omega arith))

pub left_some : (p : Piece) (pieces : List Piece) → p.bytes ≢ [] → left (p ∷ pieces) ≡ p ∷ left pieces
left_some p pieces some = cond-true (not (is_empty p.bytes)) (p ∷ left pieces) (left pieces) (tells p.bytes some)

pub left_empty : (p : Piece) (pieces : List Piece) → p.bytes ≡ [] → left (p ∷ pieces) ≡ left pieces
left_empty p pieces empty = cond-false (not (is_empty p.bytes)) (p ∷ left pieces) (left pieces) (ap (λ (b : List ℕ). not (is_empty b)) empty)

-- the bytes are those of a piece and of whole blocks right behind it, the last one up to where it has bytes
abbrev pub Fills : List ℕ → Piece → List Piece → Type 0
Fills bytes p [] = p.bytes ≡ bytes
Fills bytes p (q ∷ pieces) =
    (more : List ℕ) × (bytes ≡ p.bytes ++ more) × (p.offset + length p.bytes ≡ 4064) × (q.block ≡ p.block + 1) × (q.offset ≡ 0) × Fills more q pieces

fills_nothing : (bytes : List ℕ) (p : Piece) (pieces : List Piece) → bytes ≡ [] → Fills bytes p pieces → left (p ∷ pieces) ≡ []
fills_nothing bytes p [] empty fills = left_empty p [] (fills ∙ empty)
fills_nothing bytes p (q ∷ pieces) empty fills =
    left_empty p (q ∷ pieces) (nil_front p.bytes fills.0 (sym fills.1 ∙ empty)) ∙ fills_nothing fills.0 q pieces (nil_rest p.bytes fills.0 (sym fills.1 ∙ empty)) fills.5

-- Bytes spread, with nothing left behind them.
pub record SpreadsWhole (bytes : List ℕ) (pieces : List Piece) : Type 0 where
  pub behind : List Piece
  pub spreads : Spreads bytes pieces behind
  pub nothing : left behind ≡ []

pub fills_spread : (bytes : List ℕ) (p : Piece) (pieces : List Piece) → Fills bytes p pieces → SpreadsWhole bytes (p ∷ pieces)
fills_spread bytes p [] fills = record {
  behind = record { block = p.block; offset = p.offset + length bytes; bytes = [] } ∷ [];
  spreads = inl ([], fills ∙ sym (append-nil bytes), refl);
  nothing = refl;
}
fills_spread bytes p (q ∷ pieces) fills = ⊎_elim ends (goes (fills_spread fills.0 q pieces fills.5)) (cases_nil fills.0)
  where
    ends : fills.0 ≡ [] → SpreadsWhole bytes (p ∷ q ∷ pieces)
    ends empty = record {
      behind = record { block = p.block; offset = p.offset + length bytes; bytes = [] } ∷ q ∷ pieces;
      spreads = inl ([], sym (fills.1 ∙ ap (λ (l : List ℕ). p.bytes ++ l) empty ∙ append-nil p.bytes) ∙ sym (append-nil bytes), refl);
      nothing = fills_nothing fills.0 q pieces empty fills.5;
    }

    goes : SpreadsWhole fills.0 (q ∷ pieces) → fills.0 ≢ [] → SpreadsWhole bytes (p ∷ q ∷ pieces)
    goes rest some = record { behind = rest.behind; spreads = inr (fills.0, fills.1, some, fills.2, fills.3, rest.spreads); nothing = rest.nothing }

-- only the last of the pieces may have no bytes
pub fills_left : (bytes : List ℕ) (p : Piece) (pieces : List Piece) → Fills bytes p pieces → Fills bytes p (left pieces)
fills_left bytes p [] fills = fills
fills_left bytes p (q ∷ []) fills = ⊎_elim
    (λ empty. subst (λ (l : List Piece). Fills bytes p l) (sym (left_empty q [] empty)) (sym (fills.1 ∙ ap (λ (l : List ℕ). p.bytes ++ l) (sym fills.5 ∙ empty) ∙ append-nil p.bytes)))
    (λ some. subst (λ (l : List Piece). Fills bytes p l) (sym (left_some q [] some)) fills)
    (cases_nil q.bytes)
fills_left bytes p (q ∷ s ∷ pieces) fills =
    let full : q.offset + length q.bytes ≡ 4064 = fills.5.2 in
    let zero : q.offset ≡ 0 = fills.4 in
    let some : q.bytes ≢ [] = λ e. omega (arith, ap length e) in
    subst (λ (l : List Piece). Fills bytes p l) (sym (left_some q (s ∷ pieces) some)) (fills.0, fills.1, fills.2, fills.3, fills.4, fills_left fills.0 q (s ∷ pieces) fills.5)

-- Full blocks behind others, and the open block behind them, as pieces that bytes fill.
pub record FilledFrom (revision : ℕ) (file : List Block) (tail : OpenBlock) (at count : ℕ) (bytes : List ℕ) : Type 0 where
  pub first : List ℕ
  pub others : List Piece
  pub full : List Piece
  pub all : full ++ open_piece tail ∷ [] ≡ record { block = at; offset = 0; bytes = first } ∷ others
  pub blocks : RecordBlocks revision file at count full
  pub held : Holds revision file tail at first
  pub next : AreHeld revision file tail (at + 1) others
  pub fills : Fills bytes (record { block = at; offset = 0; bytes = first }) others

one_more : (revision at count : ℕ) (file : List Block) (tail : OpenBlock) (block : Block) (payload rest bytes : List ℕ) → slice_get file at ≡ Some block → IsSealed revision at 1 payload block → length payload ≡ 4064 → at < tail.number → bytes ≡ payload ++ rest → FilledFrom revision file tail (at + 1) count rest → FilledFrom revision file tail at (suc count) bytes
one_more revision at count file tail block payload rest bytes got sealed long low split behind = record {
  first = payload;
  others = record { block = at + 1; offset = 0; bytes = behind.first } ∷ behind.others;
  full = record { block = at; offset = 0; bytes = payload } ∷ behind.full;
  all = ap (λ (l : List Piece). record { block = at; offset = 0; bytes = payload } ∷ l) behind.all;
  blocks = (block, 1, payload, got, sealed, inl (refl, behind.full, refl, behind.blocks));
  held = inr ((λ e. omega arith), block, got, sealed);
  next = (refl, refl, behind.held, behind.next);
  fills = (rest, split, omega arith, refl, refl, behind.fills);
}

filled_from : (revision : ℕ) (tail : OpenBlock) (blocks front : List Block) (at : ℕ) (bytes : List ℕ) → at ≡ length front → tail.number ≡ at + length blocks → AreFull revision at blocks bytes → FilledFrom revision (front ++ blocks) tail at (length blocks) (bytes ++ tail.bytes)
filled_from revision tail [] front at bytes is_at is_number full =
    let same : at ≡ tail.number = omega arith in
    record {
      first = tail.bytes;
      others = [];
      full = [];
      all = ap (λ (n : ℕ). record { block = n; offset = 0; bytes = tail.bytes } ∷ []) (sym same);
      blocks = refl;
      held = inl (same, refl);
      next = tt;
      fills = ap (λ (l : List ℕ). l ++ tail.bytes) (sym full);
    }
filled_from revision tail (block ∷ blocks) front at bytes is_at is_number full =
    let behind = filled_from revision tail blocks (front ++ block ∷ []) (at + 1) full.1 (omega (arith, length-append front (block ∷ []))) (omega arith) full.5 in
    one_more revision at (length blocks) (front ++ block ∷ blocks) tail block full.0 (full.1 ++ tail.bytes) (bytes ++ tail.bytes) (got_at front blocks block at is_at) full.4 full.3 (omega arith)
    (ap (λ (l : List ℕ). l ++ tail.bytes) full.2 ∙ append_assoc full.0 full.1 tail.bytes)
    (subst (λ (l : List Block). FilledFrom revision l tail (at + 1) (length blocks) (full.1 ++ tail.bytes)) (append_assoc front (block ∷ []) blocks) behind)

-- Bytes that were put behind those of the open block fill what its block has behind them, and the pieces behind it.
pub record PutPieces (revision : ℕ) (bytes : List ℕ) (before after : OpenBlock) (file grown : List Block) : Type 0 where
  pub added : List ℕ
  pub others : List Piece
  pub full : List Piece
  pub count : ℕ
  pub counted : length grown ≡ length file + count
  pub all : full ++ open_piece after ∷ [] ≡ record { block = before.number; offset = 0; bytes = before.bytes ++ added } ∷ others
  pub blocks : RecordBlocks revision grown before.number count full
  pub held : Holds revision grown after before.number (before.bytes ++ added)
  pub next : AreHeld revision grown after (before.number + 1) others
  pub fills : Fills bytes (record { block = before.number; offset = length before.bytes; bytes = added }) others
  pub some : bytes ≢ [] → added ≢ []

-- the bytes behind those of the first piece's front
behind_front : (front bytes first : List ℕ) (at : ℕ) (pieces : List Piece) → length front < 4064 → Fills (front ++ bytes) (record { block = at; offset = 0; bytes = first }) pieces → (added : List ℕ) × (first ≡ front ++ added) × Fills bytes (record { block = at; offset = length front; bytes = added }) pieces × (bytes ≢ [] → added ≢ [])
behind_front front bytes first at [] short fills = (bytes, fills, refl, λ some. some)
behind_front front bytes first at (q ∷ pieces) short fills =
    let long : 0 + length first ≡ 4064 = fills.2 in
    let split = split_front front bytes first fills.0 fills.1 (omega arith) in
    let parts : length first ≡ length front + length split.0 = ap length split.1 ∙ length-append front split.0 in
    (split.0, split.1, (fills.0, split.2, omega arith, fills.3, fills.4, fills.5), λ some e. omega (arith, ap length e))

pieces_from : (revision : ℕ) (bytes added : List ℕ) (before after : OpenBlock) (file grown : List Block) (count : ℕ) (from : FilledFrom revision grown after before.number count (before.bytes ++ bytes)) → length grown ≡ length file + count → from.first ≡ before.bytes ++ added → Fills bytes (record { block = before.number; offset = length before.bytes; bytes = added }) from.others → (bytes ≢ [] → added ≢ []) → PutPieces revision bytes before after file grown
pieces_from revision bytes added before after file grown count from counted first fills some = record {
  added = added;
  others = from.others;
  full = from.full;
  count = count;
  counted = counted;
  all = from.all ∙ ap (λ (l : List ℕ). record { block = before.number; offset = 0; bytes = l } ∷ from.others) first;
  blocks = from.blocks;
  held = subst (λ (l : List ℕ). Holds revision grown after before.number l) first from.held;
  next = from.next;
  fills = fills;
  some = some;
}

pub put_pieces : (revision : ℕ) (bytes : List ℕ) (before after : OpenBlock) (file grown : List Block) → before.number ≡ length file → length before.bytes < 4064 → PutsBytes revision bytes before after file grown → PutPieces revision bytes before after file grown
put_pieces revision bytes before after file grown is_end short put =
    by
    (subst (λ (l : List Block). FilledFrom revision l after before.number (length put.more) (before.bytes ++ bytes)) (sym put.out)
    (subst (λ (l : List ℕ). FilledFrom revision (file ++ put.more) after before.number (length put.more) l) (sym put.all)
    (filled_from revision after put.more file before.number put.whole is_end put.number put.full)))
  where
    by : FilledFrom revision grown after before.number (length put.more) (before.bytes ++ bytes) → PutPieces revision bytes before after file grown
    by from =
        let behind = behind_front before.bytes bytes from.first before.number from.others short from.fills in
        pieces_from revision bytes behind.0 before after file grown (length put.more) from (ap length put.out ∙ length-append file put.more) behind.1 behind.2 behind.3

-- so what began at an address stays there
pub put_keeps : (revision : ℕ) (bytes : List ℕ) (before after : OpenBlock) (file grown : List Block) → before.number ≡ length file → length before.bytes < 4064 → PutsBytes revision bytes before after file grown → Keeps revision file grown before after
put_keeps revision bytes before after file grown is_end short put =
    let pieces = put_pieces revision bytes before after file grown is_end short put in
    record {
      at_end = is_end;
      more = put.more;
      whole = put.out;
      behind = let number = put.number in omega arith;
      opened = inr (pieces.added, pieces.held);
    }

-- and a record just put stands at its address
pub put_stands : (revision : ℕ) (r : Rec) (before after : OpenBlock) (file grown : List Block) → before.number ≡ length file → length before.bytes < 4064 → IsTrue (is_record r) → PutsBytes revision (record_bytes r) before after file grown → RecordAt revision grown after (address_of before.number (length before.bytes)) r
put_stands revision r before after file grown is_end short is put =
    let pieces = put_pieces revision (record_bytes r) before after file grown is_end short put in
    by (address_of before.number (length before.bytes)) pieces (omega arith) (omega arith) (fills_spread (record_bytes r) _ pieces.others pieces.fills)
  where
    by : (address : ℕ) (pieces : PutPieces revision (record_bytes r) before after file grown) → before.number ≡ address / 4096 → length before.bytes ≡ address % 4096
        → SpreadsWhole (record_bytes r) (record { block = before.number; offset = length before.bytes; bytes = pieces.added } ∷ pieces.others) → RecordAt revision grown after address r
    by address pieces number offset whole =
        let long = length-append before.bytes pieces.added in
        let some : length pieces.added ≢ 0 = λ e. pieces.some (record_some r) (nil_from_length pieces.added e) in
        let held : HeldAt revision grown after before.number (length before.bytes) (record_bytes r) (length before.bytes + 1) = record {
          first = before.bytes ++ pieces.added;
          others = pieces.others;
          beyond = whole.behind;
          held = pieces.held;
          next = pieces.next;
          long = omega arith;
          spreads = subst (λ (l : List ℕ). Spreads (record_bytes r) (record { block = before.number; offset = length before.bytes; bytes = l } ∷ pieces.others) whole.behind) (sym (drop_at before.bytes pieces.added (length before.bytes) refl)) whole.spreads;
        } in
        record_from revision grown after address r (length before.bytes + 1) is (omega arith)
        (subst₂ (λ (b o : ℕ). HeldAt revision grown after b o (record_bytes r) (length before.bytes + 1)) number offset held)
