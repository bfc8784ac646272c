-- What a range of blocks holds as records: it goes by these blocks, is one list, and stands at the addresses.
use Rattle.std.proofs.Common.{◌≡◌, ◌≢◌, ◌⊎◌, inl, inr, ℕ, zero, suc, ◌+◌, ◌/◌, ◌%◌, ◌<◌, ◌≤◌, List, [], ◌∷◌, ◌++◌, length, drop, slice_get, Some, IsTrue, refl, sym, ◌∙◌, ap, subst, arith, append_assoc, length-append}
use Rattle.std.specs.List.{AllByRecursion}
use Rattle.std.proofs.lemmas.List.{append-nil, nil_from_length, drop_at}
use Rattle.std.proofs.lemmas.Option.{same_Some, none-some}
use Rattle.block_host.specs.Sealed.{IsSealed}
use Rattle.block_host.specs.declared.block.Block.{Block}
use Rattle.forest_model.specs.declared.stored.Rec.{Rec}
use Rattle.doc_stream.specs.OpenBlock.{OpenBlock}
use Rattle.doc_stream.specs.Reading.{Holds, AreHeld, RecordAt}
use Rattle.forest_model.specs.Records.{record_bytes, head_bytes, is_record}
use Rattle.doc_stream.specs.Runs.{Piece, RecordBlocks, Spreads, StartsAt, AreRecords, RecordsOf, left}
use Rattle.doc_stream.specs.Shown.{Stands}
use Rattle.doc_stream.proofs.Blocks.{stands_once, some_or_none, kept, passed, left_left, lt_or_le}
use Rattle.doc_stream.proofs.RecordBytes.{fits_record, head_once, behind_head, front_of, record_split, same_rec, length-behind, length-head}
use Rattle.doc_stream.proofs.Steps.{split_front}

-- it goes by these blocks
pub blocks_stay : (revision : ℕ) (old new : List Block) (at count : ℕ) (pieces : List Piece) → ((i : ℕ) → at ≤ i → i < at + count → slice_get new i ≡ slice_get old i) → RecordBlocks revision old at count pieces → RecordBlocks revision new at count pieces
blocks_stay revision old new at zero pieces same b = b
blocks_stay revision old new at (suc more) pieces same b = (
  b.0,
  b.1,
  b.2,
  same at (omega arith) (omega arith) ∙ b.3,
  b.4,
  elim b.5 [
    | inl h ↦ inl (h.0, h.1, h.2, blocks_stay revision old new (at + 1) more h.1 (λ i ge lt. same i (omega arith) (omega arith)) h.3)
    | inr h ↦ inr (h.0, blocks_stay revision old new (at + 1) more pieces (λ i ge lt. same i (omega arith) (omega arith)) h.1)
  ],
)

pub records_stay : (revision : ℕ) (old new : List Block) (start count : ℕ) (records : List (ℕ × Rec)) → ((at : ℕ) → start ≤ at → at < start + count → slice_get new at ≡ slice_get old at) → RecordsOf revision old start count records → RecordsOf revision new start count records
records_stay revision old new start count records same of = record { pieces = of.pieces; blocks = blocks_stay revision old new start count of.pieces same of.blocks; are = of.are }

-- one list of pieces
abbrev Rest : ℕ → List Block → ℕ → ℕ → List Piece → ℕ → List ℕ → Type 0
Rest revision file at more pieces kind payload =
    ((kind ≡ 1) × (rest : List Piece) × (pieces ≡ record { block = at; offset = 0; bytes = payload } ∷ rest) × RecordBlocks revision file (at + 1) more rest)
    ⊎ ((kind ≢ 1) × RecordBlocks revision file (at + 1) more pieces)

rest_once : (revision : ℕ) (file : List Block) (at more : ℕ) (ps qs : List Piece) (kind kind' : ℕ) (payload payload' : List ℕ) → (kind ≡ kind') × (payload ≡ payload')
    → ((xs ys : List Piece) → RecordBlocks revision file (at + 1) more xs → RecordBlocks revision file (at + 1) more ys → xs ≡ ys)
    → Rest revision file at more ps kind payload → Rest revision file at more qs kind' payload' → ps ≡ qs
rest_once revision file at more ps qs kind kind' payload payload' same once (inl a) (inl b) =
    a.2 ∙ ap (λ (x : List ℕ). record { block = at; offset = 0; bytes = x } ∷ a.1) same.1 ∙ ap (λ (x : List Piece). record { block = at; offset = 0; bytes = payload' } ∷ x) (once a.1 b.1 a.3 b.3) ∙ sym b.2
rest_once revision file at more ps qs kind kind' payload payload' same once (inl a) (inr b) = absurd (b.0 (sym same.0 ∙ a.0))
rest_once revision file at more ps qs kind kind' payload payload' same once (inr a) (inl b) = absurd (a.0 (same.0 ∙ b.0))
rest_once revision file at more ps qs kind kind' payload payload' same once (inr a) (inr b) = once ps qs a.1 b.1

blocks_once : (revision : ℕ) (file : List Block) (at count : ℕ) (ps qs : List Piece) → RecordBlocks revision file at count ps → RecordBlocks revision file at count qs → ps ≡ qs
blocks_once revision file at zero ps qs a b = a ∙ sym b
blocks_once revision file at (suc more) ps qs a b =
    let one : Stands revision file at a.1 a.2 = record { block = a.0; there = a.3; sealed = a.4 } in
    let two : Stands revision file at b.1 b.2 = record { block = b.0; there = b.3; sealed = b.4 } in
    rest_once revision file at more ps qs a.1 b.1 a.2 b.2 (stands_once revision file at a.1 b.1 a.2 b.2 one two)
    (λ xs ys x y. blocks_once revision file (at + 1) more xs ys x y) a.5 b.5

-- what spreads over pieces is their front
abbrev SpreadsOn : List ℕ → List ℕ → List Piece → List Piece → Type 0
SpreadsOn a c b1 b2 = (more : List ℕ) × (c ≡ a ++ more) × (length more ≡ 0 → b1 ≡ b2)

spread_front : (a c : List ℕ) (xs b1 b2 : List Piece) → length a ≤ length c → Spreads a xs b1 → Spreads c xs b2 → SpreadsOn a c b1 b2
spread_front a c [] b1 b2 le one two = absurd one
spread_front a c (p ∷ ps) b1 b2 le one two = elim one [
  | inl x ↦ elim two [
    | inl y ↦
        (let f = split_front a x.0 c y.0 (sym x.1 ∙ y.1) le in
        let lengths = ap length f.1 ∙ length-append a f.0 in (
          f.0,
          f.1,
          λ none.
              let nothing : f.0 ≡ [] = nil_from_length f.0 none in
              let same : x.0 ≡ y.0 = f.2 ∙ ap (λ (l : List ℕ). l ++ y.0) nothing in
              let at : p.offset + length a ≡ p.offset + length c = omega arith in
              let make : ℕ → List ℕ → List Piece = λ n b. record { block = p.block; offset = n; bytes = b } ∷ ps in
              x.2 ∙ ap (λ (n : ℕ). make n x.0) at ∙ ap (λ (l : List ℕ). make (p.offset + length c) l) same ∙ sym y.2,
        ))
    | inr y ↦
        ((
          x.0 ++ y.0,
          y.1 ∙ ap (λ (l : List ℕ). l ++ y.0) x.1 ∙ append_assoc a x.0 y.0,
          λ none.
              let lengths = length-append x.0 y.0 in
              absurd (y.2 (nil_from_length y.0 (omega arith))),
        ))
  ]
  | inr x ↦ elim two [
    | inl y ↦
        (let long = ap length x.1 ∙ length-append p.bytes x.0 in
        let all = ap length y.1 ∙ length-append c y.0 in
        let none : length x.0 ≡ 0 = omega arith in
        absurd (x.2 (nil_from_length x.0 none)))
    | inr y ↦
        (let long = ap length x.1 ∙ length-append p.bytes x.0 in
        let all = ap length y.1 ∙ length-append p.bytes y.0 in
        let f = spread_front x.0 y.0 ps b1 b2 (omega arith) x.5 y.5 in
        (f.0, y.1 ∙ ap (λ (l : List ℕ). p.bytes ++ l) f.1 ∙ sym (append_assoc p.bytes x.0 f.0) ∙ ap (λ (l : List ℕ). l ++ f.0) (sym x.1), f.2))
  ]
]

-- no record's bytes begin with another's
pub record_once : (r s : Rec) (more : List ℕ) → IsTrue (is_record r) → IsTrue (is_record s) → record_bytes s ≡ record_bytes r ++ more → (r ≡ s) × (length more ≡ 0)
record_once r s more is is' e =
    let whole : head_bytes s ++ behind_head s ≡ head_bytes r ++ (behind_head r ++ more) =
    sym (record_split s) ∙ e ∙ ap (λ (l : List ℕ). l ++ more) (record_split r) ∙ append_assoc (head_bytes r) (behind_head r) more in
    let split = front_of (head_bytes s) (behind_head s) (head_bytes r) (behind_head r ++ more) refl whole in
    let fits = fits_record r is in
    let fits' = fits_record s is' in
    let k = fits.key in
    let b = fits.body in
    let k' = fits'.key in
    let b' = fits'.body in
    let n = head_once r.kind (length r.meta) (length r.key) (length r.body) r.store r.seq s.kind (length s.meta) (length s.key) (length s.body) s.store s.seq
    (omega arith) (omega arith) fits.store fits.seq (omega arith) (omega arith) fits'.store fits'.seq (sym split.0) in
    let one = n.key in
    let two = n.meta in
    let three = n.body in
    let long = length-behind r in
    let long' = length-behind s in
    let all = ap length split.1 ∙ length-append (behind_head r) more in
    let none : length more ≡ 0 = omega arith in
    let behind : behind_head r ≡ behind_head s = sym (split.1 ∙ ap (λ (l : List ℕ). behind_head r ++ l) (nil_from_length more none) ∙ append-nil (behind_head r)) in
    (same_rec r s n.kind n.store n.seq n.key n.meta behind, none)

one_record : (xs b1 b2 : List Piece) (r s : Rec) → IsTrue (is_record r) → IsTrue (is_record s) → Spreads (record_bytes r) xs b1 → Spreads (record_bytes s) xs b2 → (length (record_bytes r) < length (record_bytes s)) ⊎ (length (record_bytes s) ≤ length (record_bytes r)) → (r ≡ s) × (b1 ≡ b2)
one_record xs b1 b2 r s is is' one two (inl lt) =
    let f = spread_front (record_bytes r) (record_bytes s) xs b1 b2 (omega arith) one two in
    let same = record_once r s f.0 is is' f.1 in
    (same.0, f.2 same.1)
one_record xs b1 b2 r s is is' one two (inr le) =
    let f = spread_front (record_bytes s) (record_bytes r) xs b2 b1 le two one in
    let same = record_once s r f.0 is' is f.1 in
    (sym same.0, sym (f.2 same.1))

one_start : (a b : ℕ) (xs : List Piece) → StartsAt a xs → StartsAt b xs → a ≡ b
one_start a b [] one two = absurd one
one_start a b (p ∷ ps) one two = one ∙ sym two

are_once : (ps : List Piece) (rs ss : List (ℕ × Rec)) → AreRecords ps rs → AreRecords ps ss → rs ≡ ss
are_once ps [] [] one two = refl
are_once ps [] ((b, s) ∷ ss) one two = absurd (subst (λ (l : List Piece). StartsAt b l) one two.1)
are_once ps ((a, r) ∷ rs) [] one two = absurd (subst (λ (l : List Piece). StartsAt a l) two one.1)
are_once ps ((a, r) ∷ rs) ((b, s) ∷ ss) one two =
    let address = one_start a b (left ps) one.1 two.1 in
    let same = one_record (left ps) one.2.0 two.2.0 r s one.0 two.0 one.2.1 two.2.1 (lt_or_le (length (record_bytes r)) (length (record_bytes s))) in
    let rest = are_once one.2.0 rs ss one.2.2 (subst (λ (l : List Piece). AreRecords l ss) (sym same.1) two.2.2) in
    ap (λ (n : ℕ). (n, r) ∷ rs) address ∙ ap (λ (x : Rec). (b, x) ∷ rs) same.0 ∙ ap (λ (l : List (ℕ × Rec)). (b, s) ∷ l) rest

pub records_once : (revision : ℕ) (file : List Block) (start count : ℕ) (records others : List (ℕ × Rec)) → RecordsOf revision file start count records → RecordsOf revision file start count others → records ≡ others
records_once revision file start count records others one two =
    are_once one.pieces records others one.are (subst (λ (l : List Piece). AreRecords l others) (sym (blocks_once revision file start count one.pieces two.pieces one.blocks two.blocks)) two.are)

left_at_most : (ps : List Piece) → length (left ps) ≤ length ps
left_at_most [] = omega arith
left_at_most (p ∷ ps) =
    let rest = left_at_most ps in
    elim (some_or_none p.bytes) [
      | inl none ↦ (let less : length (left (p ∷ ps)) ≡ length (left ps) = ap length (passed p ps none) in omega arith)
      | inr some ↦ (let less : length (left (p ∷ ps)) ≡ suc (length (left ps)) = ap length (kept p ps some) in omega arith)
    ]

long_enough : (r : Rec) → 24 ≤ length (record_bytes r)
long_enough r = omega (arith, ap length (record_split r), length-append (head_bytes r) (behind_head r), length-head r)

-- at an address: a whole block of records, and what is left of one, outside the open block
module _ (revision : ℕ) (file : List Block) (tail : OpenBlock) where
  record IsWhole (p : Piece) : Type 0 where
    pub offset : p.offset ≡ 0
    pub not_open : p.block ≢ tail.number
    pub stands : Stands revision file p.block 1 p.bytes

  record IsPart (p : Piece) : Type 0 where
    pub front : List ℕ
    pub offset : length front ≡ p.offset
    pub not_open : p.block ≢ tail.number
    pub stands : Stands revision file p.block 1 (front ++ p.bytes)

  abbrev Wholes : List Piece → Type 0
  Wholes pieces = AllByRecursion IsWhole pieces

  abbrev Parts : List Piece → Type 0
  Parts [] = Unit {0}
  Parts (p ∷ pieces) = IsPart p × Wholes pieces

  part_of : (p : Piece) → IsWhole p → IsPart p
  part_of p w = record { front = []; offset = sym w.offset; not_open = w.not_open; stands = w.stands }

  parts_of : (ps : List Piece) → Wholes ps → Parts ps
  parts_of [] w = tt
  parts_of (p ∷ ps) w = (part_of p w.0, w.1)

  wholes_left : (ps : List Piece) → Wholes ps → Wholes (left ps)
  wholes_left [] w = tt
  wholes_left (p ∷ ps) w = elim (some_or_none p.bytes) [
    | inl none ↦ subst (λ (l : List Piece). Wholes l) (sym (passed p ps none)) (wholes_left ps w.1)
    | inr some ↦ subst (λ (l : List Piece). Wholes l) (sym (kept p ps some)) (w.0, wholes_left ps w.1)
  ]

  parts_left : (ps : List Piece) → Parts ps → Parts (left ps)
  parts_left [] w = tt
  parts_left (p ∷ ps) w = elim (some_or_none p.bytes) [
    | inl none ↦ subst (λ (l : List Piece). Parts l) (sym (passed p ps none)) (parts_of (left ps) (wholes_left ps w.1))
    | inr some ↦ subst (λ (l : List Piece). Parts l) (sym (kept p ps some)) (w.0, wholes_left ps w.1)
  ]

  whole_blocks : (at count : ℕ) (ps : List Piece) → (tail.number < at) ⊎ (at + count ≤ tail.number) → RecordBlocks revision file at count ps → Wholes ps
  whole_blocks at zero ps out b = subst (λ (l : List Piece). Wholes l) (sym b) tt
  whole_blocks at (suc more) ps out b =
      elim b.5 [
        | inl h ↦ subst (λ (l : List Piece). Wholes l) (sym h.2)
            (record { offset = refl; not_open = apart out; stands = record { block = b.0; there = b.3; sealed = subst (λ (k : ℕ). IsSealed revision at k b.2 b.0) h.0 b.4 } }, whole_blocks (at + 1) more h.1 (further out) h.3)
        | inr h ↦ whole_blocks (at + 1) more ps (further out) h.1
      ]
    where
      apart : (tail.number < at) ⊎ (at + suc more ≤ tail.number) → at ≢ tail.number
      apart (inl lt) same = omega arith
      apart (inr le) same = omega arith

      further : (tail.number < at) ⊎ (at + suc more ≤ tail.number) → (tail.number < at + 1) ⊎ (at + 1 + more ≤ tail.number)
      further (inl lt) = inl (omega arith)
      further (inr le) = inr (omega arith)

  -- what is left behind bytes
  parts_behind : (bytes : List ℕ) (ps behind : List Piece) → Parts ps → Spreads bytes ps behind → Parts behind
  parts_behind bytes [] behind parts spreads = absurd spreads
  parts_behind bytes (p ∷ ps) behind parts spreads = elim spreads [
    | inl x ↦ subst (λ (l : List Piece). Parts l) (sym x.2) (later x.0 x.1 parts.0, parts.1)
    | inr x ↦ parts_behind x.0 ps behind (parts_of ps parts.1) x.5
  ]
    where
      later : (rest : List ℕ) → p.bytes ≡ bytes ++ rest → IsPart p → IsPart (record { block = p.block; offset = p.offset + length bytes; bytes = rest })
      later rest is part =
          let offset = part.offset in
          record {
            front = part.front ++ bytes;
            offset = omega (arith, length-append part.front bytes);
            not_open = part.not_open;
            stands = subst (λ (l : List ℕ). Stands revision file p.block 1 l) (ap (λ (l : List ℕ). part.front ++ l) is ∙ sym (append_assoc part.front bytes rest)) part.stands;
          }

  holds : (at : ℕ) (bytes : List ℕ) → at ≢ tail.number → Stands revision file at 1 bytes → Holds revision file tail at bytes
  holds at bytes not s = inr (not, s.block, s.there, s.sealed)

  -- the blocks over which bytes spread
  abbrev HeldOn : List ℕ → Piece → Type 0
  HeldOn bytes p = (pieces : List Piece) × (beyond : List Piece) × AreHeld revision file tail (p.block + 1) pieces × Spreads bytes (p ∷ pieces) beyond

  held_on : (bytes : List ℕ) (p : Piece) (ps behind : List Piece) → Wholes ps → Spreads bytes (p ∷ ps) behind → HeldOn bytes p
  held_on bytes p [] behind wholes spreads = elim spreads [
    | inl x ↦ ([], behind, tt, inl x)
    | inr x ↦ absurd x.4
  ]
  held_on bytes p (q ∷ ps) behind wholes spreads = elim spreads [
    | inl x ↦ ([], record { block = p.block; offset = p.offset + length bytes; bytes = x.0 } ∷ [], tt, inl (x.0, x.1, refl))
    | inr x ↦
        (let w = wholes.0 in
        let on = held_on x.0 q ps behind wholes.1 x.5 in (
          q ∷ on.0,
          on.1,
          (x.4, w.offset, holds (p.block + 1) q.bytes (λ same. w.not_open (x.4 ∙ same)) (subst (λ (n : ℕ). Stands revision file n 1 q.bytes) x.4 w.stands), subst (λ (n : ℕ). AreHeld revision file tail (n + 1) on.0) x.4 on.2),
          inr (x.0, x.1, x.2, x.3, x.4, on.3),
        ))
  ]

  record_there : (address : ℕ) (r : Rec) (ps behind : List Piece) → Parts ps → 1 ≤ length (record_bytes r) → left ps ≡ ps → IsTrue (is_record r) → StartsAt address ps → Spreads (record_bytes r) ps behind → RecordAt revision file tail address r
  record_there address r [] behind parts some all is starts spreads = absurd spreads
  record_there address r (p ∷ ps) behind parts some all is starts spreads =
      let part = parts.0 in
      let payload = part.front ++ p.bytes in
      let q : Piece = record { block = p.block; offset = 0; bytes = payload } in
      let fits = part.stands.sealed.fits in
      let lengths = length-append part.front p.bytes in
      let offset = part.offset in
      let bytes : 1 ≤ length p.bytes = has_bytes (some_or_none p.bytes) in
      let block : address / 4096 ≡ p.block = omega arith in
      let at : address % 4096 ≡ p.offset = omega arith in
      let on = held_on (record_bytes r) p ps behind parts.1 spreads in
      let same : record { block = p.block; offset = address % 4096; bytes = drop (address % 4096) payload } ≡ p =
      let make : ℕ → List ℕ → Piece = λ n b. record { block = p.block; offset = n; bytes = b } in
      ap (λ (n : ℕ). make n (drop (address % 4096) payload)) at ∙ ap (λ (l : List ℕ). make p.offset l) (drop_at part.front p.bytes (address % 4096) (offset ∙ sym at)) in
      record {
        is_record = is;
        pieces = q ∷ on.0;
        behind = on.1;
        held = (sym block, refl, subst (λ (n : ℕ). Holds revision file tail n payload) (sym block) (holds p.block payload part.not_open part.stands), subst (λ (n : ℕ). AreHeld revision file tail (n + 1) on.0) (sym block) on.2);
        inside = omega arith;
        spreads = subst (λ (x : Piece). Spreads (record_bytes r) (x ∷ on.0) on.1) (sym same) on.3;
      }
    where
      has_bytes : (p.bytes ≡ []) ⊎ (1 ≤ length p.bytes) → 1 ≤ length p.bytes
      has_bytes (inr some_bytes) = some_bytes
      has_bytes (inl none) =
          let gone : length (left (p ∷ ps)) ≡ length (p ∷ ps) = ap length all in
          let fewer : left (p ∷ ps) ≡ left ps = passed p ps none in
          let less : length (left (p ∷ ps)) ≡ length (left ps) = ap length fewer in
          let most : length (left ps) ≤ length ps = left_at_most ps in
          absurd (omega arith)

  records_there : (ps : List Piece) (records : List (ℕ × Rec)) → Parts ps → AreRecords ps records → (n address : ℕ) (r : Rec) → slice_get records n ≡ Some (address, r) → RecordAt revision file tail address r
  records_there ps [] parts are n address r there = absurd (none-some (address, r) there)
  records_there ps ((a, s) ∷ records) parts are zero address r there =
      let same : ◌≡◌ {A = ℕ × Rec} (a, s) (address, r) = same_Some (a, s) (address, r) there in
      subst (λ (x : ℕ × Rec). RecordAt revision file tail x.0 x.1) same (record_there a s (left ps) are.2.0 (parts_left ps parts) (omega (arith, long_enough s)) (left_left ps) are.0 are.1 are.2.1)
  records_there ps ((a, s) ∷ records) parts are (suc n) address r there =
      records_there are.2.0 records (parts_behind (record_bytes s) (left ps) are.2.0 (parts_left ps parts) are.2.1) are.2.2 n address r there

  pub scanned_there : (start count : ℕ) (records : List (ℕ × Rec)) → RecordsOf revision file start count records → (tail.number < start) ⊎ (start + count ≤ tail.number) → (n address : ℕ) (r : Rec) → slice_get records n ≡ Some (address, r) → RecordAt revision file tail address r
  scanned_there start count records of out n address r there = records_there of.pieces records (parts_of of.pieces (whole_blocks start count of.pieces out of.blocks)) of.are n address r there
