-- Records of a batch put one behind another.
use Rattle.std.proofs.Common.{◌≡◌, ℕ, ◌+◌, ◌<◌, ◌≤◌, ◌^◌, List, [], ◌∷◌, ◌++◌, length, map, refl, sym, ap, subst, ◌∙◌, arith, append_assoc}
use Rattle.std.specs.Prelude.{IsTrue}
use Rattle.std.specs.FinMap as finite
use Rattle.block_host.specs.declared.block.Block.{Block}
use Rattle.doc_stream.specs.OpenBlock.{OpenBlock, PutsBytes, address_of}
use Rattle.forest_model.specs.Records.{is_record, record_bytes}
use Rattle.forest_model.specs.Documents.{key_at}
use Rattle.forest_model.specs.declared.call.Item.{Item}
use Rattle.forest_model.specs.declared.call.Item.TheVariants.{Put, Del}
use Rattle.forest_model.specs.declared.stored.Entry.{Entry}
use Rattle.forest_model.specs.declared.stored.Rec.{Rec}
use Rattle.file_documents.specs.declared.batch_puts.Pending.{Pending}
use Rattle.file_documents.specs.Batching.{Turn, PutsEach, item_record, item_entry, item_key, documents_with, live_with}
use Rattle.file_documents.specs.BatchPuts.{Known, PutsAll, IsPut, entry_put, known_with, known_after, known_from, room_of}
use Rattle.file_parts.specs.Growing.{AreNoHeaders}
use Rattle.file_parts.proofs.Growing.{puts_no_headers}
use Rattle.file_parts.proofs.Puts.{length-record}

-- ---- one record

entry_is : (tail : OpenBlock) (store seq : ℕ) (item : Item) → entry_put (address_of tail.number (length tail.bytes)) seq item ≡ item_entry tail store seq item
entry_is tail store seq (Put key meta body) = refl
entry_is tail store seq (Del key) = refl

record_key : (store seq : ℕ) (item : Item) → (item_record store seq item).key ≡ item_key item
record_key store seq (Put key meta body) = refl
record_key store seq (Del key) = refl

length_of : (store seq address : ℕ) (item : Item) → length (record_bytes (item_record store seq item)) ≡ (entry_put address seq item).len
length_of store seq address (Put key meta body) = length-record (item_record store seq (Put key meta body))
length_of store seq address (Del key) = length-record (item_record store seq (Del key))

-- what puts an item's record, and takes the memory of its entry
pub item_put : (revision store seq : ℕ) (item : Item) (a b : OpenBlock) (before after : List Block) (r : Rec) (p : Pending) (address : ℕ)
    → r ≡ item_record store seq item → IsTrue (is_record r) → PutsBytes revision (record_bytes r) a b before after → p.room ≡ r.key → address ≡ address_of a.number (length a.bytes) → p.entry ≡ entry_put address seq item
    → IsPut revision store seq item p a b before after
item_put revision store seq item a b before after r p address r_is is put room at entry = record {
  is_record = subst (λ (q : Rec). IsTrue (is_record q)) r_is is;
  put = subst (λ (q : Rec). PutsBytes revision (record_bytes q) a b before after) r_is put;
  room = room ∙ ap (λ (q : Rec). q.key) r_is ∙ record_key store seq item;
  entry = entry ∙ ap (λ n. entry_put n seq item) at ∙ entry_is a store seq item;
}

-- a record fills few blocks
pub grown_little : (revision store seq address : ℕ) (item : Item) (a b : OpenBlock) (before after : List Block) (r : Rec) (e : Entry)
    → r ≡ item_record store seq item → PutsBytes revision (record_bytes r) a b before after → length a.bytes < 4064 → e ≡ entry_put address seq item → e.len ≤ 2 ^ 21 → b.number ≤ a.number + 1024
grown_little revision store seq address item a b before after r e r_is put short e_is small =
    let long : length (record_bytes r) ≤ 2 ^ 21 = omega (arith, ap (λ (q : Rec). length (record_bytes q)) r_is, length_of store seq address item, ap (λ (x : Entry). x.len) e_is) in
    omega (arith, put.number, put.count)

-- ---- one behind another

-- the records so far, with any that are put behind them, are all
pub record PutSoFar (revision store seq last : ℕ) (items left : List Item) (ps : List Pending) (a b : OpenBlock) (before between : List Block) : Type 0 where
  pub joins : (rest : List Pending) (c : OpenBlock) (after : List Block) → PutsAll revision store last left rest b c between after → PutsAll revision store seq items (ps ++ rest) a c before after

pub put_none : (revision store seq : ℕ) (items : List Item) (a : OpenBlock) (before : List Block) → PutSoFar revision store seq seq items items [] a a before before
put_none revision store seq items a before = record { joins = λ rest c after h. h }

pub put_next : (revision store seq last : ℕ) (items left more : List Item) (item : Item) (ps : List Pending) (p : Pending) (a b c : OpenBlock) (before between after : List Block)
    → PutSoFar revision store seq last items left ps a b before between → left ≡ item ∷ more → IsPut revision store (last + 1) item p b c between after
    → PutSoFar revision store seq (last + 1) items more (ps ++ p ∷ []) a c before after
put_next revision store seq last items left more item ps p a b c before between after so_far left_is put = record {
  joins = λ rest d end h.
      subst (λ (qs : List Pending). PutsAll revision store seq items qs a d before end) (sym (append_assoc ps (p ∷ []) rest))
      (so_far.joins (p ∷ rest) d end (subst (λ (l : List Item). PutsAll revision store last l (p ∷ rest) b d between end) (sym left_is) (c, after, put, h)));
}

append_none : {X : Type 0} (xs : List X) → xs ++ [] ≡ xs
append_none [] = refl
append_none (x ∷ xs) = ap (λ ys. x ∷ ys) (append_none xs)

pub put_all : (revision store seq last : ℕ) (items left : List Item) (ps : List Pending) (a b : OpenBlock) (before between : List Block)
    → PutSoFar revision store seq last items left ps a b before between → left ≡ [] → PutsAll revision store seq items ps a b before between
put_all revision store seq last items left ps a b before between so_far none =
    subst (λ (qs : List Pending). PutsAll revision store seq items qs a b before between) (append_none ps)
    (so_far.joins [] b between (subst (λ (l : List Item). PutsAll revision store last l [] b b between between) (sym none) (refl, refl)))

-- the entries that wait are those of the items' keys
pub rooms_are : (revision store seq : ℕ) (items : List Item) (ps : List Pending) (a c : OpenBlock) (before after : List Block)
    → PutsAll revision store seq items ps a c before after → map room_of ps ≡ map item_key items
rooms_are revision store seq [] [] a c before after h = refl
rooms_are revision store seq [] (p ∷ ps) a c before after h = absurd h
rooms_are revision store seq (item ∷ items) [] a c before after h = absurd h
rooms_are revision store seq (item ∷ items) (p ∷ ps) a c before after h =
    let rest = rooms_are revision store (seq + 1) items ps h.0 c h.1 after h.3 in λ i. h.2.room i ∷ rest i

-- the blocks that go out are no headers
pub all_no_headers : (revision store seq : ℕ) (items : List Item) (ps : List Pending) (a c : OpenBlock) (before after : List Block)
    → PutsAll revision store seq items ps a c before after → AreNoHeaders before → AreNoHeaders after
all_no_headers revision store seq [] [] a c before after h none = subst AreNoHeaders (sym h.1) none
all_no_headers revision store seq [] (p ∷ ps) a c before after h none = absurd h
all_no_headers revision store seq (item ∷ items) [] a c before after h none = absurd h
all_no_headers revision store seq (item ∷ items) (p ∷ ps) a c before after h none =
    all_no_headers revision store (seq + 1) items ps h.0 c h.1 after h.3 (puts_no_headers revision (record_bytes (item_record store (seq + 1) item)) a h.0 before h.1 h.2.put none)

-- ---- with the entries made known

known_item : (store seq : ℕ) (a : Known) (tail : OpenBlock) (item : Item) (p : Pending) → p.room ≡ item_key item → p.entry ≡ item_entry tail store seq item
    → known_with store a p ≡ record {
      entries = finite.insert a.entries (key_at store (item_key item)) (item_entry tail store seq item);
      documents = documents_with item (finite.get a.entries (key_at store (item_key item))) a.documents;
      live = live_with item (finite.get a.entries (key_at store (item_key item))) a.live;
    }
known_item store seq a tail (Put key meta body) p room entry = λ i. known_with store a (record { room = room i; entry = entry i })
known_item store seq a tail (Del key) p room entry = λ i. known_with store a (record { room = room i; entry = entry i })

abbrev pub known_at : Turn → Known
known_at t = known_from t.entries t.documents t.live

pub puts_each : (revision store : ℕ) (items : List Item) (ps : List Pending) (a last : Turn) (before after : List Block)
    → PutsAll revision store a.seq items ps a.tail last.tail before after → last.seq ≡ a.seq + length items → known_at last ≡ known_after store (known_at a) ps
    → PutsEach revision store items a last before after
puts_each revision store [] [] a last before after h seq known =
    let same : last.seq ≡ a.seq = omega arith in
    (λ i. record { tail = h.0 i; entries = (known i).entries; seq = same i; documents = (known i).documents; live = (known i).live }, h.1)
puts_each revision store [] (p ∷ ps) a last before after h seq known = absurd h
puts_each revision store (item ∷ items) [] a last before after h seq known = absurd h
puts_each revision store (item ∷ items) (p ∷ ps) a last before after h seq known =
    let b : Turn = record {
      tail = h.0;
      entries = finite.insert a.entries (key_at store (item_key item)) (item_entry a.tail store (a.seq + 1) item);
      seq = a.seq + 1;
      documents = documents_with item (finite.get a.entries (key_at store (item_key item))) a.documents;
      live = live_with item (finite.get a.entries (key_at store (item_key item))) a.live;
    } in (
      b,
      h.1,
      record { is_record = h.2.is_record; put = h.2.put; entries = refl; seq = refl; documents = refl; live = refl },
      puts_each revision store items ps b last h.1 after h.3 (omega arith)
          (known ∙ ap (λ k. known_after store k ps) (known_item store (a.seq + 1) (known_at a) a.tail item p h.2.room h.2.entry)),
    )
