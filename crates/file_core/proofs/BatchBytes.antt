-- The records of a batch, put one behind another, are put as one.
use Rattle.std.proofs.Common.{◌≡◌, ℕ, ◌+◌, ◌<◌, List, [], ◌∷◌, ◌++◌, length, refl, sym, ap, subst, ◌∙◌, arith, append_assoc, append-nil, length-append}
use Rattle.std.specs.Prelude.{sum_by}
use Rattle.std.proofs.lemmas.List.Sums.{sum_by-cons}
use Rattle.block_host.specs.declared.block.Block.{Block}
use Rattle.doc_stream.specs.OpenBlock.{OpenBlock, PutsBytes}
use Rattle.forest_model.specs.Records.{record_bytes}
use Rattle.forest_model.specs.Documents.{key_at, doc_of}
use Rattle.forest_model.specs.Step.{item_length}
use Rattle.forest_model.specs.declared.call.Item.{Item}
use Rattle.forest_model.specs.declared.call.Item.TheVariants.{Put, Del}
use Rattle.file_documents.specs.Setting.{put_of}
use Rattle.file_documents.specs.Deleting.{deletion_of}
use Rattle.file_documents.specs.Batching.{Turn, PutsItem, PutsEach, item_record}
use Rattle.file_parts.proofs.Puts.{length-record}
use Rattle.file_core.proofs.SetBlocks.{put_lengths}

-- ---- what the crate below promises of bytes put one after another

abbrev pub PutsJoin : Type 0
PutsJoin = (revision : ℕ) (first second : List ℕ) (a b c : OpenBlock) (o p q : List Block) → length c.bytes < 4064
    → PutsBytes revision first a b o p → PutsBytes revision second b c p q → PutsBytes revision (first ++ second) a c o q

abbrev pub PutsNone : Type 0
PutsNone = (revision : ℕ) (a : OpenBlock) (o : List Block) → length a.bytes < 4064 → PutsBytes revision [] a a o o

-- ---- one put

alone : (revision : ℕ) (bytes : List ℕ) (a b : OpenBlock) (before after : List Block) (puts : PutsBytes revision bytes a b before after) → PutsBytes revision bytes a b [] puts.more
alone revision bytes a b before after puts = record {
  more = puts.more;
  whole = puts.whole;
  out = refl;
  full = puts.full;
  all = puts.all;
  number = puts.number;
  count = puts.count;
}

-- the open block has less than a whole payload
pub put_short : (revision : ℕ) (bytes : List ℕ) (a b : OpenBlock) (before after : List Block) → PutsBytes revision bytes a b before after → length b.bytes < 4064
put_short revision bytes a b before after puts =
    let lengths = put_lengths revision (length bytes) bytes a b puts.more (alone revision bytes a b before after puts) refl in
    omega (arith, lengths.loose)

further : (revision : ℕ) (bytes : List ℕ) (a b : OpenBlock) (file before after : List Block) → PutsBytes revision bytes a b before after → PutsBytes revision bytes a b (file ++ before) (file ++ after)
further revision bytes a b file before after puts = record {
  more = puts.more;
  whole = puts.whole;
  out = ap (λ bs. file ++ bs) puts.out ∙ sym (append_assoc file before puts.more);
  full = puts.full;
  all = puts.all;
  number = puts.number;
  count = puts.count;
}

-- ---- the records of all items

-- their bytes, where the store is at a number
abbrev pub bytes_of_items : ℕ → ℕ → List Item → List ℕ
bytes_of_items store seq [] = []
bytes_of_items store seq (item ∷ items) = record_bytes (item_record store (seq + 1) item) ++ bytes_of_items store (seq + 1) items

length-item : (store seq : ℕ) (item : Item) → length (record_bytes (item_record store seq item)) ≡ item_length item
length-item store seq (Put key meta body) = length-record (put_of (key_at store key) (doc_of seq meta body))
length-item store seq (Del key) = length-record (deletion_of (key_at store key) seq)

pub length-items : (store seq : ℕ) (items : List Item) → length (bytes_of_items store seq items) ≡ sum_by item_length items
length-items store seq [] = refl
length-items store seq (item ∷ items) =
    omega (arith, length-append (record_bytes (item_record store (seq + 1) item)) (bytes_of_items store (seq + 1) items), length-item store (seq + 1) item, length-items store (seq + 1) items, sum_by-cons item_length item items)

module _ (joins : PutsJoin) (nones : PutsNone) (revision store : ℕ) where
  pub items_joined : (items : List Item) (a c : Turn) (before after : List Block) → length a.tail.bytes < 4064 → PutsEach revision store items a c before after
      → (length c.tail.bytes < 4064) × PutsBytes revision (bytes_of_items store a.seq items) a.tail c.tail before after
  items_joined [] a c before after short puts =
      subst (λ (t : Turn). (length t.tail.bytes < 4064) × PutsBytes revision [] a.tail t.tail before after) (sym puts.0)
      (short, subst (λ (bs : List Block). PutsBytes revision [] a.tail a.tail before bs) (sym puts.1) (nones revision a.tail before short))
  items_joined (item ∷ items) a c before after short puts =
      let b = puts.0 in
      let bytes = record_bytes (item_record store (a.seq + 1) item) in
      let later = items_joined items b c puts.1 after (put_short revision bytes a.tail b.tail before puts.1 puts.2.put) puts.3 in (
        later.0,
        joins revision bytes (bytes_of_items store (a.seq + 1) items) a.tail b.tail c.tail before puts.1 after later.0 puts.2.put
            (subst (λ (n : ℕ). PutsBytes revision (bytes_of_items store n items) b.tail c.tail puts.1 after) puts.2.seq later.1),
      )

-- ---- the same behind a file

item_further : (revision store : ℕ) (item : Item) (a b : Turn) (file before after : List Block) → PutsItem revision store item a b before after → PutsItem revision store item a b (file ++ before) (file ++ after)
item_further revision store item a b file before after puts = record {
  is_record = puts.is_record;
  put = further revision (record_bytes (item_record store (a.seq + 1) item)) a.tail b.tail file before after puts.put;
  entries = puts.entries;
  seq = puts.seq;
  documents = puts.documents;
  live = puts.live;
}

each_further : (revision store : ℕ) (items : List Item) (a c : Turn) (file before after : List Block) → PutsEach revision store items a c before after → PutsEach revision store items a c (file ++ before) (file ++ after)
each_further revision store [] a c file before after puts = (puts.0, ap (λ bs. file ++ bs) puts.1)
each_further revision store (item ∷ items) a c file before after puts =
    (puts.0, file ++ puts.1, item_further revision store item a puts.0 file before puts.1 puts.2, each_further revision store items puts.0 c file puts.1 after puts.3)

pub each_behind : (revision store : ℕ) (items : List Item) (a c : Turn) (file out : List Block) → PutsEach revision store items a c [] out → PutsEach revision store items a c file (file ++ out)
each_behind revision store items a c file out puts =
    subst (λ (bs : List Block). PutsEach revision store items a c bs (file ++ out)) (append-nil file) (each_further revision store items a c file [] out puts)
