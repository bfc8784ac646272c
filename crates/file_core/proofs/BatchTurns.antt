-- Index, documents and numbers item by item, while a batch is put behind the file.
use Rattle.std.proofs.Common.{◌≡◌, ◌≢◌, ℕ, ◌+◌, ◌^◌, ◌≤◌, ◌<◌, Bool, true, false, cond, List, [], ◌∷◌, length, Option, Some, None, refl, sym, ap, subst, ◌∙◌, arith, length-append}
use Rattle.std.specs.Prelude.{◌==◌, IsTrue, is_some, sum_by, if◌then◌else◌}
use Rattle.std.specs.Option.{option_map, option_map_or}
use Rattle.std.specs.FinMap as finite
use Rattle.std.proofs.lemmas.Bool.{false≢true}
use Rattle.std.proofs.lemmas.List.Sums.{sum_by-cons}
use Rattle.std.proofs.lemmas.Option.{same_Some, none-some}
use Rattle.block_host.specs.declared.block.Block.{Block}
use Rattle.doc_stream.specs.OpenBlock.{address_of}
use Rattle.doc_stream.specs.Reading.{RecordAt}
use Rattle.forest_model.specs.Records.{record_bytes}
use Rattle.file_image.specs.Commits.{live_bytes}
use Rattle.forest_model.specs.Documents.{Map, key_at, doc_of, count_of, after_items}
use Rattle.forest_model.specs.Stores.{store_of, at_seq, with_seq}
use Rattle.forest_model.specs.Step.{item_length, record_length}
use Rattle.forest_model.specs.declared.call.Item.{Item}
use Rattle.forest_model.specs.declared.call.Item.TheVariants.{Put, Del}
use Rattle.forest_model.specs.declared.documents.DocKey.{DocKey}
use Rattle.forest_model.specs.declared.documents.Doc.{Doc}
use Rattle.forest_model.specs.declared.state.Store.{Store}
use Rattle.forest_model.specs.declared.stored.Entry.{Entry}
use Rattle.forest_model.specs.declared.stored.Rec.{Rec}
use Rattle.wal_index.specs.Index.{Map as Entries}
use Rattle.file_core.specs.Stands.{AreDocuments, DrawNumbers}
use Rattle.file_documents.specs.Setting.{is_live, entry_of}
use Rattle.file_documents.specs.Deleting.{deleted_entry}
use Rattle.file_documents.specs.Batching.{Turn, PutsItem, PutsEach, item_record}
use Rattle.file_core.proofs.BatchBytes.{put_short}
use Rattle.file_core.proofs.Deleted.{documents_deleted}
use Rattle.file_core.proofs.Inserted.{got_other, live-part, live-insert, count-insert, count-other, count-live}
use Rattle.file_core.proofs.Removed.{removed_other, live-remove, count-remove, count-remove_other}
use Rattle.file_core.proofs.SetEntries.{documents_set, older_len, older_lives, numbers_set}
use Rattle.file_core.proofs.Puts.{PutsKeep, PutStands}
use Rattle.file_core.proofs.SetStands.{counted_is}
use Rattle.file_core.proofs.StoreRows.{found_id, id-at_seq, at_seq_own, store_of-with_seq, each_raised}

-- ---- the numbers of a store that draws several

at_seq_twice : (id a b : ℕ) (s : Store) → at_seq id b (at_seq id a s) ≡ at_seq id b s
at_seq_twice id a b s = ap (λ n. cond (n == id) (record (at_seq id a s) { seq = b }) (at_seq id a s)) (id-at_seq id a s) ∙ by (s.id == id) where
  by : (t : Bool) → cond t (record (cond t (record s { seq = a }) s) { seq = b }) (cond t (record s { seq = a }) s) ≡ cond t (record s { seq = b }) s
  by true = refl
  by false = refl

pub with_seq_twice : (stores : List Store) (id a b : ℕ) → with_seq (with_seq stores id a) id b ≡ with_seq stores id b
with_seq_twice [] id a b = refl
with_seq_twice (s ∷ stores) id a b = λ i. at_seq_twice id a b s i ∷ with_seq_twice stores id a b i

pub found_at_seq : (stores : List Store) (id n : ℕ) (st : Store) → store_of stores id ≡ Some st → store_of (with_seq stores id n) id ≡ Some (record st { seq = n })
found_at_seq stores id n st found = store_of-with_seq stores id n id ∙ ap (option_map (at_seq id n)) found ∙ ap Some (at_seq_own id n st (found_id stores id st found))

-- a store that rises keeps the numbers drawn
pub numbers_raised : (entries : Entries) (stores : List Store) (id n : ℕ) (st : Store) → DrawNumbers entries stores → store_of stores id ≡ Some st → st.seq ≤ n → DrawNumbers entries (with_seq stores id n)
numbers_raised entries stores id n st old found more = record {
  drawn = λ store key e got. (
    (old.drawn store key e got).0,
    each_raised stores id n st found more store e.seq (old.drawn store key e got).1,
  );
  apart = old.apart;
}

-- ---- between two items

-- What is in memory at a turn stands for these documents over the file so far. Of its items so many bytes are left.
pub record AtTurn (told : Bool) (revision store bound left : ℕ) (stores : List Store) (first : Map) (file : List Block) (t : Turn) (m : Map) : Type 0 where
  pub documents : AreDocuments told revision file t.tail t.entries m
  pub numbers : DrawNumbers t.entries (with_seq stores store t.seq)
  pub counted : t.documents ≡ count_of m store
  pub live : t.live ≡ live_bytes m
  pub most : live_bytes m + left ≤ bound
  -- the other stores are as they were
  pub counts : (other : ℕ) → store ≢ other → count_of m other ≡ count_of first other
  pub others : (q : DocKey) → q.store ≢ store → finite.get m q ≡ finite.get first q
  pub at_end : IsTrue told → t.tail.number ≡ length file
  pub short : length t.tail.bytes < 4064

some_there : (o : Option Doc) → is_some o ≡ true → (d : Doc) × (o ≡ Some d)
some_there None e = absurd (false≢true e)
some_there (Some d) e = (d, refl)

-- what a deletion that is there goes on with
pub when_there : (b : Bool) (o : Option (ℕ × Map)) (last : ℕ × Map) → (if b then o else None) ≡ Some last → (b ≡ true) × (o ≡ Some last)
when_there true o last is = (refl, is)
when_there false o last is = absurd (none-some last is)

module _ (keep : PutsKeep) (lands : PutStands) (told : Bool) (revision store bound : ℕ) (low : bound < 2 ^ 62) (stores : List Store) (st : Store) (found : store_of stores store ≡ Some st) (first : Map) where
  numbers_next : (a b : Turn) (key : List ℕ) (e : Entry) → DrawNumbers a.entries (with_seq stores store a.seq) → e.seq ≡ a.seq + 1 → b.seq ≡ a.seq + 1 → b.entries ≡ finite.insert a.entries (key_at store key) e
      → DrawNumbers b.entries (with_seq stores store b.seq)
  numbers_next a b key e old drawn next entries =
      subst (λ (es : Entries). DrawNumbers es (with_seq stores store b.seq)) (sym entries)
      (subst (λ (now : List Store). DrawNumbers (finite.insert a.entries (key_at store key) e) now) (with_seq_twice stores store a.seq e.seq ∙ ap (with_seq stores store) (drawn ∙ sym next))
      (numbers_set a.entries (with_seq stores store a.seq) store key (record st { seq = a.seq }) e old (found_at_seq stores store a.seq st found) drawn))

  module _ (left : ℕ) {a b : Turn} {file after : List Block} {m : Map} {item : Item} (here : AtTurn told revision store bound (item_length item + left) stores first file a m) (puts : PutsItem revision store item a b file after) where
    short_next : length b.tail.bytes < 4064
    short_next = put_short revision (record_bytes (item_record store (a.seq + 1) item)) a.tail b.tail file after puts.put

    keeps : IsTrue told → (address : ℕ) (r : Rec) → RecordAt revision file a.tail address r → RecordAt revision after b.tail address r
    keeps t address r h = keep revision (record_bytes (item_record store (a.seq + 1) item)) a.tail b.tail file after address r (here.at_end t) here.short short_next puts.put h

    lies : IsTrue told → RecordAt revision after b.tail (address_of a.tail.number (length a.tail.bytes)) (item_record store (a.seq + 1) item)
    lies t = lands revision (item_record store (a.seq + 1) item) a.tail b.tail file after (here.at_end t) here.short puts.is_record puts.put

    end_next : IsTrue told → b.tail.number ≡ length after
    end_next t = omega (arith, puts.put.number, ap length puts.put.out, length-append file puts.put.more, here.at_end t)

  turn_put : (left : ℕ) (key meta body : List ℕ) (a b : Turn) (file after : List Block) (m : Map) → AtTurn told revision store bound (record_length key meta body + left) stores first file a m
      → PutsItem revision store (Put key meta body) a b file after → AtTurn told revision store bound left stores first after b (finite.insert m (key_at store key) (doc_of (a.seq + 1) meta body))
  turn_put left key meta body a b file after m here puts =
      let k = key_at store key in
      let d = doc_of (a.seq + 1) meta body in
      let older = finite.get a.entries k in
      let gone = older_len told revision file a.tail k older (finite.get m k) (here.documents k) in
      record {
        documents =
            subst (λ (es : Entries). AreDocuments told revision after b.tail es (finite.insert m k d)) (sym puts.entries)
            (documents_set told revision file after a.tail b.tail (keeps left here puts) a.entries m k d here.documents (lies left here puts));
        numbers = numbers_next a b key (entry_of a.tail k d) here.numbers refl puts.seq puts.entries;
        counted =
            puts.documents
            ∙ counted_is (finite.get m k) (is_live older) a.documents (count_of m store) (count_of (finite.insert m k d) store) (older_lives told revision file a.tail k older (finite.get m k) (here.documents k)) here.counted
            (omega (arith, count-live m store, here.most, low)) (count-insert m k d);
        live = puts.live ∙ omega (arith, gone, here.live, here.most, low, live-part m k, live-insert m k d);
        most = omega (arith, here.most, live-insert m k d);
        counts = λ other no. count-other m k d other no ∙ here.counts other no;
        others = λ q no. got_other m k q d (λ own. no (ap (λ (x : DocKey). x.store) own)) ∙ here.others q no;
        at_end = end_next left here puts;
        short = short_next left here puts;
      }

  turn_deleted : (left : ℕ) (key : List ℕ) (a b : Turn) (file after : List Block) (m : Map) → is_some (finite.get m (key_at store key)) ≡ true
      → AtTurn told revision store bound (record_length key [] [] + left) stores first file a m → PutsItem revision store (Del key) a b file after
      → AtTurn told revision store bound left stores first after b (finite.remove m (key_at store key))
  turn_deleted left key a b file after m there here puts =
      let k = key_at store key in
      let older = finite.get a.entries k in
      let gone = older_len told revision file a.tail k older (finite.get m k) (here.documents k) in
      let has = some_there (finite.get m k) there in
      record {
        documents =
            subst (λ (es : Entries). AreDocuments told revision after b.tail es (finite.remove m k)) (sym puts.entries)
            (documents_deleted told revision file after a.tail b.tail (keeps left here puts) a.entries m k (a.seq + 1) here.documents);
        numbers = numbers_next a b key (deleted_entry a.tail k (a.seq + 1)) here.numbers refl puts.seq puts.entries;
        counted = puts.documents ∙ omega (arith, here.counted, count-remove m k, ap {B = ℕ} (λ (o : Option Doc). option_map_or (λ _. 1) o 0) has.1);
        live = puts.live ∙ omega (arith, gone, here.live, live-remove m k);
        most = omega (arith, here.most, live-remove m k);
        counts = λ other no. count-remove_other m k other no ∙ here.counts other no;
        others = λ q no. removed_other m k q (λ own. no (ap (λ (x : DocKey). x.store) own)) ∙ here.others q no;
        at_end = end_next left here puts;
        short = short_next left here puts;
      }

  -- all items are put
  pub each_turn : (items : List Item) (a c : Turn) (file after : List Block) (m : Map) (last : ℕ × Map) → after_items store items a.seq m ≡ Some last → PutsEach revision store items a c file after
      → AtTurn told revision store bound (sum_by item_length items) stores first file a m → AtTurn told revision store bound 0 stores first after c last.1 × (c.seq ≡ last.0)
  each_turn [] a c file after m last is puts here =
      let same = same_Some (a.seq, m) last is in (
        subst (λ (x : Map). AtTurn told revision store bound 0 stores first after c x) (ap (λ (x : ℕ × Map). x.1) same)
            (subst (λ (t : Turn). AtTurn told revision store bound 0 stores first after t m) (sym puts.0)
            (subst (λ (bs : List Block). AtTurn told revision store bound 0 stores first bs a m) (sym puts.1) here)),
        ap (λ (t : Turn). t.seq) puts.0 ∙ ap (λ (x : ℕ × Map). x.0) same,
      )
  each_turn (Put key meta body ∷ items) a c file after m last is puts here =
      let b = puts.0 in
      let grown = finite.insert m (key_at store key) (doc_of (a.seq + 1) meta body) in
      each_turn items b c puts.1 after grown last (ap (λ n. after_items store items n grown) puts.2.seq ∙ is) puts.3
      (turn_put (sum_by item_length items) key meta body a b file puts.1 m
      (subst (λ (n : ℕ). AtTurn told revision store bound n stores first file a m) (sum_by-cons item_length (Put key meta body) items) here) puts.2)
  each_turn (Del key ∷ items) a c file after m last is puts here =
      let b = puts.0 in
      let less = finite.remove m (key_at store key) in
      let there = when_there (finite.contains_key m (key_at store key)) (after_items store items (a.seq + 1) less) last is in
      each_turn items b c puts.1 after less last (ap (λ n. after_items store items n less) puts.2.seq ∙ there.1) puts.3
      (turn_deleted (sum_by item_length items) key a b file puts.1 m there.0
      (subst (λ (n : ℕ). AtTurn told revision store bound n stores first file a m) (sum_by-cons item_length (Del key) items) here) puts.2)
