-- What the records of an open file make once more of them are put.
use Rattle.std.proofs.Common.{◌≡◌, ℕ, ◌+◌, ◌<◌, true, false, List, [], ◌∷◌, ◌++◌, length, map, Some, sym, ap, subst, ◌∙◌, append_assoc}
use Rattle.std.specs.Prelude.{◌==◌, ◌||◌, IsTrue}
use Rattle.std.specs.FinMap as finite
use Rattle.block_host.specs.declared.block.Block.{Block}
use Rattle.doc_stream.specs.Fold.{Tables, after_record, after_records}
use Rattle.doc_stream.specs.OpenBlock.{OpenBlock, PutsBytes, address_of}
use Rattle.doc_stream.specs.Scanned.{IsScanned}
use Rattle.file_image.specs.Commits.{Make}
use Rattle.forest_model.specs.Documents.{Map}
use Rattle.forest_model.specs.Records.{is_record, record_bytes}
use Rattle.forest_model.specs.Stored.{StoreRow}
use Rattle.forest_model.specs.Stores.{store_of, with_seq, new_store, without}
use Rattle.forest_model.specs.declared.state.Commit.{Commit}
use Rattle.forest_model.specs.declared.state.State.{State}
use Rattle.forest_model.specs.declared.state.Store.{Store}
use Rattle.forest_model.specs.declared.stored.Rec.{Rec}
use Rattle.file_parts.specs.Held.{Held}
use Rattle.file_core.specs.Recorded.{IsRecorded}
use Rattle.file_core.specs.Stands.{row_in}
use Rattle.file_core.proofs.RecordedMake.{Numbered, MakesOf, after_more, drawn_makes, made_makes, gone_makes}

-- what the crate of records promises
abbrev pub PutScans : Type 0
PutScans = (revision : ℕ) (r : Rec) (before after : OpenBlock) (file grown : List Block) (start : ℕ) (records : List Numbered) → IsTrue (is_record r) → IsScanned revision file before start records
    → PutsBytes revision (record_bytes r) before after file grown → IsScanned revision grown after start (records ++ (address_of before.number (length before.bytes), r) ∷ [])

-- stores with the next id, and documents
pub record Told : Type 0 where
  pub next : ℕ
  pub stores : List Store
  pub documents : Map

abbrev pub told_of : State → Told
told_of s = record { next = s.next_store; stores = s.stores; documents = s.documents }

abbrev pub MadeBy : List Numbered → Told → Type 0
MadeBy records a = Make finite.empty records (map (row_in a.documents) a.stores) a.next a.documents

-- Records put behind a file and its open block, and what they make of stores and documents.
pub record More (revision : ℕ) (before after : OpenBlock) (file grown : List Block) (a b : Told) : Type 0 where
  pub more : List Numbered
  pub scanned : (start : ℕ) (records : List Numbered) → IsScanned revision file before start records → IsScanned revision grown after start (records ++ more)
  pub made : (records : List Numbered) → MadeBy records a → MadeBy (records ++ more) b
  pub folded : after_records (a.stores, a.documents) more ≡ (b.stores, b.documents)

pub more_then : {revision : ℕ} {first second third : OpenBlock} {o p q : List Block} {a b c : Told} → More revision first second o p a b → More revision second third p q b c → More revision first third o q a c
more_then {revision = revision} {first = first} {third = third} {o = o} {q = q} {a = a} {c = c} x y = record {
  more = x.more ++ y.more;
  scanned = λ start records was. subst (IsScanned revision q third start) (append_assoc records x.more y.more) (y.scanned start (records ++ x.more) (x.scanned start records was));
  made = λ records was. subst (λ (rs : List Numbered). MadeBy rs c) (append_assoc records x.more y.more) (y.made (records ++ x.more) (x.made records was));
  folded = after_more (a.stores, a.documents) x.more y.more ∙ ap (λ (t : Tables). after_records t y.more) x.folded ∙ y.folded;
}

-- one record more
module _ (scans : PutScans) {revision : ℕ} {before after : OpenBlock} {file grown : List Block} (r : Rec) (is : IsTrue (is_record r)) (put : PutsBytes revision (record_bytes r) before after file grown) where
  abbrev at : ℕ
  at = address_of before.number (length before.bytes)

  one_more : (a b : Told) → ((records : List Numbered) → MadeBy records a → MadeBy (records ++ (at, r) ∷ []) b) → after_record (a.stores, a.documents) r ≡ (b.stores, b.documents)
      → More revision before after file grown a b
  one_more a b made folded = record {
    more = (at, r) ∷ [];
    scanned = λ start records was. scans revision r before after file grown start records is was put;
    made = made;
    folded = folded;
  }

  -- a key is set or deleted
  pub drawn_more : (next : ℕ) (stores : List Store) (m left : Map) (st : Store) → ((r.kind == 1) || (r.kind == 2)) ≡ true → store_of stores r.store ≡ Some st → st.seq < r.seq → r.store < next → MakesOf r m left
      → after_record (stores, m) r ≡ (with_seq stores r.store r.seq, left)
      → More revision before after file grown (record { next = next; stores = stores; documents = m }) (record { next = next; stores = with_seq stores r.store r.seq; documents = left })
  drawn_more next stores m left st draws found more low made folded =
      one_more (record { next = next; stores = stores; documents = m }) (record { next = next; stores = with_seq stores r.store r.seq; documents = left })
      (λ records was. drawn_makes records (at, r) m left draws stores next st found more low made was) folded

  -- a store is made
  pub made_more : (next : ℕ) (stores : List Store) (m : Map) (name : List ℕ) → ((r.kind == 1) || (r.kind == 2)) ≡ false → r.store ≡ next → MakesOf r m m
      → after_record (stores, m) r ≡ (stores ++ new_store next name ∷ [], m)
      → More revision before after file grown (record { next = next; stores = stores; documents = m }) (record { next = next + 1; stores = stores ++ new_store next name ∷ []; documents = m })
  made_more next stores m name draws own made folded =
      one_more (record { next = next; stores = stores; documents = m }) (record { next = next + 1; stores = stores ++ new_store next name ∷ []; documents = m })
      (λ records was. made_makes records (at, r) m m draws stores next name own made was) folded

  -- a store goes
  pub gone_more : (next : ℕ) (stores : List Store) (m left : Map) (id : ℕ) → ((r.kind == 1) || (r.kind == 2)) ≡ false → r.store < next → MakesOf r m left
      → after_record (stores, m) r ≡ (without stores id, left)
      → More revision before after file grown (record { next = next; stores = stores; documents = m }) (record { next = next; stores = without stores id; documents = left })
  gone_more next stores m left id draws low made folded =
      one_more (record { next = next; stores = stores; documents = m }) (record { next = next; stores = without stores id; documents = left })
      (λ records was. gone_makes records (at, r) m left draws stores next id low made was) folded

-- ---- the open file

made_as : (rows others : List StoreRow) (records : List Numbered) (next : ℕ) (m : Map) → rows ≡ others → Make finite.empty records rows next m → Make finite.empty records others next m
made_as rows others records next m same made = subst (λ (rs : List StoreRow). Make finite.empty records rs next m) same made

scanned_as : (revision other : ℕ) (file : List Block) (tail : OpenBlock) (start begin : ℕ) (records : List Numbered) → other ≡ revision → begin ≡ start → IsScanned revision file tail start records
    → IsScanned other file tail begin records
scanned_as revision other file tail start begin records same first scanned =
    subst (λ (r : ℕ). IsScanned r file tail begin records) (sym same) (subst (λ (n : ℕ). IsScanned revision file tail n records) (sym first) scanned)

-- the records of a file to which more are put
pub recorded_more : (p q : Held) (file grown : List Block) (s t : State) → p.names.rows ≡ map (row_in s.documents) s.stores → q.names.rows ≡ map (row_in t.documents) t.stores
    → q.revision ≡ p.revision → q.header.wal_from ≡ p.header.wal_from → q.header_at ≡ p.header_at → t.last ≡ s.last
    → More p.revision p.tail q.tail file grown (told_of s) (told_of t) → IsRecorded p file s → IsRecorded q grown t
recorded_more p q file grown s t old_rows new_rows revision from header last more was = record {
  records = was.records ++ more.more;
  scanned = scanned_as p.revision q.revision grown q.tail p.header.wal_from q.header.wal_from (was.records ++ more.more) revision from (more.scanned p.header.wal_from was.records was.scanned);
  made = made_as (map (row_in t.documents) t.stores) q.names.rows (was.records ++ more.more) t.next_store t.documents (sym new_rows)
      (more.made was.records (made_as p.names.rows (map (row_in s.documents) s.stores) was.records s.next_store s.documents old_rows was.made));
  recent = was.recent ++ more.more;
  behind = scanned_as p.revision q.revision grown q.tail (p.header_at + 1) (q.header_at + 1) (was.recent ++ more.more) revision (ap (λ n. n + 1) header) (more.scanned (p.header_at + 1) was.recent was.behind);
  folded = ap (λ (c : Commit). after_records (c.stores, c.documents) (was.recent ++ more.more)) last
      ∙ after_more (s.last.stores, s.last.documents) was.recent more.more ∙ ap (λ (x : Tables). after_records x more.more) was.folded ∙ more.folded;
}
