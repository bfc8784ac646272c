-- What a batch leaves in memory and in the file, item by item, and why it is refused.
use Rattle.std.specs.Prelude.{◌≡◌, ◌≤◌, ◌<◌, ◌⊎◌, ◌+◌, ◌-◌, ◌/◌, ◌^◌, ℕ, Bool, false, not, ◌&&◌, ◌||◌, List, [], ◌∷◌, ◌++◌, length, sum_by, Option, is_none, nat_eq, MatchOption, MatchResult, IsTrue, Result, Err}
use Rattle.std.specs.Cmp.Lexicographic.{pointwise}
use Rattle.std.specs.FinMap as finite
use Rattle.std.specs.List.{list_any}
use Rattle.block_host.specs.Disk.{risen}
use Rattle.block_host.specs.declared.block.Block.{Block}
use Rattle.doc_stream.specs.OpenBlock.{OpenBlock, PutsBytes}
use Rattle.forest_model.specs.Records.{is_record, record_bytes}
use Rattle.forest_model.specs.Documents.{key_at, doc_of}
use Rattle.forest_model.specs.Limits.{has_wrong_key, has_wrong_body, any_worn}
use Rattle.forest_model.specs.Step.{◌where_holds◌, first_cause, item_length, record_length}
use Rattle.forest_model.specs.declared.call.Item.{Item}
use Rattle.forest_model.specs.declared.call.Item.TheVariants.{Put, Del}
use Rattle.forest_model.specs.declared.call.StoreRef.{StoreRef}
use Rattle.forest_model.specs.declared.refusal.Refusal.{Refusal}
use Rattle.forest_model.specs.declared.refusal.Refusal.TheVariants.{NoMemory, DiskFault, ReadOnly, KeyLength, BodyLength, NoStore, Worn, NotFound}
use Rattle.forest_model.specs.declared.stored.Entry.{Entry}
use Rattle.forest_model.specs.declared.stored.Rec.{Rec}
use Rattle.kvs_names.specs.Table.{row_with_id, counted}
use Rattle.wal_index.specs.Index.{Map as Entries}
use Rattle.file_parts.specs.Held.{Held}
use Rattle.file_documents.specs.Setting.{put_of, documents_after, live_after, live_len, is_live, entry_of}
use Rattle.file_documents.specs.Deleting.{deletion_of, deleted_entry}
use Rattle.file_parts.specs.Causes.{seq_in, documents_in, full_cause, OnlyMemory}
use Rattle.file_parts.specs.Moment.{Moment}

-- ---- why a batch is refused

-- whether a key has a document behind items, by whether it had one before
abbrev pub lives_behind : List Item → List ℕ → Bool → Bool
lives_behind [] key before = before
lives_behind (Put k meta body ∷ items) key before = lives_behind items key (pointwise nat_eq k key || before)
lives_behind (Del k ∷ items) key before = lives_behind items key (not (pointwise nat_eq k key) && before)

-- whether, among items behind others, one deletes a key that has no document by then
abbrev pub misses : Entries → ℕ → List Item → List Item → Bool
misses entries store front [] = false
misses entries store front (Put k meta body ∷ items) = misses entries store (front ++ Put k meta body ∷ []) items
misses entries store front (Del k ∷ items) =
    not (lives_behind front k (is_live (finite.get entries (key_at store k)))) || misses entries store (front ++ Del k ∷ []) items

-- the whole blocks that the records of items need
abbrev pub batch_needed : Held → List Item → ℕ
batch_needed p items = (length p.tail.bytes + sum_by item_length items) / 4064

-- why a batch is refused, in the order of refusals
abbrev pub batch_causes : Held → StoreRef → List Item → List (Option Refusal)
batch_causes p at items =
    (ReadOnly where_holds at.read_only) ∷ (KeyLength where_holds list_any has_wrong_key items) ∷ (BodyLength where_holds list_any has_wrong_body items)
    ∷ (NoStore where_holds is_none (row_with_id p.names.rows at.store))
    ∷ (Worn where_holds any_worn ((seq_in p.names.rows at.store + length items) ∷ (p.place + 1) ∷ []))
    ∷ (NotFound where_holds misses p.wal.entries at.store [] items)
    ∷ full_cause p (batch_needed p items) ∷ []

-- ---- what its items leave

-- the record of an item at a number, and the entry of its key once that record is put
abbrev pub item_record : ℕ → ℕ → Item → Rec
item_record store seq (Put key meta body) = put_of (key_at store key) (doc_of seq meta body)
item_record store seq (Del key) = deletion_of (key_at store key) seq

abbrev pub item_entry : OpenBlock → ℕ → ℕ → Item → Entry
item_entry tail store seq (Put key meta body) = entry_of tail (key_at store key) (doc_of seq meta body)
item_entry tail store seq (Del key) = deleted_entry tail (key_at store key) seq

abbrev pub item_key : Item → List ℕ
item_key (Put key meta body) = key
item_key (Del key) = key

-- the count of documents and the bytes of live records, once the record of an item is put whose key has this older entry
abbrev pub documents_with : Item → Option Entry → ℕ → ℕ
documents_with (Put key meta body) older documents = documents_after older documents
documents_with (Del key) older documents = documents - 1

abbrev pub live_with : Item → Option Entry → ℕ → ℕ
live_with (Put key meta body) older live = live_after older live (record_length key meta body)
live_with (Del key) older live = live - live_len older

-- where a batch is between two items: the open block, the index, the store's number and count, the bytes of live records
pub record Turn : Type 0 where
  pub tail : OpenBlock
  pub entries : Entries
  pub seq : ℕ
  pub documents : ℕ
  pub live : ℕ

abbrev pub first_turn : Held → ℕ → Turn
first_turn p store = record {
  tail = p.tail;
  entries = p.wal.entries;
  seq = seq_in p.names.rows store;
  documents = documents_in p.names.rows store;
  live = p.live;
}

-- an item's record is put behind those before it
pub record PutsItem (revision store : ℕ) (item : Item) (a b : Turn) (before after : List Block) : Type 0 where
  pub is_record : IsTrue (is_record (item_record store (a.seq + 1) item))
  pub put : PutsBytes revision (record_bytes (item_record store (a.seq + 1) item)) a.tail b.tail before after
  pub entries : b.entries ≡ finite.insert a.entries (key_at store (item_key item)) (item_entry a.tail store (a.seq + 1) item)
  pub seq : b.seq ≡ a.seq + 1
  pub documents : b.documents ≡ documents_with item (finite.get a.entries (key_at store (item_key item))) a.documents
  pub live : b.live ≡ live_with item (finite.get a.entries (key_at store (item_key item))) a.live

abbrev pub PutsEach : ℕ → ℕ → List Item → Turn → Turn → List Block → List Block → Type 0
PutsEach revision store [] a c before after = (c ≡ a) × (after ≡ before)
PutsEach revision store (item ∷ items) a c before after =
    (b : Turn) × (between : List Block) × PutsItem revision store item a b before between × PutsEach revision store items b c between after

-- What a batch leaves in memory and in the file: the records of all its items are put, and the index, the table and the
-- counts know of them.
pub record BatchesFile (told : Bool) (store : ℕ) (items : List Item) (old new : Moment) : Type 0 where
  pub last : Turn
  pub out : List Block
  pub each : PutsEach old.held.revision store items (first_turn old.held store) last [] out
  pub entries : new.held.wal.entries ≡ last.entries
  pub gone : new.held.wal.gone ≡ old.held.wal.gone
  pub rest : new.held ≡ record old.held {
    blocks = last.tail.number;
    names = counted old.held.names store last.seq last.documents;
    wal = new.held.wal;
    tail = last.tail;
    loose = length last.tail.bytes;
    live = last.live;
    place = old.held.place + 1;
  }
  pub files : IsTrue told → new.disk.files old.held.revision ≡ old.disk.files old.held.revision ++ out
  pub shown : IsTrue told → old.file ≡ old.disk.files old.held.revision → new.file ≡ new.disk.files old.held.revision

-- what a batch gives that has no cause to be refused
abbrev pub BatchGives : Bool → StoreRef → List Item → Moment → Moment → Result ℕ Refusal → Type 0
BatchGives told at items old new result = MatchResult result
    (λ seq. (seq ≡ seq_in old.held.names.rows at.store + length items) × BatchesFile told at.store items old new)
    (λ why. ((why ≡ NoMemory) × OnlyMemory old new) ⊎ ((why ≡ DiskFault) × (risen old.host_faults ≤ new.host_faults)) ⊎ (2 ^ 32 < old.held.tail.number))

abbrev pub BatchAnswers : Bool → StoreRef → List Item → Moment → Moment → Result ℕ Refusal → Type 0
BatchAnswers told at items old new result = MatchOption (first_cause (batch_causes old.held at items))
    (BatchGives told at items old new result)
    (λ why. (result ≡ Err why) × OnlyMemory old new)
