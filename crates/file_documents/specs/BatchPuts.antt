-- The records of a batch put one behind another, and what making their entries known changes.
use Rattle.std.specs.Prelude.{◌≡◌, ◌+◌, ◌-◌, ℕ, true, false, List, [], ◌∷◌, Option, IsTrue, if◌then◌else◌}
use Rattle.std.specs.FinMap as finite
use Rattle.block_host.specs.declared.block.Block.{Block}
use Rattle.doc_stream.specs.OpenBlock.{OpenBlock, PutsBytes}
use Rattle.forest_model.specs.Records.{is_record, record_bytes}
use Rattle.forest_model.specs.Documents.{key_at}
use Rattle.forest_model.specs.Step.{record_length}
use Rattle.forest_model.specs.declared.call.Item.{Item}
use Rattle.forest_model.specs.declared.call.Item.TheVariants.{Put, Del}
use Rattle.forest_model.specs.declared.stored.Entry.{Entry}
use Rattle.wal_index.specs.Index.{Map as Entries}
use Rattle.file_documents.specs.declared.batch_puts.Pending.{Pending}
use Rattle.file_documents.specs.Batching.{item_record, item_entry, item_key}
use Rattle.file_documents.specs.Setting.{documents_after, live_after, live_len}

-- ---- records one behind another

-- the entry of an item whose record is put at an address
abbrev pub entry_put : ℕ → ℕ → Item → Entry
entry_put address seq (Put key meta body) = record { seq = seq; address = address; live = true; len = record_length key meta body }
entry_put address seq (Del key) = record { seq = seq; address = address; live = false; len = record_length key [] [] }

-- the key of an entry that waits to be made known
abbrev pub room_of : Pending → List ℕ
room_of p = p.room

-- an item's record is put at a number, and its entry waits to be made known
pub record IsPut (revision store seq : ℕ) (item : Item) (p : Pending) (a b : OpenBlock) (before after : List Block) : Type 0 where
  pub is_record : IsTrue (is_record (item_record store seq item))
  pub put : PutsBytes revision (record_bytes (item_record store seq item)) a b before after
  pub room : p.room ≡ item_key item
  pub entry : p.entry ≡ item_entry a store seq item

-- the records of items are put behind a number, each with its entry
abbrev pub PutsAll : ℕ → ℕ → ℕ → List Item → List Pending → OpenBlock → OpenBlock → List Block → List Block → Type 0
PutsAll revision store seq [] [] a c before after = (c ≡ a) × (after ≡ before)
PutsAll revision store seq (item ∷ items) (p ∷ ps) a c before after =
    (b : OpenBlock) × (between : List Block) × IsPut revision store (seq + 1) item p a b before between × PutsAll revision store (seq + 1) items ps b c between after
PutsAll revision store seq [] (p ∷ ps) a c before after = ⊥
PutsAll revision store seq (item ∷ items) [] a c before after = ⊥

-- ---- entries made known

-- the count of documents and the bytes of live records, once an entry is known in the place of an older one
abbrev pub documents_known : Option Entry → Entry → ℕ → ℕ
documents_known older e documents = if e.live then documents_after older documents else documents - 1

abbrev pub live_known : Option Entry → Entry → ℕ → ℕ
live_known older e live = if e.live then live_after older live e.len else live - live_len older

-- the index, the count of documents of the store and the bytes of live records
pub record Known : Type 0 where
  pub entries : Entries
  pub documents : ℕ
  pub live : ℕ

abbrev pub known_from : Entries → ℕ → ℕ → Known
known_from entries documents live = record { entries = entries; documents = documents; live = live }

abbrev pub known_with : ℕ → Known → Pending → Known
known_with store a p = record {
  entries = finite.insert a.entries (key_at store p.room) p.entry;
  documents = documents_known (finite.get a.entries (key_at store p.room)) p.entry a.documents;
  live = live_known (finite.get a.entries (key_at store p.room)) p.entry a.live;
}

abbrev pub known_after : ℕ → Known → List Pending → Known
known_after store a [] = a
known_after store a (p ∷ ps) = known_after store (known_with store a p) ps
