-- The state that an open file stands for.
use Rattle.std.specs.Prelude.{◌≡◌, ℕ, ◌+◌, ◌*◌, ◌^◌, ◌≤◌, ◌⊎◌, Bool, true, IsTrue, List, length, map, Option, Some, None, MatchBool}
use Rattle.std.specs.Option.{option_map}
use Rattle.std.specs.FinMap as finite
use Rattle.block_host.specs.Disk.{Disk}
use Rattle.block_host.specs.declared.block.Block.{Block}
use Rattle.doc_stream.specs.OpenBlock.{OpenBlock}
use Rattle.doc_stream.specs.Reading.{RecordAt}
use Rattle.file_image.specs.Commits.{live_bytes}
use Rattle.forest_model.specs.Documents.{Map, doc_at, count_of}
use Rattle.forest_model.specs.State.{IsState, OfStore, nothing_new}
use Rattle.forest_model.specs.Step.{record_length}
use Rattle.forest_model.specs.Stored.{StoreRow}
use Rattle.forest_model.specs.Stores.{store_of}
use Rattle.forest_model.specs.declared.documents.DocKey.{DocKey}
use Rattle.forest_model.specs.declared.documents.Doc.{Doc}
use Rattle.forest_model.specs.declared.state.State.{State}
use Rattle.forest_model.specs.declared.state.Store.{Store}
use Rattle.forest_model.specs.declared.stored.Entry.{Entry}
use Rattle.wal_index.specs.Index.{Map as Entries, entry_at, has_number}
use Rattle.file_documents.specs.Setting.{put_of}
use Rattle.file_parts.specs.Held.{Held}
use Rattle.file_core.specs.Recorded.{IsRecorded}

-- a store's row in a table, with how many documents it has
abbrev pub row_in : Map → Store → StoreRow
row_in documents s = record { id = s.id; name = s.name; seq = s.seq; documents = count_of documents s.id }

-- A document, the entry of its key in memory, and its record at the entry's address, where the file is told.
pub record IsKept (told : Bool) (revision : ℕ) (file : List Block) (tail : OpenBlock) (k : DocKey) (e : Entry) (d : Doc) : Type 0 where
  pub seq : e.seq ≡ d.seq
  pub len : e.len ≡ record_length k.key d.meta d.body
  pub there : IsTrue told → RecordAt revision file tail e.address (put_of k d)

-- an entry that lives has a document; one that doesn't, and no entry, have none
abbrev pub HasDocument : Bool → ℕ → List Block → OpenBlock → DocKey → Option Entry → Option Doc → Type 0
HasDocument told revision file tail k None doc = doc ≡ None
HasDocument told revision file tail k (Some e) doc =
    MatchBool e.live ((d : Doc) × (doc ≡ Some d) × IsKept told revision file tail k e d) (doc ≡ None)

abbrev pub AreDocuments : Bool → ℕ → List Block → OpenBlock → Entries → Map → Type 0
AreDocuments told revision file tail entries documents =
    (k : DocKey) → HasDocument told revision file tail k (finite.get entries k) (finite.get documents k)

-- Each entry's store is there and has come to its number, and no two keys of a store have entries of one number.
pub record DrawNumbers (entries : Entries) (stores : List Store) : Type 0 where
  pub drawn : (store : ℕ) (key : List ℕ) (e : Entry) → entry_at entries store key ≡ Some e → (1 ≤ e.seq) × OfStore (store_of stores store) (λ s. e.seq ≤ s.seq)
  pub apart : (store seq : ℕ) (key other : List ℕ) → has_number entries store seq key ≡ true → has_number entries store seq other ≡ true → key ≡ other

-- no store has fallen since the last commit, and one at the same number has the same documents
abbrev pub SameAtSameNumber : State → Type 0
SameAtSameNumber s =
    (before now : Store) → store_of s.last.stores now.id ≡ Some before → store_of s.stores now.id ≡ Some now
    → (before.seq ≤ now.seq) × (before.seq ≡ now.seq → (key : List ℕ) → doc_at s.documents now.id key ≡ doc_at s.last.documents now.id key)

-- The state of what is in memory over the blocks that the view shows of the current file. It hasn't stopped, and has no
-- trees so far.
pub record Stands (told : Bool) (p : Held) (disk : Disk) (file : List Block) (s : State) : Type 0 where
  pub running : p.stopped ≡ None
  -- the view shows what reads give of the current file
  pub shown : IsTrue told → file ≡ disk.files p.revision
  pub is_state : IsState s
  -- the stores and documents now
  pub rows : p.names.rows ≡ map (row_in s.documents) s.stores
  pub next_store : p.names.next ≡ s.next_store
  pub no_key_root : p.roots.key ≡ None
  pub no_seq_root : p.roots.seq ≡ None
  pub documents : AreDocuments told p.revision file p.tail p.wal.entries s.documents
  pub numbers : DrawNumbers p.wal.entries s.stores
  pub live : p.live ≡ live_bytes s.documents
  -- the last commit, which its header tells
  pub commit : p.header.commit ≡ s.last.number
  pub committed : p.header.stores ≡ map (row_in s.last.documents) s.last.stores
  pub kept : p.header.next_store ≡ s.kept
  pub unchanged : SameAtSameNumber s
  -- the numbers
  pub revision : p.revision ≡ s.revision
  pub generation : p.generation ≡ s.generation
  pub place : p.place ≡ s.place
  pub next_commit : p.next_commit ≡ s.next_commit
  pub next_ticket : p.next_ticket ≡ s.next_ticket
  pub limits : p.limits ≡ s.limits
  pub copying : p.copying ≡ option_map (λ c. (c.ticket, c.base)) s.copying
  -- the open block behind the blocks of the file, of which two more are kept where something is new
  pub loose : p.loose ≡ s.loose
  pub open_block : length p.tail.bytes ≡ s.loose
  pub at_end : p.tail.number ≡ p.blocks
  pub size : IsTrue told → length file ≡ p.blocks
  pub room : IsTrue (nothing_new s) ⊎ (p.blocks + 2 ≤ s.limits.max_blocks)
  pub low : p.blocks ≤ 2 ^ 32
  -- limits are within their range
  pub most : s.limits.max_blocks ≤ 2 ^ 32
  -- the documents' records are among the bytes put
  pub within : p.live ≤ p.blocks * 4064 + length p.tail.bytes
  -- what the records of the file make
  pub recorded : IsTrue told → IsRecorded p file s
