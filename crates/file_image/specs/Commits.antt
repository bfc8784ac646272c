-- The commit that a header stands for: by the blocks below it alone, and so far without trees.
use Rattle.std.specs.Prelude.{◌≡◌, ℕ, ◌-◌, ◌<◌, Bool, ◌==◌, ◌&&◌, ◌||◌, List, [], ◌∷◌, map, filter, sum_by, Some, None, IsTrue}
use Rattle.std.specs.List.{AllByRecursion}
use Rattle.std.specs.FinMap as finite
use Rattle.block_host.specs.declared.block.Block.{Block}
use Rattle.doc_stream.specs.Fold.{after_records}
use Rattle.doc_stream.specs.Runs.{RecordsOf}
use Rattle.forest_model.specs.Documents.{Map, Entry, count_of}
use Rattle.forest_model.specs.State.{IsCommit, EachLater}
use Rattle.forest_model.specs.Step.{record_length}
use Rattle.forest_model.specs.Stored.{StoreRow}
use Rattle.forest_model.specs.declared.documents.Doc.{Doc}
use Rattle.forest_model.specs.declared.documents.DocKey.{DocKey}
use Rattle.forest_model.specs.declared.state.Commit.{Commit}
use Rattle.forest_model.specs.declared.state.Store.{Store}
use Rattle.forest_model.specs.declared.stored.Header.{Header}
use Rattle.forest_model.specs.declared.stored.Rec.{Rec}
use Rattle.header_block.specs.Headers.{Placed}

-- a store of a header's table
abbrev pub store_of_row : StoreRow → Store
store_of_row row = record { id = row.id; name = row.name; seq = row.seq }

-- a record that sets or deletes a key
abbrev pub draws_number : ℕ × Rec → Bool
draws_number r = (r.1.kind == 1) || (r.1.kind == 2)

-- Each record that draws a number has a greater one than those of its store before it.
abbrev pub NumbersRise : List (ℕ × Rec) → Type 0
NumbersRise records = EachLater (λ a b. a.1.store ≡ b.1.store → a.1.seq < b.1.seq) (filter draws_number records)

-- the bytes of the records of all documents
abbrev pub live_of : Entry → ℕ
live_of e = record_length e.0.key e.1.meta e.1.body

unfoldable pub live_bytes : Map → ℕ
live_bytes documents = sum_by live_of (finite.entries documents)

-- a store's number is that of its last record, where there is one
abbrev pub AtLastNumber : StoreRow → List (ℕ × Rec) → Type 0
AtLastNumber row [] = Unit {0}
AtLastNumber row (r ∷ []) = row.seq ≡ r.1.seq
AtLastNumber row (r ∷ s ∷ records) = AtLastNumber row (s ∷ records)

-- each row's number is at its last record
abbrev pub AtNumbers : List (ℕ × Rec) → StoreRow → Type 0
AtNumbers records row = AtLastNumber row (filter (λ r. draws_number r && (r.1.store == row.id)) records)

-- What records behind a map of documents make, with a table of stores and a next store id.
pub record Make (base : Map) (records : List (ℕ × Rec)) (rows : List StoreRow) (next : ℕ) (documents : Map) : Type 0 where
  -- no record names a store that is still to be drawn
  pub known : AllByRecursion (λ r. r.1.store < next) records
  -- numbers rise, and are greater than those of the store's documents in the map
  pub rise : NumbersRise records
  pub above : (k : DocKey) (d : Doc) → finite.get base k ≡ Some d → AllByRecursion (λ r. IsTrue (draws_number r) → r.1.store ≡ k.store → d.seq < r.1.seq) records
  pub folded : documents ≡ (after_records ([], base) records).1
  pub last : AllByRecursion (AtNumbers records) rows

-- the commit of a header in a block
pub record IsCommitOf (revision : ℕ) (file : List Block) (at : ℕ) (h : Header) (c : Commit) : Type 0 where
  pub number : c.number ≡ h.commit
  pub stores : c.stores ≡ map store_of_row h.stores
  -- no trees so far: the records from `wal_from` up to the header are all
  pub no_key_root : h.key ≡ None
  pub no_seq_root : h.seq ≡ None
  pub records : List (ℕ × Rec)
  pub read : RecordsOf revision file h.wal_from (at - h.wal_from) records
  pub made : Make finite.empty records h.stores h.next_store c.documents
  pub rules : IsCommit c
  pub count : AllByRecursion (λ row. row.documents ≡ count_of c.documents row.id) h.stores
  pub live : h.live ≡ live_bytes c.documents

-- the commits of headers, one by one
abbrev pub AreCommitsOf : ℕ → List Block → List Placed → List Commit → Type 0
AreCommitsOf revision file [] commits = commits ≡ []
AreCommitsOf revision file (h ∷ headers) [] = ⊥
AreCommitsOf revision file (h ∷ headers) (c ∷ commits) = IsCommitOf revision file h.0 h.1 c × AreCommitsOf revision file headers commits
