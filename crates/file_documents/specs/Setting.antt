-- Why a set is refused, and what it leaves, by what an open file has in memory.
use Rattle.std.specs.Prelude.{◌≡◌, ◌⊎◌, ℕ, ◌+◌, ◌-◌, ◌^◌, ◌<◌, ◌≤◌, min, Bool, true, false, IsTrue, List, [], ◌∷◌, ◌++◌, length, Option, Some, None, is_none, MatchOption, MatchResult, Result, Err, if◌then◌else◌}
use Rattle.std.specs.FinMap as finite
use Rattle.block_host.specs.Disk.{risen}
use Rattle.block_host.specs.declared.block.Block.{Block}
use Rattle.doc_stream.specs.OpenBlock.{OpenBlock, PutsBytes, address_of}
use Rattle.forest_model.specs.Records.{record_bytes, is_record}
use Rattle.forest_model.specs.Documents.{key_at, doc_of}
use Rattle.forest_model.specs.Limits.{is_wrong_key, is_wrong_body, any_worn}
use Rattle.forest_model.specs.Step.{◌where_holds◌, first_cause, record_length}
use Rattle.forest_model.specs.declared.call.StoreRef.{StoreRef}
use Rattle.forest_model.specs.declared.documents.DocKey.{DocKey}
use Rattle.forest_model.specs.declared.documents.Doc.{Doc}
use Rattle.forest_model.specs.declared.refusal.Refusal.{Refusal}
use Rattle.forest_model.specs.declared.refusal.Refusal.TheVariants.{ReadOnly, KeyLength, BodyLength, NoStore, Worn, NoMemory, DiskFault}
use Rattle.forest_model.specs.declared.stored.Entry.{Entry}
use Rattle.forest_model.specs.declared.stored.Rec.{Rec}
use Rattle.kvs_names.specs.Table.{row_with_id, counted}
use Rattle.wal_index.specs.Live.{len_if_live}
use Rattle.file_parts.specs.Held.{Held}
use Rattle.file_parts.specs.Causes.{seq_in, documents_in, blocks_needed, full_cause, OnlyMemory}
use Rattle.file_parts.specs.Moment.{Moment}

-- the record that sets a key to a document
abbrev pub put_of : DocKey → Doc → Rec
put_of k d = record { kind = 1; store = k.store; seq = d.seq; key = k.key; meta = d.meta; body = d.body }

-- why a set is refused, in the order of refusals
abbrev pub set_causes : Held → StoreRef → List ℕ → List ℕ → List ℕ → List (Option Refusal)
set_causes p at key meta body =
    (ReadOnly where_holds at.read_only) ∷ (KeyLength where_holds is_wrong_key key) ∷ (BodyLength where_holds is_wrong_body meta body)
    ∷ (NoStore where_holds is_none (row_with_id p.names.rows at.store))
    ∷ (Worn where_holds any_worn ((seq_in p.names.rows at.store + 1) ∷ (p.place + 1) ∷ []))
    ∷ full_cause p (blocks_needed p key meta body) ∷ []

-- the document that a set makes
abbrev pub set_doc : Held → StoreRef → List ℕ → List ℕ → Doc
set_doc p at meta body = doc_of (seq_in p.names.rows at.store + 1) meta body

-- whether a key with this newest entry has a document, and the bytes of its record
abbrev pub is_live : Option Entry → Bool
is_live None = false
is_live (Some e) = e.live

abbrev pub live_len : Option Entry → ℕ
live_len None = 0
live_len (Some e) = len_if_live e

-- the count of documents and the bytes of live records, once a key with this older entry is set
abbrev pub documents_after : Option Entry → ℕ → ℕ
documents_after older documents = if is_live older then documents else min (documents + 1) (2 ^ 64 - 1)

abbrev pub live_after : Option Entry → ℕ → ℕ → ℕ
live_after older live len = min (live - live_len older + len) (2 ^ 64 - 1)

-- the entry of a document whose record is put
abbrev pub entry_of : OpenBlock → DocKey → Doc → Entry
entry_of tail k d = record { seq = d.seq; address = address_of tail.number (length tail.bytes); live = true; len = record_length k.key d.meta d.body }

-- What a set leaves in memory: its record is put, and the index, the table and the counts know of it.
pub record Sets (p q : Held) (k : DocKey) (d : Doc) (out : List Block) : Type 0 where
  pub is_record : IsTrue (is_record (put_of k d))
  pub put : PutsBytes p.revision (record_bytes (put_of k d)) p.tail q.tail [] out
  pub entries : q.wal.entries ≡ finite.insert p.wal.entries k (entry_of p.tail k d)
  pub gone : q.wal.gone ≡ p.wal.gone
  pub rest : q ≡ record p {
    blocks = q.tail.number;
    names = counted p.names k.store d.seq (documents_after (finite.get p.wal.entries k) (documents_in p.names.rows k.store));
    wal = q.wal;
    tail = q.tail;
    loose = length q.tail.bytes;
    live = live_after (finite.get p.wal.entries k) p.live (record_length k.key d.meta d.body);
    place = p.place + 1;
  }

-- the same with the file, at whose end the full blocks are
pub record SetsFile (told : Bool) (k : DocKey) (d : Doc) (old new : Moment) : Type 0 where
  pub out : List Block
  pub sets : Sets old.held new.held k d out
  pub files : IsTrue told → new.disk.files old.held.revision ≡ old.disk.files old.held.revision ++ out
  pub shown : IsTrue told → old.file ≡ old.disk.files old.held.revision → new.file ≡ new.disk.files old.held.revision

-- what a set gives that has no cause to be refused
abbrev pub SetGives : Bool → StoreRef → List ℕ → List ℕ → List ℕ → Moment → Moment → Result ℕ Refusal → Type 0
SetGives told at key meta body old new result = MatchResult result
    (λ seq. (seq ≡ seq_in old.held.names.rows at.store + 1) × SetsFile told (key_at at.store key) (set_doc old.held at meta body) old new)
    (λ why. ((why ≡ NoMemory) × OnlyMemory old new) ⊎ ((why ≡ DiskFault) × (risen old.host_faults ≤ new.host_faults)) ⊎ (2 ^ 32 < old.held.tail.number))

abbrev pub SetAnswers : Bool → StoreRef → List ℕ → List ℕ → List ℕ → Moment → Moment → Result ℕ Refusal → Type 0
SetAnswers told at key meta body old new result = MatchOption (first_cause (set_causes old.held at key meta body))
    (SetGives told at key meta body old new result)
    (λ why. (result ≡ Err why) × OnlyMemory old new)
