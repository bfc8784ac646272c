-- What deleting a key leaves in memory, and why it is refused.
use Rattle.std.specs.Prelude.{◌≡◌, ◌≤◌, ◌<◌, ◌⊎◌, ◌+◌, ◌-◌, ◌^◌, ℕ, Bool, false, not, List, [], ◌∷◌, length, Option, is_none, MatchOption, MatchResult, IsTrue, Result, Err}
use Rattle.std.specs.FinMap as finite
use Rattle.block_host.specs.Disk.{risen}
use Rattle.doc_stream.specs.OpenBlock.{OpenBlock, address_of}
use Rattle.forest_model.specs.Records.{is_record, record_bytes}
use Rattle.forest_model.specs.Documents.{key_at}
use Rattle.forest_model.specs.Limits.{is_wrong_key, any_worn}
use Rattle.forest_model.specs.Step.{◌where_holds◌, first_cause, record_length}
use Rattle.forest_model.specs.declared.call.StoreRef.{StoreRef}
use Rattle.forest_model.specs.declared.documents.DocKey.{DocKey}
use Rattle.forest_model.specs.declared.refusal.Refusal.{Refusal}
use Rattle.forest_model.specs.declared.refusal.Refusal.TheVariants.{NoMemory, DiskFault, ReadOnly, KeyLength, NoStore, Worn, NotFound}
use Rattle.forest_model.specs.declared.stored.Entry.{Entry}
use Rattle.forest_model.specs.declared.stored.Rec.{Rec}
use Rattle.kvs_names.specs.Table.{row_with_id}
use Rattle.file_parts.specs.Held.{Held}
use Rattle.file_parts.specs.Causes.{seq_in, documents_in, blocks_needed, full_cause, OnlyMemory}
use Rattle.file_documents.specs.Setting.{is_live, live_len}
use Rattle.file_parts.specs.Moment.{Moment}
use Rattle.file_documents.specs.Writing.{WritesFile}

-- the newest entry of a store's key
abbrev pub older_in : Held → ℕ → List ℕ → Option Entry
older_in p store key = finite.get p.wal.entries (key_at store key)

-- why a deletion is refused, in the order of refusals
abbrev pub delete_causes : Held → StoreRef → List ℕ → List (Option Refusal)
delete_causes p at key =
    (ReadOnly where_holds at.read_only) ∷ (KeyLength where_holds is_wrong_key key)
    ∷ (NoStore where_holds is_none (row_with_id p.names.rows at.store))
    ∷ (Worn where_holds any_worn ((seq_in p.names.rows at.store + 1) ∷ (p.place + 1) ∷ []))
    ∷ (NotFound where_holds not (is_live (older_in p at.store key)))
    ∷ full_cause p (blocks_needed p key [] []) ∷ []

-- the record that deletes a key at a number, and the entry of a key whose record is put
abbrev pub deletion_of : DocKey → ℕ → Rec
deletion_of k seq = record { kind = 2; store = k.store; seq = seq; key = k.key; meta = []; body = [] }

abbrev pub deleted_entry : OpenBlock → DocKey → ℕ → Entry
deleted_entry tail k seq = record { seq = seq; address = address_of tail.number (length tail.bytes); live = false; len = record_length k.key [] [] }

-- What a deletion leaves in memory and in the file: its record is put, and the index, the table and the counts know of it.
pub record DeletesFile (told : Bool) (k : DocKey) (seq : ℕ) (old new : Moment) : Type 0 where
  pub is_record : IsTrue (is_record (deletion_of k seq))
  pub entries : new.held.wal.entries ≡ finite.insert old.held.wal.entries k (deleted_entry old.held.tail k seq)
  pub writes : WritesFile told k.store seq (documents_in old.held.names.rows k.store - 1) (old.held.live - live_len (finite.get old.held.wal.entries k)) (record_bytes (deletion_of k seq)) old new

-- what a deletion gives that has no cause to be refused
abbrev pub DeleteGives : Bool → StoreRef → List ℕ → Moment → Moment → Result ℕ Refusal → Type 0
DeleteGives told at key old new result = MatchResult result
    (λ seq. (seq ≡ seq_in old.held.names.rows at.store + 1) × DeletesFile told (key_at at.store key) (seq_in old.held.names.rows at.store + 1) old new)
    (λ why. ((why ≡ NoMemory) × OnlyMemory old new) ⊎ ((why ≡ DiskFault) × (risen old.host_faults ≤ new.host_faults)) ⊎ (2 ^ 32 < old.held.tail.number))

abbrev pub DeleteAnswers : Bool → StoreRef → List ℕ → Moment → Moment → Result ℕ Refusal → Type 0
DeleteAnswers told at key old new result = MatchOption (first_cause (delete_causes old.held at key))
    (DeleteGives told at key old new result)
    (λ why. (result ≡ Err why) × OnlyMemory old new)
