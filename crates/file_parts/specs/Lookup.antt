-- What a read looks up in memory, before it reads the file.
use Rattle.std.specs.Prelude.{◌≡◌, ◌⊎◌, ℕ, Bool, true, false, IsTrue, List, [], ◌∷◌, Option, Some, None, Result, Ok, Err, is_none, IfOk, IfErr, if◌then◌else◌}
use Rattle.std.specs.Option.{option_map, option_map_or}
use Rattle.block_host.specs.declared.block.Block.{Block}
use Rattle.doc_stream.specs.Causes.{BreaksRecord, Reason}
use Rattle.doc_stream.specs.OpenBlock.{OpenBlock}
use Rattle.doc_stream.specs.Reading.{RecordAt}
use Rattle.forest_model.specs.Limits.{is_wrong_key}
use Rattle.forest_model.specs.Step.{◌where_holds◌, first_cause}
use Rattle.forest_model.specs.declared.call.Found.{Found}
use Rattle.forest_model.specs.declared.call.Info.{Info}
use Rattle.forest_model.specs.declared.call.StoreRef.{StoreRef}
use Rattle.forest_model.specs.declared.refusal.Refusal.{Refusal}
use Rattle.forest_model.specs.declared.refusal.Refusal.TheVariants.{KeyLength, NoStore, NotFound, Stopped}
use Rattle.forest_model.specs.declared.stored.Entry.{Entry}
use Rattle.forest_model.specs.declared.stored.Rec.{Rec}
use Rattle.kvs_names.specs.Table.{row_with_id}
use Rattle.wal_index.specs.Index.{Map as Entries, entry_at, has_number}
use Rattle.file_parts.specs.Held.{Held}

-- the refusal of a file that has stopped
abbrev pub stop_of : Option ℕ → Option Refusal
stop_of None = None
stop_of (Some faults) = Some (Stopped faults)

-- a refusal, or else an answer
abbrev pub unless_refused : {T : Type 0} → Option Refusal → Result T Refusal → Result T Refusal
unless_refused None answer = answer
unless_refused (Some why) answer = Err why

-- a store's sequence number and its count of documents
abbrev pub numbers_in : Held → ℕ → Option (ℕ × ℕ)
numbers_in p id = option_map (λ s. (s.seq, s.documents)) (row_with_id p.names.rows id)

-- why nothing is looked up in a store
abbrev pub why_no_store : Held → StoreRef → Option Refusal
why_no_store p at = first_cause (stop_of p.stopped ∷ (NoStore where_holds is_none (numbers_in p at.store)) ∷ [])

abbrev pub why_no_key : Held → StoreRef → List ℕ → Option Refusal
why_no_key p at key =
    first_cause (stop_of p.stopped ∷ (KeyLength where_holds is_wrong_key key) ∷ (NoStore where_holds is_none (numbers_in p at.store)) ∷ [])

-- an entry that sets its key
abbrev pub living : Option Entry → Result Entry Refusal
living None = Err NotFound
living (Some e) = if e.live then Ok e else Err NotFound

abbrev pub entry_of_key : Held → StoreRef → List ℕ → Result Entry Refusal
entry_of_key p at key = unless_refused (why_no_key p at key) (living (entry_at p.wal.entries at.store key))

-- the newest entry of a key has a number
pub record IsNumbered (entries : Entries) (store seq : ℕ) (key : List ℕ) (e : Entry) : Type 0 where
  pub there : entry_at entries store key ≡ Some e
  pub number : e.seq ≡ seq

-- no entry has a number, or one that deletes its key
abbrev pub NoneLives : Entries → ℕ → ℕ → Type 0
NoneLives entries store seq =
    ((key : List ℕ) → has_number entries store seq key ≡ false)
    ⊎ ((key : List ℕ) × (e : Entry) × IsNumbered entries store seq key e × (e.live ≡ false))

-- A look-up by number: the entry of a key that it sets, or why there is none.
pub record LooksUpNumber (p : Held) (at : StoreRef) (seq : ℕ) (result : Result Entry Refusal) : Type 0 where
  pub found : IfOk result (λ e. (why_no_store p at ≡ None) × (e.live ≡ true) × (key : List ℕ) × IsNumbered p.wal.entries at.store seq key e)
  pub refused : IfErr result (λ why. (why_no_store p at ≡ Some why) ⊎ ((why_no_store p at ≡ None) × (why ≡ NotFound) × NoneLives p.wal.entries at.store seq))

-- the ticket of the running compaction, and 0 for none
abbrev pub ticket_in : Option (ℕ × ℕ) → ℕ
ticket_in copying = option_map_or (λ c. c.0) copying 0

abbrev pub info_with : Held → ℕ × ℕ → Info
info_with p numbers = record { commit = p.header.commit; seq = numbers.0; documents = numbers.1; ticket = ticket_in p.copying }

abbrev pub info_in : Held → StoreRef → Result Info Refusal
info_in p at =
    unless_refused (stop_of p.stopped) (option_map_or (λ numbers. Ok (info_with p numbers)) (numbers_in p at.store) (Err NoStore))

-- a record as it is found, at the number of its entry
abbrev pub found_in : Entry → Rec → Found
found_in e r = record { seq = e.seq; key = r.key; meta = r.meta; body = r.body }

-- The record of an entry as it is found, or a reason not to give one.
pub record FindsRecord (told : Bool) (revision : ℕ) (file : List Block) (tail : OpenBlock) (e : Entry) (before after : ℕ) (result : Result Found Refusal) : Type 0 where
  pub exact : IsTrue told → (r : Rec) → RecordAt revision file tail e.address r → IfOk result (λ found. found ≡ found_in e r)
  pub number : IfOk result (λ found. found.seq ≡ e.seq)
  pub reason : IfErr result (Reason told revision (BreaksRecord revision file tail e.address) before after)
