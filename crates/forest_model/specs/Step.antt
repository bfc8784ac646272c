-- One step of the sequential store: the first refusal whose condition holds, else the answer with what it changes.
use Rattle.std.specs.Prelude.{ℕ, ◌+◌, ◌/◌, ◌%◌, Bool, false, ◌&&◌, ◌||◌, not, ◌==◌, List, [], ◌∷◌, ◌++◌, length, map, reverse, sum_by, Option, Some, None, is_none, is_some, find, nat_le, nat_lt, nat_eq, codes, if◌then◌else◌}
use Rattle.std.specs.List.{list_any}
use Rattle.std.specs.Option.{option_map_or}
use Rattle.std.specs.Cmp.Lexicographic.{pointwise}
use Rattle.std.specs.FinMap as finite
use Rattle.forest_model.specs.Limits.{is_wrong_key, is_wrong_body, has_wrong_key, has_wrong_body, is_name, any_worn}
use Rattle.forest_model.specs.Documents.{Map, key_at, doc_of, doc_at, doc_numbered, count_of, without_store, after_items}
use Rattle.forest_model.specs.Stores.{store_of, store_named, seq_of, with_seq, new_store, without, has_seq, from_number}
use Rattle.forest_model.specs.State.{retained, nothing_new}
use Rattle.forest_model.specs.Blocks.{File, blocks_to_copy}
use Rattle.forest_model.specs.declared.call.StoreRef.{StoreRef}
use Rattle.forest_model.specs.declared.call.Found.{Found}
use Rattle.forest_model.specs.declared.call.Item.{Item}
use Rattle.forest_model.specs.declared.call.Item.TheVariants.{Put, Del}
use Rattle.forest_model.specs.declared.call.Call.{Call}
use Rattle.forest_model.specs.declared.call.Call.TheVariants.{Set, Delete, Batch, Get, BySeq, Info, Markers, StoreOpen, StoreRemove, Commit, Rollback, SnapLatest, SnapAt, Begin, Delta, Switch, Cancel}
use Rattle.forest_model.specs.declared.call.Reply.{Reply}
use Rattle.forest_model.specs.declared.call.Reply.TheVariants.{Seq, Document, InfoIs, MarkersAre, Store, Removed, Committed, Rolled, Snapped, Begun, Caught, Switched, Cancelled, Refused}
use Rattle.forest_model.specs.declared.documents.Doc.{Doc}
use Rattle.forest_model.specs.declared.refusal.Refusal.{Refusal}
use Rattle.forest_model.specs.declared.refusal.Refusal.TheVariants.{NotFound, NoCommit, ReadOnly, KeyLength, BodyLength, Compacting, NoTicket, FileFull, NoStore, StoreCount, NameForm, NotCopied, Worn}
use Rattle.forest_model.specs.declared.state.Commit.{Commit as CommitRow}
use Rattle.forest_model.specs.declared.state.State.{State}

-- a reply, and the state after it
abbrev pub Outcome : Type 0
Outcome = Reply × State

-- a refusal, where a condition holds
infix 6 ◌where_holds◌
abbrev pub ◌where_holds◌ : Refusal → Bool → Option Refusal
why where_holds b = if b then Some why else None

-- the first refusal of a list in its order
abbrev pub first_cause : List (Option Refusal) → Option Refusal
first_cause [] = None
first_cause (None ∷ rest) = first_cause rest
first_cause (Some why ∷ rest) = Some why

-- a refusal leaves the state
abbrev pub refused_or : Option Refusal → State → Outcome → Outcome
refused_or None s outcome = outcome
refused_or (Some why) s outcome = (Refused why, s)

-- the ticket of the running compaction, and 0 for none
abbrev pub ticket_of : State → ℕ
ticket_of s = option_map_or (λ c. c.ticket) s.copying 0

-- another ticket was asked for, or there is none
abbrev pub is_other_ticket : State → ℕ → Bool
is_other_ticket s ticket = (ticket == 0) || not (ticket == ticket_of s)

-- a rollback to this number is known to change nothing
abbrev pub is_at : State → ℕ → Bool
is_at s number = (number == s.last.number) && nothing_new s

-- why a call is refused, in the order of refusals; a full file comes behind all of these
abbrev pub causes : State → Call → List (Option Refusal)
causes s (Set at key meta body) =
    (ReadOnly where_holds at.read_only) ∷ (KeyLength where_holds is_wrong_key key) ∷ (BodyLength where_holds is_wrong_body meta body)
    ∷ (NoStore where_holds is_none (store_of s.stores at.store))
    ∷ (Worn where_holds any_worn ((seq_of s.stores at.store + 1) ∷ (s.place + 1) ∷ [])) ∷ []
causes s (Delete at key) =
    (ReadOnly where_holds at.read_only) ∷ (KeyLength where_holds is_wrong_key key)
    ∷ (NoStore where_holds is_none (store_of s.stores at.store))
    ∷ (Worn where_holds any_worn ((seq_of s.stores at.store + 1) ∷ (s.place + 1) ∷ []))
    ∷ (NotFound where_holds is_none (doc_at s.documents at.store key)) ∷ []
causes s (Batch at items) =
    (ReadOnly where_holds at.read_only) ∷ (KeyLength where_holds list_any has_wrong_key items) ∷ (BodyLength where_holds list_any has_wrong_body items)
    ∷ (NoStore where_holds is_none (store_of s.stores at.store))
    ∷ (Worn where_holds any_worn ((seq_of s.stores at.store + length items) ∷ (s.place + 1) ∷ []))
    ∷ (NotFound where_holds is_none (after_items at.store items (seq_of s.stores at.store) s.documents)) ∷ []
causes s (Get at key) =
    (KeyLength where_holds is_wrong_key key) ∷ (NoStore where_holds is_none (store_of s.stores at.store))
    ∷ (NotFound where_holds is_none (doc_at s.documents at.store key)) ∷ []
causes s (BySeq at seq) =
    (NoStore where_holds is_none (store_of s.stores at.store))
    ∷ (NotFound where_holds is_none (doc_numbered s.documents at.store seq)) ∷ []
causes s (Info at) = (NoStore where_holds is_none (store_of s.stores at.store)) ∷ []
causes s Markers = []
causes s (StoreOpen name read_only) =
    let is_new = is_none (store_named s.stores name) in
    (NameForm where_holds not (is_name name)) ∷ (NoStore where_holds (is_new && read_only))
    ∷ (Worn where_holds (is_new && any_worn (s.next_store ∷ (s.place + 1) ∷ [])))
    ∷ (StoreCount where_holds (is_new && nat_le 64 (length s.stores))) ∷ []
causes s (StoreRemove at name) =
    (ReadOnly where_holds at.read_only) ∷ (NameForm where_holds (not (is_name name) || pointwise nat_eq name (codes "default")))
    ∷ (NoStore where_holds is_none (store_named s.stores name)) ∷ (Worn where_holds any_worn ((s.place + 1) ∷ [])) ∷ []
causes s (Commit at) =
    (ReadOnly where_holds at.read_only) ∷ (Worn where_holds (not (nothing_new s) && any_worn (s.next_commit ∷ (s.place + 1) ∷ []))) ∷ []
causes s (Rollback at number) =
    (ReadOnly where_holds at.read_only) ∷ (Worn where_holds (not (is_at s number) && any_worn ((s.place + 1) ∷ [])))
    ∷ (NoCommit where_holds is_none (from_number number (retained s)))
    ∷ (Compacting (ticket_of s) where_holds is_some s.copying) ∷ []
causes s SnapLatest = []
causes s (SnapAt at seq) =
    (NoStore where_holds is_none (store_of s.stores at.store))
    ∷ (NoCommit where_holds is_none (find (has_seq at.store seq) (retained s))) ∷ []
causes s (Begin at) =
    (ReadOnly where_holds at.read_only) ∷ (Worn where_holds any_worn (s.next_ticket ∷ (s.revision + 1) ∷ (s.place + 1) ∷ []))
    ∷ (Compacting (ticket_of s) where_holds is_some s.copying) ∷ []
causes s (Delta ticket left) =
    (NoTicket ticket (ticket_of s) where_holds is_other_ticket s ticket) ∷ (NotCopied left where_holds nat_lt 0 left) ∷ []
causes s (Switch at ticket left) =
    (ReadOnly where_holds at.read_only)
    ∷ (Worn where_holds any_worn ((s.revision + 1) ∷ (s.generation + 1) ∷ (s.place + 1) ∷ []))
    ∷ (NoTicket ticket (ticket_of s) where_holds is_other_ticket s ticket) ∷ (NotCopied left where_holds nat_lt 0 left) ∷ []
causes s (Cancel at ticket) =
    (ReadOnly where_holds at.read_only) ∷ (Worn where_holds any_worn ((s.place + 1) ∷ []))
    ∷ (NoTicket ticket (ticket_of s) where_holds is_other_ticket s ticket) ∷ []

-- the bytes of a record: a head of 24, key, meta and body
abbrev pub record_length : List ℕ → List ℕ → List ℕ → ℕ
record_length key meta body = 24 + length key + length meta + length body

abbrev pub item_length : Item → ℕ
item_length (Put key meta body) = record_length key meta body
item_length (Del key) = record_length key [] []

-- the bytes of the records that a call appends
abbrev pub appended : Call → ℕ
appended (Set at key meta body) = record_length key meta body
appended (Delete at key) = record_length key [] []
appended (Batch at items) = sum_by item_length items
appended (StoreOpen name read_only) = record_length name [] []
appended (StoreRemove at name) = record_length [] [] []
appended call = 0

-- the state after an update: one place further, with these bytes in the open block
abbrev pub updated : State → ℕ → State
updated s bytes = record s { place = s.place + 1; loose = (s.loose + bytes) % 4064 }

-- a document as it is found
abbrev pub found_of : List ℕ → Doc → Found
found_of key d = record { seq = d.seq; key = key; meta = d.meta; body = d.body }

abbrev pub found_at : List ℕ → Doc → State → Outcome
found_at key d s = (Document (found_of key d), s)

-- the last commit, and what becomes of the state at it
abbrev pub committed : State → State
committed s = record (updated s 0) {
  last = record { number = s.next_commit; stores = s.stores; documents = s.documents };
  earlier = retained s;
  next_commit = s.next_commit + 1;
  kept = s.next_store;
  loose = 0;
}

abbrev pub rolled_back : State → CommitRow × List CommitRow → State
rolled_back s target = record (updated s 0) {
  stores = target.0.stores;
  documents = target.0.documents;
  last = target.0;
  earlier = target.1;
  kept = s.next_store;
  loose = 0;
}

abbrev pub switched : State → State
switched s = record (updated s 0) {
  earlier = [];
  copying = None;
  kept = s.next_store;
  revision = s.revision + 1;
  generation = s.generation + 1;
}

-- the number that a store draws next
abbrev pub next_seq : State → StoreRef → ℕ
next_seq s at = seq_of s.stores at.store + 1

-- a store and the documents at its next numbers
abbrev pub written : State → StoreRef → ℕ → Map → ℕ → Outcome
written s at seq documents bytes = (Seq seq, record (updated s bytes) { stores = with_seq s.stores at.store seq; documents = documents })

-- the answer of a call that isn't refused, and the state after it
abbrev pub answer : State → Call → Outcome
answer s (Set at key meta body) =
    written s at (next_seq s at) (finite.insert s.documents (key_at at.store key) (doc_of (next_seq s at) meta body)) (record_length key meta body)
answer s (Delete at key) =
    written s at (next_seq s at) (finite.remove s.documents (key_at at.store key)) (record_length key [] [])
answer s (Batch at items) =
    option_map_or (λ after. written s at after.0 after.1 (sum_by item_length items)) (after_items at.store items (seq_of s.stores at.store) s.documents) (Refused NotFound, s)
answer s (Get at key) = option_map_or (λ d. found_at key d s) (doc_at s.documents at.store key) (Refused NotFound, s)
answer s (BySeq at seq) = option_map_or (λ e. found_at e.0.key e.1 s) (doc_numbered s.documents at.store seq) (Refused NotFound, s)
answer s (Info at) =
    (InfoIs (record { commit = s.last.number; seq = seq_of s.stores at.store; documents = count_of s.documents at.store; ticket = ticket_of s }), s)
answer s Markers = (MarkersAre (reverse (map (λ c. c.number) (retained s))), s)
answer s (StoreOpen name read_only) =
    option_map_or (λ st. (Store (record { store = st.id; read_only = read_only }), s)) (store_named s.stores name) (
      Store (record { store = s.next_store; read_only = false }),
      record (updated s (record_length name [] [])) { stores = s.stores ++ new_store s.next_store name ∷ []; next_store = s.next_store + 1 },
    )
answer s (StoreRemove at name) =
    option_map_or (λ st. (Removed st.id, record (updated s (record_length [] [] [])) { stores = without s.stores st.id; documents = without_store s.documents st.id }))
    (store_named s.stores name) (Refused NoStore, s)
answer s (Commit at) = if nothing_new s then (Committed s.last.number, s) else (Committed s.next_commit, committed s)
answer s (Rollback at number) =
    if is_at s number then (Rolled number, s)
    else option_map_or (λ target. (Rolled number, rolled_back s target)) (from_number number (retained s)) (Refused NoCommit, s)
answer s SnapLatest = (Snapped, s)
answer s (SnapAt at seq) = (Snapped, s)
answer s (Begin at) = (
  Begun s.next_ticket s.last.number,
  record (updated s 0) { copying = Some (record { ticket = s.next_ticket; base = s.last.number }); next_ticket = s.next_ticket + 1 },
)
answer s (Delta ticket left) = (Caught s.last.number, s)
answer s (Switch at ticket left) = (Switched s.last.number, switched s)
answer s (Cancel at ticket) = (Cancelled, record (updated s 0) { copying = None })

-- the whole blocks that a call needs in the current file, of a call that may grow it as an update
abbrev pub needed : State → File → Call → Option ℕ
needed s file (Set at key meta body) = Some ((s.loose + appended (Set at key meta body)) / 4064)
needed s file (Delete at key) = Some ((s.loose + appended (Delete at key)) / 4064)
needed s file (Batch at items) = Some ((s.loose + appended (Batch at items)) / 4064)
needed s file (StoreOpen name read_only) =
    if is_none (store_named s.stores name) then Some ((s.loose + appended (StoreOpen name read_only)) / 4064) else None
needed s file (StoreRemove at name) = Some ((s.loose + appended (StoreRemove at name)) / 4064)
needed s file (Rollback at number) = if is_at s number then None else Some (blocks_to_copy file number)
needed s file call = None

-- two blocks more are kept for the open block and the header of a commit
abbrev pub full : State → File → Call → Option Refusal
full s file call =
    option_map_or (λ n. FileFull (length file) n s.limits.max_blocks where_holds nat_lt s.limits.max_blocks (length file + n + 2)) (needed s file call) None

-- one step where no file is full
abbrev pub step_with_room : State → Call → Outcome
step_with_room s call = refused_or (first_cause (causes s call)) s (answer s call)

-- one step over the blocks of the current file
abbrev pub step_of : State → File → Call → Outcome
step_of s file call = refused_or (first_cause (causes s call)) s (refused_or (full s file call) s (answer s call))
