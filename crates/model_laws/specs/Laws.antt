-- What holds of every step of the sequential store, in words of its own.
use Rattle.std.specs.Prelude.{◌≡◌, ◌≢◌, ℕ, ◌+◌, ◌<◌, ◌≤◌, ◌⊎◌, ◌↔◌, Bool, true, false, List, [], ◌∷◌, ◌++◌, None, IsTrue}
use Rattle.std.specs.List.{list_all}
use Rattle.forest_model.specs.Documents.{key_at, doc_of}
use Rattle.forest_model.specs.Stores.{store_of}
use Rattle.forest_model.specs.State.{IsState, OfStore, Durable, durable_of, opened, nothing_new}
use Rattle.forest_model.specs.Blocks.{File, is_records, last_header}
use Rattle.forest_model.specs.Run.{unflushed_from}
use Rattle.forest_model.specs.Step.{step_of, found_of}
use Rattle.forest_model.specs.declared.call.Limits.{Limits}
use Rattle.forest_model.specs.declared.call.StoreRef.{StoreRef}
use Rattle.forest_model.specs.declared.call.Call.{Call}
use Rattle.forest_model.specs.declared.call.Call.TheVariants.{Set, Get, BySeq, Info, Markers, StoreOpen, Commit, Rollback, SnapLatest, SnapAt, Begin, Delta, Switch}
use Rattle.forest_model.specs.declared.call.Reply.{Reply}
use Rattle.forest_model.specs.declared.call.Reply.TheVariants.{Seq, Document, Store, Committed, Begun, Refused}
use Rattle.forest_model.specs.declared.refusal.Refusal.{Refusal}
use Rattle.forest_model.specs.declared.state.Commit.{Commit as CommitRow}
use Rattle.forest_model.specs.declared.state.State.{State}

-- the reply to a call, and the state after it
abbrev pub reply_to : State → File → Call → Reply
reply_to s file call = (step_of s file call).0

abbrev pub state_after : State → File → Call → State
state_after s file call = (step_of s file call).1

-- a refused call leaves the state
abbrev pub RefusedLeaves : Type 0
RefusedLeaves = (s : State) (file : File) (call : Call) (why : Refusal) → reply_to s file call ≡ Refused why → state_after s file call ≡ s

-- so does a call that reads
abbrev pub is_read : Call → Bool
is_read (Get at key) = true
is_read (BySeq at seq) = true
is_read (Info at) = true
is_read Markers = true
is_read SnapLatest = true
is_read (SnapAt at seq) = true
is_read (Delta ticket left) = true
is_read call = false

abbrev pub ReadsLeave : Type 0
ReadsLeave = (s : State) (file : File) (call : Call) → IsTrue (is_read call) → state_after s file call ≡ s

-- a step raises the place by one, or changes nothing at all
abbrev pub PlaceTells : Type 0
PlaceTells = (s : State) (file : File) (call : Call) → ((state_after s file call).place ≡ s.place + 1) ⊎ (state_after s file call ≡ s)

-- a step keeps the rules of a state
abbrev pub RulesStay : Type 0
RulesStay = (s : State) (file : File) (call : Call) → IsState s → IsState (state_after s file call)

-- a document just set is got by every reference to its store
abbrev pub SetIsGot : Type 0
SetIsGot = (s : State) (file later : File) (at by : StoreRef) (key meta body : List ℕ) (seq : ℕ)
    → reply_to s file (Set at key meta body) ≡ Seq seq → by.store ≡ at.store
    → reply_to (state_after s file (Set at key meta body)) later (Get by key) ≡ Document (found_of key (doc_of seq meta body))

-- and no other key's reply moves
abbrev pub OthersStay : Type 0
OthersStay = (s : State) (file later : File) (at by : StoreRef) (key meta body other : List ℕ)
    → key_at by.store other ≢ key_at at.store key
    → reply_to (state_after s file (Set at key meta body)) later (Get by other) ≡ reply_to s later (Get by other)

-- nothing is new exactly where stores and documents equal those of the last commit
abbrev pub NothingNewMeans : Type 0
NothingNewMeans = (s : State) → IsTrue (nothing_new s) ↔ ((s.stores ≡ s.last.stores) × (s.documents ≡ s.last.documents))

-- a run of calls, each over blocks of its own
abbrev pub after_all : State → List (File × Call) → State
after_all s [] = s
after_all s (c ∷ calls) = after_all (state_after s c.0 c.1) calls

-- the numbers to be drawn next don't fall, over any calls
abbrev pub DrawnStay : Type 0
DrawnStay = (s : State) (calls : List (File × Call))
    → (s.next_commit ≤ (after_all s calls).next_commit) × (s.next_store ≤ (after_all s calls).next_store) × (s.next_ticket ≤ (after_all s calls).next_ticket)

-- a store that has come to a sequence number stays there or goes further, or is gone; a rollback alone takes it back
abbrev pub is_rollback : Call → Bool
is_rollback (Rollback at number) = true
is_rollback call = false

abbrev pub SeqStays : Type 0
SeqStays = (s : State) (file : File) (call : Call) (id n : ℕ) → is_rollback call ≡ false → OfStore (store_of s.stores id) (λ st. n ≤ st.seq)
    → (store_of (state_after s file call).stores id ≡ None) ⊎ OfStore (store_of (state_after s file call).stores id) (λ st. n ≤ st.seq)

-- a number that is drawn is the one to be drawn next, and lies below those to be drawn afterwards
abbrev pub CommitDraws : Type 0
CommitDraws = (s : State) (file : File) (at : StoreRef) (number : ℕ) → reply_to s file (Commit at) ≡ Committed number
    → (IsTrue (nothing_new s) × (number ≡ s.last.number)) ⊎ ((number ≡ s.next_commit) × (number < (state_after s file (Commit at)).next_commit))

abbrev pub BeginDraws : Type 0
BeginDraws = (s : State) (file : File) (at : StoreRef) (ticket base : ℕ) → reply_to s file (Begin at) ≡ Begun ticket base
    → (ticket ≡ s.next_ticket) × (ticket < (state_after s file (Begin at)).next_ticket) × (base ≡ s.last.number)

abbrev pub StoreDraws : Type 0
StoreDraws = (s : State) (file : File) (name : List ℕ) (read_only : Bool) (at : StoreRef) → reply_to s file (StoreOpen name read_only) ≡ Store at
    → (state_after s file (StoreOpen name read_only) ≡ s) ⊎ ((at.store ≡ s.next_store) × (at.store < (state_after s file (StoreOpen name read_only)).next_store))

-- only a commit, a rollback and a switch change what is durable
abbrev pub is_durable : Call → Bool
is_durable (Commit at) = true
is_durable (Rollback at number) = true
is_durable (Switch at ticket left) = true
is_durable call = false

abbrev pub DurableStays : Type 0
DurableStays = (s : State) (file : File) (call : Call) → is_durable call ≡ false → durable_of (state_after s file call) ≡ durable_of s

-- what is durable is so again at opening, where nothing is new and no compaction runs
abbrev pub OpenedIs : Type 0
OpenedIs = (last : CommitRow) (earlier : List CommitRow) (d : Durable) (limits : Limits) → d.commits ≡ last ∷ earlier
    → (durable_of (opened last earlier d limits) ≡ d) × IsTrue (nothing_new (opened last earlier d limits)) × ((opened last earlier d limits).copying ≡ None)

-- record blocks behind a file leave its last header, and the block from which its records aren't in trees
abbrev pub RecordsKeepHeader : Type 0
RecordsKeepHeader = (file more : File) → IsTrue (list_all is_records more)
    → (last_header (file ++ more) ≡ last_header file) × (unflushed_from (file ++ more) ≡ unflushed_from file)
