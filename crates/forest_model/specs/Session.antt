-- A session of lanes over the sequential store: what is told for each line of a script.
use Rattle.std.specs.Prelude.{◌≡◌, ℕ, ◌+◌, ◌-◌, ◌^◌, ◌<◌, ◌≤◌, ◌⊎◌, Bool, true, false, ◌&&◌, ◌||◌, not, ◌==◌, List, [], ◌∷◌, length, map, filter, take, reverse, min, Option, Some, None, is_none, find, nat_lt, IsTrue, if◌then◌else◌}
use Rattle.std.specs.Option.{option_map_or}
use Rattle.std.specs.Ordering.{nat_cmp, is_lt, is_gt}
use Rattle.std.specs.Cmp.Lexicographic.{slice_cmp}
use Rattle.std.specs.FinMap as finite
use Rattle.forest_model.specs.Limits.{is_wrong_key}
use Rattle.forest_model.specs.Documents.{Map, Entry, doc_at, doc_numbered, is_of}
use Rattle.forest_model.specs.Stores.{store_of, has_seq}
use Rattle.forest_model.specs.State.{retained}
use Rattle.forest_model.specs.Blocks.{File}
use Rattle.forest_model.specs.Step.{Outcome, ◌where_holds◌, first_cause, refused_or, step_of, found_of, ticket_of}
use Rattle.forest_model.specs.declared.call.StoreRef.{StoreRef}
use Rattle.forest_model.specs.declared.call.Call.{Call}
use Rattle.forest_model.specs.declared.call.Call.TheVariants as calls
use Rattle.forest_model.specs.declared.call.Reply.{Reply}
use Rattle.forest_model.specs.declared.call.Reply.TheVariants as replies
use Rattle.forest_model.specs.declared.line.Line.{Line}
use Rattle.forest_model.specs.declared.line.Row.{Row}
use Rattle.forest_model.specs.declared.line.Told.{Told}
use Rattle.forest_model.specs.declared.line.Said.{Said}
use Rattle.forest_model.specs.declared.line.Said.TheVariants as says
use Rattle.forest_model.specs.declared.line.Verb.{Verb}
use Rattle.forest_model.specs.declared.line.Verb.TheVariants.{UseStore, Remove, Set, Del, Batch, Get, BySeq, Commit, Markers, Rollback, Info, SnapLatest, SnapAt, SnapGet, SnapBySeq, SnapClose, Scan, Seqs, CompactBegin, CompactCopy, CompactDelta, CompactSwitch, CompactCancel, Compact}
use Rattle.forest_model.specs.declared.refusal.Refusal.{Refusal}
use Rattle.forest_model.specs.declared.refusal.Refusal.TheVariants.{NotFound, KeyLength, NoTicket, FileFull, NoStore, NoSnapshot}
use Rattle.forest_model.specs.declared.state.Store.{Store}
use Rattle.forest_model.specs.declared.state.Commit.{Commit as CommitRow}
use Rattle.forest_model.specs.declared.state.State.{State}

-- What a snapshot shows for good, with the place at which it was taken and its last commit.
pub record Snapshot : Type 0 where
  pub place : ℕ
  pub stores : List Store
  pub documents : Map
  pub commit : ℕ

-- The run's copier: its ticket, its base, the place of its begin, the documents left to copy, and the refusal that it keeps if its file was full.
pub record Copier : Type 0 where
  pub ticket : ℕ
  pub base : ℕ
  pub place : ℕ
  pub left : ℕ
  pub failed : Option Refusal

-- A lane: its store, the place that it printed last, and its snapshot.
pub record Lane : Type 0 where
  pub at : StoreRef
  pub printed : ℕ
  pub snapshot : Option Snapshot

pub record Session : Type 0 where
  pub state : State
  pub lanes : ℕ → Lane
  pub copier : Option Copier

-- at the start each lane is at store 0, has printed nothing and holds no snapshot, and there is no copier
abbrev pub first_lane : Lane
first_lane = record { at = record { store = 0; read_only = false }; printed = 0; snapshot = None }

abbrev pub first_session : State → Session
first_session s = record { state = s; lanes = λ _. first_lane; copier = None }

-- the lanes, one of them changed
abbrev pub with_lane : (ℕ → Lane) → ℕ → Lane → ℕ → Lane
with_lane lanes n lane m = if m == n then lane else lanes m

-- what a copier that there may be asks for: its ticket, and what is left where it hasn't failed; and the refusal that it keeps
abbrev pub copier_ticket : Option Copier → ℕ
copier_ticket copier = option_map_or (λ c. c.ticket) copier 0

abbrev pub copier_left : Option Copier → ℕ
copier_left copier = option_map_or (λ c. if is_none c.failed then c.left else 0) copier 0

abbrev pub copier_failed : Option Copier → Option Refusal
copier_failed copier = option_map_or (λ c. c.failed) copier None

-- the call on the file that a line makes; none of a line on the lane's snapshot, of `compact copy` and of the server's line
abbrev pub call_of : Lane → Option Copier → Verb → Option Call
call_of lane copier (UseStore name read_only) = Some (calls.StoreOpen name read_only)
call_of lane copier (Remove name) = Some (calls.StoreRemove lane.at name)
call_of lane copier (Set key meta body) = Some (calls.Set lane.at key meta body)
call_of lane copier (Del key) = Some (calls.Delete lane.at key)
call_of lane copier (Batch items) = Some (calls.Batch lane.at items)
call_of lane copier (Get key) = Some (calls.Get lane.at key)
call_of lane copier (BySeq seq) = Some (calls.BySeq lane.at seq)
call_of lane copier Commit = Some (calls.Commit lane.at)
call_of lane copier Markers = Some calls.Markers
call_of lane copier (Rollback number) = Some (calls.Rollback lane.at number)
call_of lane copier Info = Some (calls.Info lane.at)
call_of lane copier SnapLatest = Some calls.SnapLatest
call_of lane copier (SnapAt seq) = Some (calls.SnapAt lane.at seq)
call_of lane copier CompactBegin = Some (calls.Begin lane.at)
call_of lane copier CompactDelta = Some (calls.Delta (copier_ticket copier) (copier_left copier))
call_of lane copier CompactSwitch = Some (calls.Switch lane.at (copier_ticket copier) (copier_left copier))
call_of lane copier CompactCancel = Some (calls.Cancel lane.at (copier_ticket copier))
call_of lane copier verb = None

abbrev pub call_in : Session → Line → Option Call
call_in w line = call_of (w.lanes line.lane) w.copier line.verb

-- how the reply of a call is said
abbrev pub said_of : Call → Reply → Said
said_of call (replies.Refused why) = says.Refused why
said_of (calls.Delete at key) (replies.Seq seq) = says.Gone seq
said_of call (replies.Seq seq) = says.Done seq
said_of (calls.BySeq at seq) (replies.Document found) = says.At found
said_of call (replies.Document found) = says.Got found
said_of call (replies.InfoIs info) = says.InfoIs info
said_of call (replies.MarkersAre numbers) = says.MarkersAre numbers
said_of call (replies.Store at) = says.Using at.store
said_of call (replies.Removed id) = says.Removed id
said_of call (replies.Committed number) = says.Committed number
said_of call (replies.Rolled number) = says.Rolled number
said_of call replies.Snapped = says.SnapOpened
said_of call (replies.Begun ticket base) = says.Begun ticket base
said_of call (replies.Caught number) = says.Caught number
said_of call (replies.Switched number) = says.Switched number
said_of call replies.Cancelled = says.Cancelled

-- what is said where documents or records may have gone to the copier's new file
abbrev pub is_copied : Said → Bool
is_copied (says.Copied count left) = nat_lt 0 count
is_copied (says.Caught number) = true
is_copied (says.Switched number) = true
is_copied said = false

-- the outcome of a call, but for a copier that has failed: it is refused by what the copier keeps where it would be answered Ok
abbrev pub outcome_of : Session → File → Call → Outcome
outcome_of w file call =
    let outcome = step_of w.state file call in
    if is_copied (said_of call outcome.0) then refused_or (copier_failed w.copier) w.state outcome else outcome

-- the snapshot of the state now, and of a commit
abbrev pub latest : State → Snapshot
latest s = record { place = s.place; stores = s.stores; documents = s.documents; commit = s.last.number }

abbrev pub snapshot_of : State → CommitRow → Snapshot
snapshot_of s c = record { place = s.place; stores = c.stores; documents = c.documents; commit = c.number }

-- the snapshot that a call opens
abbrev pub opened_snapshot : Call → State → Option Snapshot
opened_snapshot (calls.SnapAt at seq) s = option_map_or (λ c. Some (snapshot_of s c)) (find (has_seq at.store seq) (retained s)) None
opened_snapshot call s = Some (latest s)

-- the lane and the copier that a reply of the file leaves
abbrev pub lane_after : Lane → Call → Reply → State → Lane
lane_after lane call (replies.Store at) s = record lane { at = at; printed = s.place }
lane_after lane call replies.Snapped s = record lane { snapshot = opened_snapshot call s; printed = s.place }
lane_after lane call reply s = record lane { printed = s.place }

abbrev pub begun : State → ℕ → ℕ → Copier
begun s ticket base = record { ticket = ticket; base = base; place = s.place; left = finite.len s.last.documents; failed = None }

abbrev pub copier_after : Option Copier → Reply → State → Option Copier
copier_after copier (replies.Begun ticket base) s = Some (begun s ticket base)
copier_after copier (replies.Switched number) s = None
copier_after copier replies.Cancelled s = None
copier_after copier reply s = copier

-- one turn of a session: the session after a line, and what the line is told
abbrev pub Turn : Type 0
Turn = Session × Told

abbrev pub turn_by_file : Session → Line → Call → Outcome → Turn
turn_by_file w line call outcome = (
  record {
    state = outcome.1;
    lanes = with_lane w.lanes line.lane (lane_after (w.lanes line.lane) call outcome.0 outcome.1);
    copier = copier_after w.copier outcome.0 outcome.1;
  },
  record { lane = line.lane; place = outcome.1.place; said = said_of call outcome.0 },
)

-- documents of a store by key, from a bound on, and by sequence number; the empty key and 0 are no bounds
abbrev pub is_within : Bool → List ℕ → Entry → Bool
is_within true from e = not (is_lt (slice_cmp nat_cmp e.0.key from))
is_within false from e = nat_lt (length from) 1 || not (is_gt (slice_cmp nat_cmp e.0.key from))

abbrev pub row_of : Entry → Row
row_of e = record { key = e.0.key; seq = e.1.seq }

abbrev pub turned : {A : Type 0} → Bool → List A → List A
turned up rows = if up then rows else reverse rows

abbrev pub rows_by_key : Map → ℕ → Bool → List ℕ → ℕ → List Row
rows_by_key documents store up from count =
    take count (turned up (map row_of (filter (λ e. is_of store e && is_within up from e) (finite.entries documents))))

abbrev pub numbered : Map → ℕ → finite.FinMap nat_cmp (List ℕ)
numbered documents store = finite.from_entries (map (λ e. (e.1.seq, e.0.key)) (filter (is_of store) (finite.entries documents)))

abbrev pub is_numbered_within : Bool → ℕ → ℕ → Bool
is_numbered_within true from seq = not (nat_lt seq from)
is_numbered_within false from seq = (from == 0) || not (nat_lt from seq)

abbrev pub rows_by_seq : Map → ℕ → Bool → ℕ → ℕ → List Row
rows_by_seq documents store up from count =
    take count (turned up (map (λ e. record { key = e.1; seq = e.0 }) (filter (λ e. is_numbered_within up from e.0) (finite.entries (numbered documents store)))))

-- what a snapshot answers, in the order of refusals
abbrev pub refused_or_said : Option Refusal → Said → Said
refused_or_said None said = said
refused_or_said (Some why) said = says.Refused why

abbrev pub shown : Snapshot → StoreRef → Verb → Said
shown snapshot at (SnapGet key) =
    refused_or_said (first_cause ((KeyLength where_holds is_wrong_key key) ∷ (NoStore where_holds is_none (store_of snapshot.stores at.store)) ∷ []))
    (option_map_or (λ d. says.Got (found_of key d)) (doc_at snapshot.documents at.store key) (says.Refused NotFound))
shown snapshot at (SnapBySeq seq) =
    refused_or_said (NoStore where_holds is_none (store_of snapshot.stores at.store))
    (option_map_or (λ e. says.At (found_of e.0.key e.1)) (doc_numbered snapshot.documents at.store seq) (says.Refused NotFound))
shown snapshot at (Scan up from count) =
    refused_or_said (first_cause ((KeyLength where_holds nat_lt 3500 (length from)) ∷ (NoStore where_holds is_none (store_of snapshot.stores at.store)) ∷ []))
    (says.Listed (rows_by_key snapshot.documents at.store up from count))
shown snapshot at (Seqs up from count) =
    refused_or_said (NoStore where_holds is_none (store_of snapshot.stores at.store))
    (says.Listed (rows_by_seq snapshot.documents at.store up from count))
shown snapshot at verb = says.SnapClosed

-- without a snapshot: only a key or a bound of a wrong length stands before that
abbrev pub not_shown : Verb → Said
not_shown (SnapGet key) = says.Refused (if is_wrong_key key then KeyLength else NoSnapshot)
not_shown (Scan up from count) = says.Refused (if nat_lt 3500 (length from) then KeyLength else NoSnapshot)
not_shown verb = says.Refused NoSnapshot

abbrev pub is_close : Verb → Bool
is_close SnapClose = true
is_close verb = false

-- a line on the lane's snapshot: its place is the snapshot's, and without one the place that the lane printed last
abbrev pub turn_by_snapshot : Session → Line → Option Snapshot → Turn
turn_by_snapshot w line None =
    (w, record { lane = line.lane; place = (w.lanes line.lane).printed; said = not_shown line.verb })
turn_by_snapshot w line (Some snapshot) =
    let lane = w.lanes line.lane in (
      record w { lanes = with_lane w.lanes line.lane (record lane { printed = snapshot.place; snapshot = if is_close line.verb then None else Some snapshot }) },
      record { lane = line.lane; place = snapshot.place; said = shown snapshot lane.at line.verb },
    )

-- a line that leaves the state, and maybe another copier
abbrev pub turn_at : Session → Line → Option Copier → ℕ → Said → Turn
turn_at w line copier place said = (
  record w { lanes = with_lane w.lanes line.lane (record (w.lanes line.lane) { printed = place }); copier = copier },
  record { lane = line.lane; place = place; said = said },
)

-- `compact copy` takes the next documents of the base, at the place of the begin
abbrev pub turn_by_copier : Session → Line → ℕ → Option Copier → Turn
turn_by_copier w line count None = turn_at w line None w.state.place (says.Refused (NoTicket 0 (ticket_of w.state)))
turn_by_copier w line count (Some c) =
    let copied = min count c.left in
    turn_at w line (Some (if is_none c.failed then record c { left = c.left - copied } else c)) c.place
    (refused_or_said c.failed (says.Copied copied (c.left - copied)))

-- a line that makes no call of the file; none of the server's one line, which stands for several calls
abbrev pub turn_aside : Session → Line → Verb → Option Turn
turn_aside w line Compact = None
turn_aside w line (CompactCopy count) = Some (turn_by_copier w line count w.copier)
turn_aside w line verb = Some (turn_by_snapshot w line (w.lanes line.lane).snapshot)

-- what a line leaves and is told, where its copier's file isn't full
abbrev pub turn_of : Session → File → Line → Option Turn
turn_of w file line = option_map_or (λ call. Some (turn_by_file w line call (outcome_of w file call))) (call_in w line) (turn_aside w line line.verb)

-- the place of a line that a full copy refuses
abbrev pub place_of_copy : Session → Copier → Said → ℕ
place_of_copy w c (says.Copied count left) = c.place
place_of_copy w c said = w.state.place

-- The copier's new file may be full where something may go to it. Which line meets that isn't determined: the model has no new file while it is copied, so it bounds the numbers and ties them to none.
pub record MeetsFullCopy (w : Session) (file : File) (line : Line) (next : Session) (t : Told) : Type 0 where
  pub copier : Copier
  pub there : w.copier ≡ Some copier
  pub not_before : copier.failed ≡ None
  pub otherwise : Turn
  pub would_do : turn_of w file line ≡ Some otherwise
  pub would_copy : IsTrue (is_copied otherwise.1.said)
  pub used : ℕ
  pub needed : ℕ
  pub in_file : used ≤ 2 ^ 40
  pub at_most : needed ≤ 260
  pub beyond : 2 ^ 40 < used + needed
  pub is : (let full = FileFull used needed (2 ^ 40) in turn_at w line (Some (record copier { failed = Some full })) (place_of_copy w copier otherwise.1.said) (says.Refused full)) ≡ (next, t)

-- what a line may leave and be told: what is determined, or that the copier's new file is full
abbrev pub IsTurn : Session → File → Line → Session → Told → Type 0
IsTurn w file line next t = (turn_of w file line ≡ Some (next, t)) ⊎ MeetsFullCopy w file line next t
