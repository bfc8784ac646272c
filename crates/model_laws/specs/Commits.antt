-- What a commit, a rollback and the calls of a compaction answer and leave.
use Rattle.std.specs.Prelude.{◌≡◌, ℕ, ◌+◌, ◌<◌, ◌⊎◌, List, [], ◌∷◌, ◌++◌, Some, None}
use Rattle.forest_model.specs.State.{IsState, retained}
use Rattle.forest_model.specs.Blocks.{File}
use Rattle.forest_model.specs.declared.call.StoreRef.{StoreRef}
use Rattle.forest_model.specs.declared.call.Call.TheVariants.{Commit, Rollback, Begin, Delta, Switch, Cancel}
use Rattle.forest_model.specs.declared.call.Reply.{Reply}
use Rattle.forest_model.specs.declared.call.Reply.TheVariants.{Committed, Rolled, Begun, Caught, Switched, Cancelled}
use Rattle.forest_model.specs.declared.state.Commit.{Commit as CommitRow}
use Rattle.forest_model.specs.declared.state.State.{State}
use Rattle.model_laws.specs.Laws.{reply_to, state_after}
use Rattle.model_laws.specs.Answered.{IsAnswered, IsNothingNew}

-- A commit of something new puts the present stores and documents in front of the retained ones, under the next number, and leaves both.
pub record IsCommitted (s after : State) (reply : Reply) : Type 0 where
  pub answers : reply ≡ Committed s.next_commit
  pub commits : retained after ≡ record { number = s.next_commit; stores = s.stores; documents = s.documents } ∷ retained s
  pub next : after.next_commit ≡ s.next_commit + 1
  pub written : (after.kept ≡ s.next_store) × (after.loose ≡ 0)
  pub rest : after ≡ record s { last = after.last; earlier = after.earlier; next_commit = after.next_commit; kept = after.kept; loose = after.loose; place = s.place + 1 }

abbrev pub CommitKeeps : Type 0
CommitKeeps = (s : State) (file : File) (at : StoreRef) → (IsNothingNew s → ⊥) → IsAnswered (reply_to s file (Commit at))
    → IsCommitted s (state_after s file (Commit at)) (reply_to s file (Commit at))

-- a commit of nothing new answers the last commit's number, and changes nothing
abbrev pub CommitAgain : Type 0
CommitAgain = (s : State) (file : File) (at : StoreRef) → IsNothingNew s → IsAnswered (reply_to s file (Commit at))
    → (reply_to s file (Commit at) ≡ Committed s.last.number) × (state_after s file (Commit at) ≡ s)

-- A rollback leaves the stores and documents of the named commit, and the commits up to it. Nothing is copied, before and after.
pub record IsRolledBack (s after : State) (reply : Reply) (number : ℕ) : Type 0 where
  pub answers : reply ≡ Rolled number
  pub target : CommitRow
  pub newer : List CommitRow
  pub older : List CommitRow
  pub named : target.number ≡ number
  pub among : retained s ≡ newer ++ target ∷ older
  pub commits : retained after ≡ target ∷ older
  pub stores : after.stores ≡ target.stores
  pub documents : after.documents ≡ target.documents
  -- drawn numbers stay, and the file
  pub drawn : (after.next_commit ≡ s.next_commit) × (after.next_store ≡ s.next_store) × (after.next_ticket ≡ s.next_ticket)
  pub file : (after.revision ≡ s.revision) × (after.generation ≡ s.generation) × (after.limits ≡ s.limits)
  pub idle : (s.copying ≡ None) × (after.copying ≡ None)
  -- nothing changes, or a header is written
  pub written : (after ≡ s) ⊎ ((after.place ≡ s.place + 1) × (after.kept ≡ s.next_store) × (after.loose ≡ 0))

abbrev pub RollbackReturns : Type 0
RollbackReturns = (s : State) (file : File) (at : StoreRef) (number : ℕ) → IsAnswered (reply_to s file (Rollback at number))
    → IsRolledBack s (state_after s file (Rollback at number)) (reply_to s file (Rollback at number)) number

-- a rollback to the last commit where nothing is new changes nothing
abbrev pub RollbackAgain : Type 0
RollbackAgain = (s : State) (file : File) (at : StoreRef) (number : ℕ) → number ≡ s.last.number → IsNothingNew s → IsAnswered (reply_to s file (Rollback at number))
    → state_after s file (Rollback at number) ≡ s

-- A switch drops the commits before the last and the running compaction; the stores, the documents and what is uncommitted of them stay.
pub record IsSwitched (s after : State) (reply : Reply) : Type 0 where
  pub answers : reply ≡ Switched s.last.number
  pub commits : retained after ≡ s.last ∷ []
  pub stores : after.stores ≡ s.stores
  pub documents : after.documents ≡ s.documents
  pub numbers : (after.next_commit ≡ s.next_commit) × (after.next_store ≡ s.next_store) × (after.next_ticket ≡ s.next_ticket)
  pub file : (after.revision ≡ s.revision + 1) × (after.generation ≡ s.generation + 1) × (after.limits ≡ s.limits)
  pub idle : after.copying ≡ None
  pub kept : after.kept ≡ s.next_store
  pub open_block : s.loose < 4064 → after.loose ≡ s.loose
  pub place : after.place ≡ s.place + 1

abbrev pub SwitchKeeps : Type 0
SwitchKeeps = (s : State) (file : File) (at : StoreRef) (ticket left : ℕ) → IsAnswered (reply_to s file (Switch at ticket left))
    → IsSwitched s (state_after s file (Switch at ticket left)) (reply_to s file (Switch at ticket left))

-- a begin runs a compaction of the last commit under the next ticket; nothing else changes but the place
abbrev pub BeginNames : Type 0
BeginNames = (s : State) (file : File) (at : StoreRef) → IsState s → IsAnswered (reply_to s file (Begin at))
    → (reply_to s file (Begin at) ≡ Begun s.next_ticket s.last.number)
    × (state_after s file (Begin at) ≡ record s { copying = Some (record { ticket = s.next_ticket; base = s.last.number }); next_ticket = s.next_ticket + 1; place = s.place + 1 })

-- a delta answers the last commit
abbrev pub DeltaTells : Type 0
DeltaTells = (s : State) (file : File) (ticket left : ℕ) → IsAnswered (reply_to s file (Delta ticket left)) → reply_to s file (Delta ticket left) ≡ Caught s.last.number

-- a cancel ends the compaction; nothing else changes but the place
abbrev pub CancelEnds : Type 0
CancelEnds = (s : State) (file : File) (at : StoreRef) (ticket : ℕ) → IsState s → IsAnswered (reply_to s file (Cancel at ticket))
    → (reply_to s file (Cancel at ticket) ≡ Cancelled) × (state_after s file (Cancel at ticket) ≡ record s { copying = None; place = s.place + 1 })
