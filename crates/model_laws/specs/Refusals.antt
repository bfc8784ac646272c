-- Which refusal a call meets: what is asked of it, one thing after another, each with the refusal where it doesn't hold.
use Rattle.std.specs.Prelude.{◌≡◌, ◌≢◌, ℕ, ◌+◌, ◌/◌, ◌<◌, ◌⊎◌, ◌↔◌, false, length, None, is_some, codes}
use Rattle.std.specs.List.{AllByRecursion}
use Rattle.forest_model.specs.Documents.{doc_at}
use Rattle.forest_model.specs.State.{HasNumber, retained}
use Rattle.forest_model.specs.Blocks.{File, blocks_to_copy}
use Rattle.forest_model.specs.declared.call.Call.{Call}
use Rattle.forest_model.specs.declared.call.Call.TheVariants.{Set, Delete, Batch, Get, BySeq, Info, Markers, StoreOpen, StoreRemove, Commit, Rollback, SnapLatest, SnapAt, Begin, Delta, Switch, Cancel}
use Rattle.forest_model.specs.declared.call.Reply.TheVariants.{Refused}
use Rattle.forest_model.specs.declared.refusal.Refusal.{Refusal}
use Rattle.forest_model.specs.declared.refusal.Refusal.TheVariants.{NotFound, NoCommit, ReadOnly, KeyLength, BodyLength, Compacting, NoTicket, FileFull, NoStore, StoreCount, NameForm, NotCopied, Worn}
use Rattle.forest_model.specs.declared.state.State.{State}
use Rattle.model_laws.specs.Laws.{reply_to}
use Rattle.model_laws.specs.Answered.{MayWrite, IsKey, IsContent, IsItemKey, IsItemContent, IsName, MayDraw, HasStore, MayDrawSeq, HasName, HasKey, HasSeq, FindsEach, IsNothingNew, HasAtSeq, IsRunning, all_bytes, TakesBlocks, HasRoom}
use Rattle.model_laws.specs.Reads.{shown_ticket}

-- P is asked, else the refusal comes; then the rest is asked
abbrev pub Asks : Type 0 → Refusal → Refusal → Type 0 → Type 0
Asks P refusal why rest = ((P → ⊥) × (why ≡ refusal)) ⊎ (P × rest)

-- that the file has room for records, and for what a rollback copies
abbrev pub AsksRoom : State → File → ℕ → Refusal → Type 0
AsksRoom s file bytes why = Asks (HasRoom s file bytes) (FileFull (length file) ((s.loose + bytes) / 4064) s.limits.max_blocks) why ⊥

-- nothing would change
abbrev pub IsThere : State → ℕ → Type 0
IsThere s number = (number ≡ s.last.number) × IsNothingNew s

-- The call is refused with this: the first thing that is asked and doesn't hold.
abbrev pub RefusedBy : State → File → Call → Refusal → Type 0
RefusedBy s file (Set at key meta body) why =
    Asks (MayWrite at) ReadOnly why (Asks (IsKey key) KeyLength why (Asks (IsContent meta body) BodyLength why (Asks (HasStore s at.store) NoStore why
    (Asks (MayDrawSeq s at.store 1 × MayDraw (s.place + 1)) Worn why (AsksRoom s file (24 + length key + length meta + length body) why)))))
RefusedBy s file (Delete at key) why =
    Asks (MayWrite at) ReadOnly why (Asks (IsKey key) KeyLength why (Asks (HasStore s at.store) NoStore why
    (Asks (MayDrawSeq s at.store 1 × MayDraw (s.place + 1)) Worn why (Asks (HasKey s at.store key) NotFound why (AsksRoom s file (24 + length key) why)))))
RefusedBy s file (Batch at items) why =
    Asks (MayWrite at) ReadOnly why (Asks (AllByRecursion IsItemKey items) KeyLength why (Asks (AllByRecursion IsItemContent items) BodyLength why
    (Asks (HasStore s at.store) NoStore why (Asks (MayDrawSeq s at.store (length items) × MayDraw (s.place + 1)) Worn why
    (Asks (FindsEach (λ key. is_some (doc_at s.documents at.store key)) items) NotFound why (AsksRoom s file (all_bytes items) why))))))
RefusedBy s file (Get at key) why = Asks (IsKey key) KeyLength why (Asks (HasStore s at.store) NoStore why (Asks (HasKey s at.store key) NotFound why ⊥))
RefusedBy s file (BySeq at seq) why = Asks (HasStore s at.store) NoStore why (Asks (HasSeq s at.store seq) NotFound why ⊥)
RefusedBy s file (Info at) why = Asks (HasStore s at.store) NoStore why ⊥
RefusedBy s file Markers why = ⊥
-- a new name is for a reference that may write, draws an id, and asks for a place in the table and in the file
RefusedBy s file (StoreOpen name read_only) why =
    Asks (IsName name) NameForm why (Asks (HasName name s.stores ⊎ (read_only ≡ false)) NoStore why
    (Asks (HasName name s.stores ⊎ (MayDraw s.next_store × MayDraw (s.place + 1))) Worn why (Asks (HasName name s.stores ⊎ (length s.stores < 64)) StoreCount why
    (Asks (HasName name s.stores ⊎ HasRoom s file (24 + length name)) (FileFull (length file) ((s.loose + (24 + length name)) / 4064) s.limits.max_blocks) why ⊥))))
RefusedBy s file (StoreRemove at name) why =
    Asks (MayWrite at) ReadOnly why (Asks (IsName name × (name ≢ codes "default")) NameForm why (Asks (HasName name s.stores) NoStore why
    (Asks (MayDraw (s.place + 1)) Worn why (AsksRoom s file 24 why))))
RefusedBy s file (Commit at) why = Asks (MayWrite at) ReadOnly why (Asks (IsNothingNew s ⊎ (MayDraw s.next_commit × MayDraw (s.place + 1))) Worn why ⊥)
RefusedBy s file (Rollback at number) why =
    Asks (MayWrite at) ReadOnly why (Asks (IsThere s number ⊎ MayDraw (s.place + 1)) Worn why (Asks (HasNumber number (retained s)) NoCommit why
    (Asks (s.copying ≡ None) (Compacting (shown_ticket s.copying)) why
    (Asks (IsThere s number ⊎ TakesBlocks s file (blocks_to_copy file number)) (FileFull (length file) (blocks_to_copy file number) s.limits.max_blocks) why ⊥))))
RefusedBy s file SnapLatest why = ⊥
RefusedBy s file (SnapAt at seq) why = Asks (HasStore s at.store) NoStore why (Asks (HasAtSeq at.store seq (retained s)) NoCommit why ⊥)
RefusedBy s file (Begin at) why =
    Asks (MayWrite at) ReadOnly why (Asks (MayDraw s.next_ticket × MayDraw (s.revision + 1) × MayDraw (s.place + 1)) Worn why
    (Asks (s.copying ≡ None) (Compacting (shown_ticket s.copying)) why ⊥))
RefusedBy s file (Delta ticket left) why = Asks (IsRunning s ticket) (NoTicket ticket (shown_ticket s.copying)) why (Asks (left ≡ 0) (NotCopied left) why ⊥)
RefusedBy s file (Switch at ticket left) why =
    Asks (MayWrite at) ReadOnly why (Asks (MayDraw (s.revision + 1) × MayDraw (s.generation + 1) × MayDraw (s.place + 1)) Worn why
    (Asks (IsRunning s ticket) (NoTicket ticket (shown_ticket s.copying)) why (Asks (left ≡ 0) (NotCopied left) why ⊥)))
RefusedBy s file (Cancel at ticket) why =
    Asks (MayWrite at) ReadOnly why (Asks (MayDraw (s.place + 1)) Worn why (Asks (IsRunning s ticket) (NoTicket ticket (shown_ticket s.copying)) why ⊥))

-- a refusal comes exactly so
abbrev pub RefusedExactly : Type 0
RefusedExactly = (s : State) (file : File) (call : Call) (why : Refusal) → (reply_to s file call ≡ Refused why) ↔ RefusedBy s file call why
