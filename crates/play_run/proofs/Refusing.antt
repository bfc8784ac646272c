-- A step that is refused has a refusal with a text, and leaves the state and the file.
use Rattle.std.proofs.Common.{◌≡◌, ℕ, ◌+◌, Bool, true, false, List, [], ◌∷◌, ◌++◌, refl, subst, arith}
use Rattle.std.specs.Prelude.{Option, Some, None, IfOk, IfErr, MatchBool, ◌==◌, if◌then◌else◌, length, nat_lt, sum_by}
use Rattle.std.specs.List.{AllByRecursion}
use Rattle.std.specs.Option.{option_map_or}
use Rattle.std.proofs.lemmas.Bool.{eqb-true}
use Rattle.forest_model.specs.Blocks.{File}
use Rattle.forest_model.specs.Documents.{after_items, doc_at, doc_numbered, without_store}
use Rattle.forest_model.specs.Run.{FileAfter, Grows}
use Rattle.forest_model.specs.State.{nothing_new, retained}
use Rattle.forest_model.specs.Stores.{from_number, seq_of, store_named, new_store, without}
use Rattle.forest_model.specs.Step.{Outcome, ◌where_holds◌, first_cause, refused_or, causes, needed, full, answer, step_of, committed, rolled_back, is_at, updated, written, item_length, record_length, found_at}
use Rattle.forest_model.specs.declared.call.Call.{Call}
use Rattle.forest_model.specs.declared.call.Call.TheVariants.{Set, Delete, Batch, Get, BySeq, Info, Markers, StoreOpen, StoreRemove, Commit, Rollback, SnapLatest, SnapAt, Begin, Delta, Switch, Cancel}
use Rattle.forest_model.specs.declared.call.Reply.TheVariants.{Refused, Committed, Rolled, Store, Removed}
use Rattle.forest_model.specs.declared.line.Said.{Said}
use Rattle.forest_model.specs.declared.line.Said.TheVariants as says
use Rattle.forest_model.specs.declared.refusal.Refusal.{Refusal}
use Rattle.forest_model.specs.declared.refusal.Refusal.TheVariants as refusal
use Rattle.forest_model.specs.declared.state.State.{State}
use Rattle.script_text.specs.Replies.{HasText}
use Rattle.play_run.specs.Refused.{said_or_ended}
use Rattle.play_run.specs.declared.player.Ended.{Ended}

-- ---- a refusal is said or ends the run

-- one that has a text is said
pub has_text_said : (why : Refusal) (P : Ended → Type 0) → HasText why → IfErr (said_or_ended why) P
has_text_said refusal.NotFound P h = tt
has_text_said refusal.NoCommit P h = tt
has_text_said refusal.ReadOnly P h = tt
has_text_said refusal.DiskFault P h = absurd h
has_text_said refusal.NoMemory P h = absurd h
has_text_said refusal.KeyLength P h = tt
has_text_said refusal.BodyLength P h = tt
has_text_said (refusal.Compacting ticket) P h = tt
has_text_said (refusal.NoTicket asked now) P h = tt
has_text_said (refusal.Stopped faults) P h = absurd h
has_text_said (refusal.FileFull used needed max) P h = tt
has_text_said refusal.NoStore P h = tt
has_text_said refusal.StoreCount P h = tt
has_text_said refusal.NameForm P h = tt
has_text_said (refusal.NotCopied left) P h = tt
has_text_said (refusal.Damaged file block) P h = absurd h
has_text_said refusal.Worn P h = tt
has_text_said refusal.NoSnapshot P h = tt
has_text_said refusal.Exists P h = absurd h

-- and what is said is one that has a text
pub said_has_text : (why : Refusal) (P : Said → Type 0) → (HasText why → P (says.Refused why)) → IfOk (said_or_ended why) P
said_has_text refusal.NotFound P h = h tt
said_has_text refusal.NoCommit P h = h tt
said_has_text refusal.ReadOnly P h = h tt
said_has_text refusal.DiskFault P h = tt
said_has_text refusal.NoMemory P h = tt
said_has_text refusal.KeyLength P h = h tt
said_has_text refusal.BodyLength P h = h tt
said_has_text (refusal.Compacting ticket) P h = h tt
said_has_text (refusal.NoTicket asked now) P h = h tt
said_has_text (refusal.Stopped faults) P h = tt
said_has_text (refusal.FileFull used needed max) P h = h tt
said_has_text refusal.NoStore P h = h tt
said_has_text refusal.StoreCount P h = h tt
said_has_text refusal.NameForm P h = h tt
said_has_text (refusal.NotCopied left) P h = h tt
said_has_text (refusal.Damaged file block) P h = tt
said_has_text refusal.Worn P h = h tt
said_has_text refusal.NoSnapshot P h = h tt
said_has_text refusal.Exists P h = tt

-- ---- the causes of a step have a text

abbrev HasTextIf : Option Refusal → Type 0
HasTextIf None = Unit {0}
HasTextIf (Some why) = HasText why

held_text : (why : Refusal) (b : Bool) → HasText why → HasTextIf (why where_holds b)
held_text why true h = h
held_text why false h = tt

first_text : (os : List (Option Refusal)) → AllByRecursion HasTextIf os → HasTextIf (first_cause os)
first_text [] h = tt
first_text (None ∷ os) h = first_text os h.1
first_text (Some why ∷ os) h = h.0

causes_text : (s : State) (call : Call) → AllByRecursion HasTextIf (causes s call)
causes_text s (Set at key meta body) =
    (held_text refusal.ReadOnly _ tt, (held_text refusal.KeyLength _ tt, (held_text refusal.BodyLength _ tt, (held_text refusal.NoStore _ tt, (held_text refusal.Worn _ tt, tt)))))
causes_text s (Delete at key) =
    (held_text refusal.ReadOnly _ tt, (held_text refusal.KeyLength _ tt, (held_text refusal.NoStore _ tt, (held_text refusal.Worn _ tt, (held_text refusal.NotFound _ tt, tt)))))
causes_text s (Batch at items) =
    (held_text refusal.ReadOnly _ tt, (held_text refusal.KeyLength _ tt, (held_text refusal.BodyLength _ tt, (held_text refusal.NoStore _ tt, (held_text refusal.Worn _ tt, (held_text refusal.NotFound _ tt, tt))))))
causes_text s (Get at key) = (held_text refusal.KeyLength _ tt, (held_text refusal.NoStore _ tt, (held_text refusal.NotFound _ tt, tt)))
causes_text s (BySeq at seq) = (held_text refusal.NoStore _ tt, (held_text refusal.NotFound _ tt, tt))
causes_text s (Info at) = (held_text refusal.NoStore _ tt, tt)
causes_text s Markers = tt
causes_text s (StoreOpen name read_only) =
    (held_text refusal.NameForm _ tt, (held_text refusal.NoStore _ tt, (held_text refusal.Worn _ tt, (held_text refusal.StoreCount _ tt, tt))))
causes_text s (StoreRemove at name) =
    (held_text refusal.ReadOnly _ tt, (held_text refusal.NameForm _ tt, (held_text refusal.NoStore _ tt, (held_text refusal.Worn _ tt, tt))))
causes_text s (Commit at) = (held_text refusal.ReadOnly _ tt, (held_text refusal.Worn _ tt, tt))
causes_text s (Rollback at number) =
    (held_text refusal.ReadOnly _ tt, (held_text refusal.Worn _ tt, (held_text refusal.NoCommit _ tt, (held_text (refusal.Compacting _) _ tt, tt))))
causes_text s SnapLatest = tt
causes_text s (SnapAt at seq) = (held_text refusal.NoStore _ tt, (held_text refusal.NoCommit _ tt, tt))
causes_text s (Begin at) = (held_text refusal.ReadOnly _ tt, (held_text refusal.Worn _ tt, (held_text (refusal.Compacting _) _ tt, tt)))
causes_text s (Delta ticket left) = (held_text (refusal.NoTicket ticket _) _ tt, (held_text (refusal.NotCopied left) _ tt, tt))
causes_text s (Switch at ticket left) =
    (held_text refusal.ReadOnly _ tt, (held_text refusal.Worn _ tt, (held_text (refusal.NoTicket ticket _) _ tt, (held_text (refusal.NotCopied left) _ tt, tt))))
causes_text s (Cancel at ticket) = (held_text refusal.ReadOnly _ tt, (held_text refusal.Worn _ tt, (held_text (refusal.NoTicket ticket _) _ tt, tt)))

full_text : (s : State) (f : File) (call : Call) → HasTextIf (full s f call)
full_text s f call = by (needed s f call) where
  by : (o : Option ℕ) → HasTextIf (option_map_or (λ n. refusal.FileFull (length f) n s.limits.max_blocks where_holds nat_lt s.limits.max_blocks (length f + n + 2)) o None)
  by None = tt
  by (Some n) = held_text (refusal.FileFull (length f) n s.limits.max_blocks) (nat_lt s.limits.max_blocks (length f + n + 2)) tt

-- ---- a refused step leaves the state

abbrev Leaves : State → Outcome → Type 0
Leaves s o = (why : Refusal) → o.0 ≡ Refused why → HasText why × (o.1 ≡ s)

refused_leaves : (c : Option Refusal) (s : State) (o : Outcome) → HasTextIf c → Leaves s o → Leaves s (refused_or c s o)
refused_leaves None s o h l = l
refused_leaves (Some why) s o h l = λ w e. let same : why ≡ w = cc in (subst HasText same h, refl)

either_leaves : (b : Bool) (s : State) (x y : Outcome) → Leaves s x → Leaves s y → Leaves s (if b then x else y)
either_leaves true s x y l m = l
either_leaves false s x y l m = m

option_leaves : {A : Type 0} (o : Option A) (s : State) (g : A → Outcome) (none : Outcome) → ((a : A) → Leaves s (g a)) → Leaves s none → Leaves s (option_map_or g o none)
option_leaves None s g none l m = m
option_leaves (Some a) s g none l m = l a

refused_here : (w : Refusal) (s : State) → HasText w → Leaves s (Refused w, s)
refused_here w s h = λ why e. let same : w ≡ why = cc in (subst HasText same h, refl)

abbrev opened_new : State → List ℕ → Outcome
opened_new s name = (
  Store (record { store = s.next_store; read_only = false }),
  record (updated s (record_length name [] [])) { stores = s.stores ++ new_store s.next_store name ∷ []; next_store = s.next_store + 1 },
)

answer_leaves : (s : State) (call : Call) → Leaves s (answer s call)
answer_leaves s (Set at key meta body) = λ why e. cc
answer_leaves s (Delete at key) = λ why e. cc
answer_leaves s (Batch at items) =
    option_leaves (after_items at.store items (seq_of s.stores at.store) s.documents) s (λ after. written s at after.0 after.1 (sum_by item_length items)) (Refused refusal.NotFound, s)
    (λ after why e. cc) (refused_here refusal.NotFound s tt)
answer_leaves s (Get at key) = option_leaves (doc_at s.documents at.store key) s (λ d. found_at key d s) (Refused refusal.NotFound, s) (λ d why e. cc) (refused_here refusal.NotFound s tt)
answer_leaves s (BySeq at seq) = option_leaves (doc_numbered s.documents at.store seq) s (λ e. found_at e.0.key e.1 s) (Refused refusal.NotFound, s) (λ d why e. cc) (refused_here refusal.NotFound s tt)
answer_leaves s (Info at) = λ why e. cc
answer_leaves s Markers = λ why e. cc
answer_leaves s (StoreOpen name read_only) =
    option_leaves (store_named s.stores name) s (λ st. (Store (record { store = st.id; read_only = read_only }), s)) (opened_new s name) (λ st why e. cc) (λ why e. cc)
answer_leaves s (StoreRemove at name) =
    option_leaves (store_named s.stores name) s (λ st. (Removed st.id, record (updated s (record_length [] [] [])) { stores = without s.stores st.id; documents = without_store s.documents st.id })) (Refused refusal.NoStore, s)
    (λ st why e. cc) (refused_here refusal.NoStore s tt)
answer_leaves s (Commit at) = either_leaves (nothing_new s) s (Committed s.last.number, s) (Committed s.next_commit, committed s) (λ why e. cc) (λ why e. cc)
answer_leaves s (Rollback at number) =
    either_leaves (is_at s number) s (Rolled number, s) _ (λ why e. cc) (option_leaves (from_number number (retained s)) s (λ target. (Rolled number, rolled_back s target)) (Refused refusal.NoCommit, s) (λ t why e. cc) (refused_here refusal.NoCommit s tt))
answer_leaves s SnapLatest = λ why e. cc
answer_leaves s (SnapAt at seq) = λ why e. cc
answer_leaves s (Begin at) = λ why e. cc
answer_leaves s (Delta ticket left) = λ why e. cc
answer_leaves s (Switch at ticket left) = λ why e. cc
answer_leaves s (Cancel at ticket) = λ why e. cc

pub step_leaves : (s : State) (f : File) (call : Call) (why : Refusal) → (step_of s f call).0 ≡ Refused why → HasText why × ((step_of s f call).1 ≡ s)
step_leaves s f call = refused_leaves (first_cause (causes s call)) s _ (first_text (causes s call) (causes_text s call)) (refused_leaves (full s f call) s (answer s call) (full_text s f call) (answer_leaves s call))

-- a call that leaves the state leaves the file
pub file_stays : (s : State) (f : File) (call : Call) → FileAfter s f (Some call) s f
file_stays s f call = by (s.place == s.place + 1) refl where
  by : (b : Bool) → (s.place == s.place + 1) ≡ b → MatchBool b (Grows s f call f) (f ≡ f)
  by true e = absurd (omega (arith, eqb-true s.place (s.place + 1) e))
  by false e = refl
