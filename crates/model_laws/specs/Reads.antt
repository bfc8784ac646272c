-- What the calls that read answer, and what a snapshot of a commit shows.
use Rattle.std.specs.Prelude.{◌≡◌, ◌≢◌, ℕ, ◌↔◌, ◌⊎◌, List, [], ◌∷◌, ◌++◌, length, map, reverse, Option, Some, None}
use Rattle.std.specs.List.{AllByRecursion}
use Rattle.forest_model.specs.Documents.{Map, doc_at}
use Rattle.forest_model.specs.Stores.{store_of}
use Rattle.forest_model.specs.State.{IsState, EachLater, OfStore, retained}
use Rattle.forest_model.specs.Blocks.{File}
use Rattle.forest_model.specs.Session.{Snapshot, opened_snapshot}
use Rattle.forest_model.specs.declared.call.StoreRef.{StoreRef}
use Rattle.forest_model.specs.declared.call.Found.{Found}
use Rattle.forest_model.specs.declared.call.Info.{Info as InfoRow}
use Rattle.forest_model.specs.declared.call.Call.TheVariants.{Get, BySeq, Info, Markers, SnapLatest, SnapAt}
use Rattle.forest_model.specs.declared.call.Reply.{Reply}
use Rattle.forest_model.specs.declared.call.Reply.TheVariants.{Document, InfoIs, MarkersAre, Snapped}
use Rattle.forest_model.specs.declared.documents.Doc.{Doc}
use Rattle.forest_model.specs.declared.state.Commit.{Commit}
use Rattle.forest_model.specs.declared.state.Copying.{Copying}
use Rattle.forest_model.specs.declared.state.State.{State}
use Rattle.model_laws.specs.Laws.{reply_to}
use Rattle.model_laws.specs.Answered.{IsAnswered, IsKey, IsAtSeq}

-- a document of the map, as it is found
pub record IsFound (documents : Map) (id : ℕ) (found : Found) : Type 0 where
  pub doc : Doc
  pub there : doc_at documents id found.key ≡ Some doc
  pub same : (found.seq ≡ doc.seq) × (found.meta ≡ doc.meta) × (found.body ≡ doc.body)

-- a get answers the document of its key
pub record IsGot (s : State) (reply : Reply) (id : ℕ) (key : List ℕ) : Type 0 where
  pub found : Found
  pub answers : reply ≡ Document found
  pub named : found.key ≡ key
  pub is : IsFound s.documents id found

abbrev pub GetTells : Type 0
GetTells = (s : State) (file : File) (at : StoreRef) (key : List ℕ) → IsAnswered (reply_to s file (Get at key)) → IsGot s (reply_to s file (Get at key)) at.store key

-- a look-up by number answers a document of the store that has it
pub record IsGotBySeq (s : State) (reply : Reply) (id seq : ℕ) : Type 0 where
  pub found : Found
  pub answers : reply ≡ Document found
  pub numbered : found.seq ≡ seq
  pub is : IsFound s.documents id found

abbrev pub BySeqTells : Type 0
BySeqTells = (s : State) (file : File) (at : StoreRef) (seq : ℕ) → IsAnswered (reply_to s file (BySeq at seq)) → IsGotBySeq s (reply_to s file (BySeq at seq)) at.store seq

-- a look-up by number and one by key give one document
abbrev pub OneDocument : Type 0
OneDocument = (s : State) (file : File) (at : StoreRef) (seq : ℕ) (found : Found) → IsState s → IsKey found.key
    → (reply_to s file (BySeq at seq) ≡ Document found) ↔ ((reply_to s file (Get at found.key) ≡ Document found) × (found.seq ≡ seq))

-- the ticket that is shown, 0 for none
abbrev pub shown_ticket : Option Copying → ℕ
shown_ticket None = 0
shown_ticket (Some c) = c.ticket

-- the key is one of these
abbrev pub IsAmong : List ℕ → List (List ℕ) → Type 0
IsAmong key [] = ⊥
IsAmong key (k ∷ keys) = (k ≡ key) ⊎ IsAmong key keys

-- The keys at which a store has documents, each once.
pub record AreKeysOf (documents : Map) (id : ℕ) (keys : List (List ℕ)) : Type 0 where
  pub apart : EachLater (λ a b. a ≢ b) keys
  pub each : (key : List ℕ) → IsAmong key keys ↔ ((doc : Doc) × (doc_at documents id key ≡ Some doc))

pub record IsInfo (s : State) (reply : Reply) (id : ℕ) : Type 0 where
  pub info : InfoRow
  pub answers : reply ≡ InfoIs info
  pub commit : info.commit ≡ s.last.number
  pub seq : OfStore (store_of s.stores id) (λ st. info.seq ≡ st.seq)
  -- as many documents as the store has keys
  pub keys : List (List ℕ)
  pub keys_of_store : AreKeysOf s.documents id keys
  pub documents : info.documents ≡ length keys
  pub ticket : info.ticket ≡ shown_ticket s.copying

abbrev pub InfoTells : Type 0
InfoTells = (s : State) (file : File) (at : StoreRef) → IsAnswered (reply_to s file (Info at)) → IsInfo s (reply_to s file (Info at)) at.store

-- markers are the numbers of the retained commits, oldest first
abbrev pub MarkersTell : Type 0
MarkersTell = (s : State) (file : File) → reply_to s file Markers ≡ MarkersAre (reverse (map (λ c. c.number) (retained s)))

-- a snapshot that is opened is answered as taken
abbrev pub SnapsTell : Type 0
SnapsTell = (s : State) (file : File) (at : StoreRef) (seq : ℕ)
    → (reply_to s file SnapLatest ≡ Snapped) × (IsAnswered (reply_to s file (SnapAt at seq)) → reply_to s file (SnapAt at seq) ≡ Snapped)

-- The newest retained commit in which the store has exactly this number, and a snapshot that shows it.
pub record ShowsCommit (s : State) (id seq : ℕ) (snapshot : Snapshot) : Type 0 where
  pub newer : List Commit
  pub commit : Commit
  pub older : List Commit
  pub among : retained s ≡ newer ++ commit ∷ older
  pub at_seq : IsAtSeq id seq commit
  pub none_newer : AllByRecursion (λ c. IsAtSeq id seq c → ⊥) newer
  pub shows : (snapshot.stores ≡ commit.stores) × (snapshot.documents ≡ commit.documents) × (snapshot.commit ≡ commit.number)
  pub place : snapshot.place ≡ s.place

-- the snapshot that is opened of a sequence number, where that is answered
abbrev pub SnapAtShows : Type 0
SnapAtShows = (s : State) (file : File) (at : StoreRef) (seq : ℕ) → IsAnswered (reply_to s file (SnapAt at seq))
    → (snapshot : Snapshot) × (opened_snapshot (SnapAt at seq) s ≡ Some snapshot) × ShowsCommit s at.store seq snapshot

-- and that of the present
abbrev pub SnapLatestShows : Type 0
SnapLatestShows = (s : State)
    → opened_snapshot SnapLatest s ≡ Some (record { place = s.place; stores = s.stores; documents = s.documents; commit = s.last.number })
