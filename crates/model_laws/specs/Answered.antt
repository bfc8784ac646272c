-- Where a call is answered: what each call asks of its arguments, the state and the file, in words of their own.
use Rattle.std.specs.Prelude.{◌≡◌, ◌≢◌, ℕ, ◌+◌, ◌-◌, ◌/◌, ◌^◌, ◌<◌, ◌≤◌, ◌⊎◌, ◌↔◌, Bool, false, ◌&&◌, ◌||◌, not, List, [], ◌∷◌, length, Option, Some, None, is_some, nat_eq, codes, IsTrue}
use Rattle.std.specs.List.{AllByRecursion}
use Rattle.std.specs.Cmp.Lexicographic.{pointwise}
use Rattle.forest_model.specs.Documents.{doc_at}
use Rattle.forest_model.specs.Stores.{store_of}
use Rattle.forest_model.specs.State.{OfStore, HasNumber, retained}
use Rattle.forest_model.specs.Blocks.{File, blocks_to_copy}
use Rattle.forest_model.specs.declared.call.StoreRef.{StoreRef}
use Rattle.forest_model.specs.declared.call.Item.{Item}
use Rattle.forest_model.specs.declared.call.Item.TheVariants.{Put, Del}
use Rattle.forest_model.specs.declared.call.Call.{Call}
use Rattle.forest_model.specs.declared.call.Call.TheVariants.{Set, Delete, Batch, Get, BySeq, Info, Markers, StoreOpen, StoreRemove, Commit, Rollback, SnapLatest, SnapAt, Begin, Delta, Switch, Cancel}
use Rattle.forest_model.specs.declared.call.Reply.{Reply}
use Rattle.forest_model.specs.declared.call.Reply.TheVariants.{Refused}
use Rattle.forest_model.specs.declared.documents.Doc.{Doc}
use Rattle.forest_model.specs.declared.refusal.Refusal.{Refusal}
use Rattle.forest_model.specs.declared.state.Commit.{Commit as CommitRow}
use Rattle.forest_model.specs.declared.state.Copying.{Copying}
use Rattle.forest_model.specs.declared.state.Store.{Store}
use Rattle.forest_model.specs.declared.state.State.{State}
use Rattle.model_laws.specs.Laws.{reply_to}

-- the reply is no refusal
abbrev pub IsAnswered : Reply → Type 0
IsAnswered reply = (why : Refusal) → Refused why ≢ reply

-- a reference that may write
abbrev pub MayWrite : StoreRef → Type 0
MayWrite at = at.read_only ≡ false

-- a key of 1 to 3,500 bytes; a meta of at most 255 bytes with a body of at most 1,048,576
abbrev pub IsKey : List ℕ → Type 0
IsKey key = (1 ≤ length key) × (length key ≤ 3500)

abbrev pub IsContent : List ℕ → List ℕ → Type 0
IsContent meta body = (length meta ≤ 255) × (length body ≤ 1048576)

-- of an item of a batch
abbrev pub IsItemKey : Item → Type 0
IsItemKey (Put key meta body) = IsKey key
IsItemKey (Del key) = IsKey key

abbrev pub IsItemContent : Item → Type 0
IsItemContent (Put key meta body) = IsContent meta body
IsItemContent (Del key) = Unit {0}

-- a name of 1 to 31 letters from a to z and from A to Z, digits, and the bytes `_`, `-` and `.`
abbrev pub IsBetween : ℕ → ℕ → ℕ → Type 0
IsBetween low high b = (low ≤ b) × (b ≤ high)

abbrev pub IsNameByte : ℕ → Type 0
IsNameByte b = IsBetween 97 122 b ⊎ IsBetween 65 90 b ⊎ IsBetween 48 57 b ⊎ (b ≡ 95) ⊎ (b ≡ 45) ⊎ (b ≡ 46)

abbrev pub IsName : List ℕ → Type 0
IsName name = (1 ≤ length name) × (length name ≤ 31) × AllByRecursion IsNameByte name

-- a number that isn't worn
abbrev pub MayDraw : ℕ → Type 0
MayDraw n = n < 2 ^ 62 - 1

-- the store is there; and it may draw so many numbers
abbrev pub HasStore : State → ℕ → Type 0
HasStore s id = OfStore (store_of s.stores id) (λ st. Unit {0})

abbrev pub MayDrawSeq : State → ℕ → ℕ → Type 0
MayDrawSeq s id n = OfStore (store_of s.stores id) (λ st. MayDraw (st.seq + n))

-- a store has this name
abbrev pub HasName : List ℕ → List Store → Type 0
HasName name [] = ⊥
HasName name (st ∷ stores) = (st.name ≡ name) ⊎ HasName name stores

-- the key is there; and the number
abbrev pub HasKey : State → ℕ → List ℕ → Type 0
HasKey s id key = (d : Doc) × (doc_at s.documents id key ≡ Some d)

abbrev pub HasSeq : State → ℕ → ℕ → Type 0
HasSeq s id seq = (key : List ℕ) × (d : Doc) × (doc_at s.documents id key ≡ Some d) × (d.seq ≡ seq)

-- each delete of a batch finds its key at its turn, of the keys that are there before it
abbrev pub FindsEach : (List ℕ → Bool) → List Item → Type 0
FindsEach there [] = Unit {0}
FindsEach there (Put key meta body ∷ items) = FindsEach (λ k. pointwise nat_eq k key || there k) items
FindsEach there (Del key ∷ items) = IsTrue (there key) × FindsEach (λ k. not (pointwise nat_eq k key) && there k) items

-- stores and documents are those of the last commit
abbrev pub IsNothingNew : State → Type 0
IsNothingNew s = (s.stores ≡ s.last.stores) × (s.documents ≡ s.last.documents)

-- a commit in which the store has exactly this number
abbrev pub IsAtSeq : ℕ → ℕ → CommitRow → Type 0
IsAtSeq id seq c = OfStore (store_of c.stores id) (λ st. st.seq ≡ seq)

abbrev pub HasAtSeq : ℕ → ℕ → List CommitRow → Type 0
HasAtSeq id seq [] = ⊥
HasAtSeq id seq (c ∷ older) = IsAtSeq id seq c ⊎ HasAtSeq id seq older

-- the compaction that runs has this ticket
abbrev pub HasTicket : Option Copying → ℕ → Type 0
HasTicket None ticket = ⊥
HasTicket (Some c) ticket = c.ticket ≡ ticket

abbrev pub IsRunning : State → ℕ → Type 0
IsRunning s ticket = (1 ≤ ticket) × HasTicket s.copying ticket

-- the bytes of records: a head of 24, key, meta and body
abbrev pub item_bytes : Item → ℕ
item_bytes (Put key meta body) = 24 + length key + length meta + length body
item_bytes (Del key) = 24 + length key

abbrev pub all_bytes : List Item → ℕ
all_bytes [] = 0
all_bytes (item ∷ items) = item_bytes item + all_bytes items

-- the file takes so many blocks more, with two kept back; and the whole blocks of so many bytes behind those of the open block
abbrev pub TakesBlocks : State → File → ℕ → Type 0
TakesBlocks s file blocks = length file + blocks + 2 ≤ s.limits.max_blocks

abbrev pub HasRoom : State → File → ℕ → Type 0
HasRoom s file bytes = TakesBlocks s file ((s.loose + bytes) / 4064)

-- What must hold for a call to be answered: no cause of a refusal does.
abbrev pub NoCause : State → File → Call → Type 0
NoCause s file (Set at key meta body) =
    MayWrite at × IsKey key × IsContent meta body × MayDrawSeq s at.store 1 × MayDraw (s.place + 1)
    × HasRoom s file (24 + length key + length meta + length body)
NoCause s file (Delete at key) =
    MayWrite at × IsKey key × MayDrawSeq s at.store 1 × MayDraw (s.place + 1) × HasKey s at.store key × HasRoom s file (24 + length key)
NoCause s file (Batch at items) =
    MayWrite at × AllByRecursion IsItemKey items × AllByRecursion IsItemContent items × MayDrawSeq s at.store (length items) × MayDraw (s.place + 1)
    × FindsEach (λ key. is_some (doc_at s.documents at.store key)) items × HasRoom s file (all_bytes items)
NoCause s file (Get at key) = IsKey key × HasStore s at.store × HasKey s at.store key
NoCause s file (BySeq at seq) = HasStore s at.store × HasSeq s at.store seq
NoCause s file (Info at) = HasStore s at.store
NoCause s file Markers = Unit {0}
-- the name is there; or it is new, and there are fewer than 64 stores
NoCause s file (StoreOpen name read_only) =
    IsName name
    × (HasName name s.stores ⊎ ((HasName name s.stores → ⊥) × (read_only ≡ false) × MayDraw s.next_store × MayDraw (s.place + 1) × (length s.stores < 64) × HasRoom s file (24 + length name)))
NoCause s file (StoreRemove at name) =
    MayWrite at × IsName name × (name ≢ codes "default") × HasName name s.stores × MayDraw (s.place + 1) × HasRoom s file 24
NoCause s file (Commit at) = MayWrite at × (IsNothingNew s ⊎ (MayDraw s.next_commit × MayDraw (s.place + 1)))
-- nothing would change; or the place may be drawn and the file takes what is copied
NoCause s file (Rollback at number) =
    MayWrite at × HasNumber number (retained s) × (s.copying ≡ None)
    × (((number ≡ s.last.number) × IsNothingNew s) ⊎ (MayDraw (s.place + 1) × TakesBlocks s file (blocks_to_copy file number)))
NoCause s file SnapLatest = Unit {0}
NoCause s file (SnapAt at seq) = HasStore s at.store × HasAtSeq at.store seq (retained s)
NoCause s file (Begin at) = MayWrite at × MayDraw s.next_ticket × MayDraw (s.revision + 1) × MayDraw (s.place + 1) × (s.copying ≡ None)
NoCause s file (Delta ticket left) = IsRunning s ticket × (left ≡ 0)
NoCause s file (Switch at ticket left) =
    MayWrite at × MayDraw (s.revision + 1) × MayDraw (s.generation + 1) × MayDraw (s.place + 1) × IsRunning s ticket × (left ≡ 0)
NoCause s file (Cancel at ticket) = MayWrite at × MayDraw (s.place + 1) × IsRunning s ticket

-- a call is answered exactly where no cause holds
abbrev pub AnsweredExactly : Type 0
AnsweredExactly = (s : State) (file : File) (call : Call) → IsAnswered (reply_to s file call) ↔ NoCause s file call
