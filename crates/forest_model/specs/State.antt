-- The rules of a commit and of a state, the state of a new store, and what of a state is durable.
use Rattle.std.specs.Prelude.{◌≡◌, ◌≢◌, ℕ, ◌^◌, ◌<◌, ◌≤◌, ◌⊎◌, ◌&&◌, Bool, List, [], ◌∷◌, length, codes, Option, Some, None}
use Rattle.std.specs.List.{AllByRecursion}
use Rattle.std.specs.FinMap as finite
use Rattle.forest_model.specs.Documents.{Map, is_same_map}
use Rattle.forest_model.specs.Stores.{store_of, new_store, are_same_stores}
use Rattle.forest_model.specs.declared.call.Limits.{Limits}
use Rattle.forest_model.specs.declared.documents.DocKey.{DocKey}
use Rattle.forest_model.specs.declared.documents.Doc.{Doc}
use Rattle.forest_model.specs.declared.state.Store.{Store}
use Rattle.forest_model.specs.declared.state.Commit.{Commit}
use Rattle.forest_model.specs.declared.state.Copying.{Copying}
use Rattle.forest_model.specs.declared.state.State.{State}

-- each element is so related to each later one
abbrev pub EachLater : {X : Type 0} → (X → X → Type 0) → List X → Type 0
EachLater R [] = Unit {0}
EachLater R (x ∷ xs) = AllByRecursion (R x) xs × EachLater R xs

-- of the store that is there
abbrev pub OfStore : Option Store → (Store → Type 0) → Type 0
OfStore None P = ⊥
OfStore (Some s) P = P s

-- of the running compaction, if there is one
abbrev pub IfCopying : Option Copying → (Copying → Type 0) → Type 0
IfCopying None P = Unit {0}
IfCopying (Some c) P = P c

-- Stores and documents that may stand together.
pub record AreKept (stores : List Store) (documents : Map) : Type 0 where
  -- ids rise, and names differ
  pub stores_apart : EachLater (λ a b. (a.id < b.id) × (a.name ≢ b.name)) stores
  pub at_most : length stores ≤ 64
  pub default : OfStore (store_of stores 0) (λ s. s.name ≡ codes "default")
  -- a document's store is there, and has come to the document's number
  pub numbers : (k : DocKey) (d : Doc) → finite.get documents k ≡ Some d → (1 ≤ d.seq) × OfStore (store_of stores k.store) (λ s. d.seq ≤ s.seq)
  -- no two documents of a store share a number
  pub apart : (k l : DocKey) (d e : Doc) → finite.get documents k ≡ Some d → finite.get documents l ≡ Some e → k.store ≡ l.store → d.seq ≡ e.seq → k ≡ l

-- every store of the table has an id below this one
abbrev pub IdsBelow : ℕ → List Store → Type 0
IdsBelow next stores = AllByRecursion (λ s. s.id < next) stores

abbrev pub IsCommit : Commit → Type 0
IsCommit c = AreKept c.stores c.documents

-- the retained commits, newest first
abbrev pub retained : State → List Commit
retained s = s.last ∷ s.earlier

-- one of the commits has this number
abbrev pub HasNumber : ℕ → List Commit → Type 0
HasNumber number [] = ⊥
HasNumber number (c ∷ older) = (c.number ≡ number) ⊎ HasNumber number older

pub record IsState (s : State) : Type 0 where
  pub now : AreKept s.stores s.documents
  pub commits : AllByRecursion IsCommit (retained s)
  pub newest_first : EachLater (λ newer older. older.number < newer.number) (retained s)
  pub numbers_drawn : AllByRecursion (λ c. c.number < s.next_commit) (retained s)
  pub kept_ids : AllByRecursion (λ c. IdsBelow s.kept c.stores) (retained s)
  pub ids_drawn : IdsBelow s.next_store s.stores
  pub kept_drawn : s.kept ≤ s.next_store
  pub tickets : 1 ≤ s.next_ticket
  -- a running compaction has a ticket that was drawn, and copies a retained commit
  pub copies : IfCopying s.copying (λ c. (1 ≤ c.ticket) × (c.ticket < s.next_ticket) × HasNumber c.base (retained s))
  pub open_block : s.loose < 4064

-- the map of no documents
abbrev pub no_documents : Map
no_documents = finite.empty

-- the one store of a new file
abbrev pub first_stores : List Store
first_stores = new_store 0 (codes "default") ∷ []

abbrev pub first_commit : Commit
first_commit = record { number = 0; stores = first_stores; documents = no_documents }

-- What of a state every crash keeps: the retained commits, newest first, and the numbers of the last header and of the meta slot.
pub record Durable : Type 0 where
  pub commits : List Commit
  pub next_commit : ℕ
  pub next_store : ℕ
  pub revision : ℕ
  pub generation : ℕ

abbrev pub durable_of : State → Durable
durable_of s = record {
  commits = retained s;
  next_commit = s.next_commit;
  next_store = s.kept;
  revision = s.revision;
  generation = s.generation;
}

-- the state at opening, of the last commit, those before it and the numbers that are durable
abbrev pub opened : Commit → List Commit → Durable → Limits → State
opened last earlier d limits = record {
  stores = last.stores;
  documents = last.documents;
  last = last;
  earlier = earlier;
  next_commit = d.next_commit;
  next_store = d.next_store;
  next_ticket = 1;
  copying = None;
  kept = d.next_store;
  revision = d.revision;
  generation = d.generation;
  loose = 0;
  place = 0;
  limits = limits;
}

-- the state of a new store
abbrev pub new_durable : Durable
new_durable = record {
  commits = first_commit ∷ [];
  next_commit = 1;
  next_store = 1;
  revision = 1;
  generation = 1;
}

abbrev pub new_state : Limits → State
new_state limits = opened first_commit [] new_durable limits

-- 2^32 blocks at most, and a flush from 4,096 entries on
abbrev pub usual_limits : Limits
usual_limits = record { max_blocks = 2 ^ 32; threshold = 4096 }

-- stores and documents equal those of the last commit
abbrev pub nothing_new : State → Bool
nothing_new s = are_same_stores s.stores s.last.stores && is_same_map s.documents s.last.documents
