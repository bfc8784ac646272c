-- What opening and removing a store answer and leave.
use Rattle.std.specs.Prelude.{◌≡◌, ◌≢◌, ℕ, ◌+◌, Bool, false, List, [], ◌∷◌, ◌++◌, length, None}
use Rattle.std.specs.FinMap as finite
use Rattle.forest_model.specs.Stores.{store_of}
use Rattle.forest_model.specs.State.{IsState, OfStore}
use Rattle.forest_model.specs.Blocks.{File}
use Rattle.forest_model.specs.declared.call.StoreRef.{StoreRef}
use Rattle.forest_model.specs.declared.call.Call.TheVariants.{StoreOpen, StoreRemove}
use Rattle.forest_model.specs.declared.call.Reply.{Reply}
use Rattle.forest_model.specs.declared.call.Reply.TheVariants.{Store, Removed}
use Rattle.forest_model.specs.declared.documents.DocKey.{DocKey}
use Rattle.forest_model.specs.declared.state.State.{State}
use Rattle.model_laws.specs.Laws.{reply_to, state_after}
use Rattle.model_laws.specs.Answered.{IsAnswered, HasName}
use Rattle.model_laws.specs.Writes.{Appends}

-- the store of this id has this name
abbrev pub IsNamed : State → ℕ → List ℕ → Type 0
IsNamed s id name = OfStore (store_of s.stores id) (λ st. st.name ≡ name)

-- opening a name that is there answers its id, and changes nothing
abbrev pub OpenFinds : Type 0
OpenFinds = (s : State) (file : File) (name : List ℕ) (read_only : Bool) (id : ℕ) → IsState s → IsNamed s id name
    → IsAnswered (reply_to s file (StoreOpen name read_only))
    → (reply_to s file (StoreOpen name read_only) ≡ Store (record { store = id; read_only = read_only })) × (state_after s file (StoreOpen name read_only) ≡ s)

-- A new name makes a store behind the others, with the next id, at number 0 and without documents.
pub record IsOpened (s after : State) (reply : Reply) (name : List ℕ) : Type 0 where
  pub answers : reply ≡ Store (record { store = s.next_store; read_only = false })
  pub stores : after.stores ≡ s.stores ++ record { id = s.next_store; name = name; seq = 0 } ∷ []
  pub empty : (k : DocKey) → k.store ≡ s.next_store → finite.get after.documents k ≡ None
  pub next : after.next_store ≡ s.next_store + 1
  pub appends : Appends s after (24 + length name)
  pub rest : after ≡ record s { stores = after.stores; next_store = after.next_store; loose = after.loose; place = s.place + 1 }

abbrev pub OpenMakes : Type 0
OpenMakes = (s : State) (file : File) (name : List ℕ) (read_only : Bool) → IsState s → (HasName name s.stores → ⊥)
    → IsAnswered (reply_to s file (StoreOpen name read_only))
    → IsOpened s (state_after s file (StoreOpen name read_only)) (reply_to s file (StoreOpen name read_only)) name

-- A removal takes the store of this name and its documents; every other store and document stays.
pub record IsRemoved (s after : State) (reply : Reply) (name : List ℕ) : Type 0 where
  pub id : ℕ
  pub answers : reply ≡ Removed id
  pub named : IsNamed s id name
  pub gone : store_of after.stores id ≡ None
  pub empty : (k : DocKey) → k.store ≡ id → finite.get after.documents k ≡ None
  pub stores : (k : ℕ) → k ≢ id → store_of after.stores k ≡ store_of s.stores k
  pub documents : (k : DocKey) → k.store ≢ id → finite.get after.documents k ≡ finite.get s.documents k
  pub appends : Appends s after 24
  pub rest : after ≡ record s { stores = after.stores; documents = after.documents; loose = after.loose; place = s.place + 1 }

abbrev pub RemoveTakes : Type 0
RemoveTakes = (s : State) (file : File) (at : StoreRef) (name : List ℕ) → IsState s → IsAnswered (reply_to s file (StoreRemove at name))
    → IsRemoved s (state_after s file (StoreRemove at name)) (reply_to s file (StoreRemove at name)) name
