-- What a set, a delete and a batch answer and leave.
use Rattle.std.specs.Prelude.{◌≡◌, ◌≢◌, ℕ, ◌+◌, ◌*◌, ◌<◌, List, [], ◌∷◌, length, Some, None}
use Rattle.std.specs.FinMap as finite
use Rattle.forest_model.specs.Documents.{key_at, doc_of, doc_at}
use Rattle.forest_model.specs.Stores.{store_of}
use Rattle.forest_model.specs.State.{IsState, OfStore}
use Rattle.forest_model.specs.Blocks.{File}
use Rattle.forest_model.specs.declared.call.StoreRef.{StoreRef}
use Rattle.forest_model.specs.declared.call.Item.{Item}
use Rattle.forest_model.specs.declared.call.Item.TheVariants.{Put, Del}
use Rattle.forest_model.specs.declared.call.Call.{Call}
use Rattle.forest_model.specs.declared.call.Call.TheVariants.{Set, Delete, Batch}
use Rattle.forest_model.specs.declared.call.Reply.{Reply}
use Rattle.forest_model.specs.declared.call.Reply.TheVariants.{Seq}
use Rattle.forest_model.specs.declared.documents.DocKey.{DocKey}
use Rattle.forest_model.specs.declared.state.State.{State}
use Rattle.model_laws.specs.Laws.{reply_to, state_after}
use Rattle.model_laws.specs.Answered.{IsAnswered, HasKey, all_bytes}

-- One store comes so many numbers further, which is what is answered. No other store moves, and of the rest only documents, open block and place.
pub record DrawsSeq (s after : State) (reply : Reply) (id drawn : ℕ) : Type 0 where
  pub seq : ℕ
  pub answers : reply ≡ Seq seq
  pub further : OfStore (store_of s.stores id) (λ st. (seq ≡ st.seq + drawn) × (store_of after.stores id ≡ Some (record st { seq = seq })))
  pub others : (k : ℕ) → k ≢ id → store_of after.stores k ≡ store_of s.stores k
  pub rest : after ≡ record s { stores = after.stores; documents = after.documents; loose = after.loose; place = s.place + 1 }

-- so many bytes of records: some blocks are full, and the others stand in the open block
pub record Appends (s after : State) (bytes : ℕ) : Type 0 where
  pub full : ℕ
  pub all : 4064 * full + after.loose ≡ s.loose + bytes
  pub open_block : after.loose < 4064

-- A set draws one number, and the key has a document with it; every other key has what it had.
pub record IsSet (s after : State) (reply : Reply) (id : ℕ) (key meta body : List ℕ) : Type 0 where
  pub draws : DrawsSeq s after reply id 1
  pub own : doc_at after.documents id key ≡ Some (doc_of draws.seq meta body)
  pub others : (k : DocKey) → k ≢ key_at id key → finite.get after.documents k ≡ finite.get s.documents k
  pub appends : Appends s after (24 + length key + length meta + length body)

abbrev pub SetDraws : Type 0
SetDraws = (s : State) (file : File) (at : StoreRef) (key meta body : List ℕ) → IsAnswered (reply_to s file (Set at key meta body))
    → IsSet s (state_after s file (Set at key meta body)) (reply_to s file (Set at key meta body)) at.store key meta body

-- A delete draws one number, and takes exactly that key away, which was there.
pub record IsDeleted (s after : State) (reply : Reply) (id : ℕ) (key : List ℕ) : Type 0 where
  pub draws : DrawsSeq s after reply id 1
  pub was : HasKey s id key
  pub gone : doc_at after.documents id key ≡ None
  pub others : (k : DocKey) → k ≢ key_at id key → finite.get after.documents k ≡ finite.get s.documents k
  pub appends : Appends s after (24 + length key)

abbrev pub DeleteTakes : Type 0
DeleteTakes = (s : State) (file : File) (at : StoreRef) (key : List ℕ) → IsAnswered (reply_to s file (Delete at key))
    → IsDeleted s (state_after s file (Delete at key)) (reply_to s file (Delete at key)) at.store key

-- an item as a call of its own
abbrev pub call_of_item : StoreRef → Item → Call
call_of_item at (Put key meta body) = Set at key meta body
call_of_item at (Del key) = Delete at key

-- items one after another as calls of their own, each answered, over a file without blocks and from one place
abbrev pub OneByOne : State → StoreRef → List Item → State → Type 0
OneByOne s at [] after = after ≡ s
OneByOne s at (item ∷ items) after =
    IsAnswered (reply_to s [] (call_of_item at item))
    × OneByOne (record (state_after s [] (call_of_item at item)) { place = s.place }) at items after

-- A batch draws a number for each item, and leaves what its items leave one by one, but for the place, which is one further.
pub record IsBatch (s after : State) (reply : Reply) (at : StoreRef) (items : List Item) : Type 0 where
  pub draws : DrawsSeq s after reply at.store (length items)
  pub last : State
  pub one_by_one : OneByOne s at items last
  pub same : after ≡ record last { place = s.place + 1 }
  pub appends : Appends s after (all_bytes items)

abbrev pub BatchIsItems : Type 0
BatchIsItems = (s : State) (file : File) (at : StoreRef) (items : List Item) → IsState s → IsAnswered (reply_to s file (Batch at items))
    → IsBatch s (state_after s file (Batch at items)) (reply_to s file (Batch at items)) at items
