-- The stores of a state and the rows of a table where one is made, and where one goes.
use Rattle.std.proofs.Common.{◌≡◌, ◌≢◌, ℕ, ◌+◌, ◌≤◌, ◌<◌, Bool, true, false, cond, List, [], ◌∷◌, ◌++◌, map, Option, Some, None, refl, sym, ap, subst, ◌∙◌, arith, inl, inr}
use Rattle.std.specs.Prelude.{◌==◌, ◌⊎◌, count_by, find, nat_eq}
use Rattle.std.specs.Cmp.Lexicographic.{pointwise}
use Rattle.std.specs.FinMap as finite
use Rattle.std.specs.Option.{option_map}
use Rattle.std.proofs.lemmas.Bool.{eqb-true}
use Rattle.std.proofs.lemmas.List.{map-append}
use Rattle.std.proofs.lemmas.List.Sums.{sum_by-cons}
use Rattle.std.proofs.lemmas.Option.{none-some}
use Rattle.forest_model.proofs.KeyOrder.{keys_total}
use Rattle.forest_model.specs.Documents.{Map, Entry, count_of, is_of}
use Rattle.forest_model.specs.Stores.{store_of, store_named, new_store}
use Rattle.forest_model.specs.State.{IsState, OfStore, IdsBelow}
use Rattle.forest_model.specs.declared.documents.DocKey.{DocKey}
use Rattle.forest_model.specs.declared.documents.Doc.{Doc}
use Rattle.forest_model.specs.declared.state.State.{State}
use Rattle.forest_model.specs.declared.state.Store.{Store}
use Rattle.kvs_names.specs.Table.{row_named}
use Rattle.wal_index.specs.Index.{Map as Entries}
use Rattle.file_core.specs.Stands.{row_in, DrawNumbers, SameAtSameNumber}
use Rattle.file_core.proofs.Numbered.{is_found, passes}

pub named_found : (m : Map) (stores : List Store) (name : List ℕ) → row_named (map (row_in m) stores) name ≡ option_map (row_in m) (store_named stores name)
named_found m [] name = refl
named_found m (s ∷ stores) name = by (pointwise nat_eq s.name name) (named_found m stores name) where
  by : (b : Bool) → row_named (map (row_in m) stores) name ≡ option_map (row_in m) (store_named stores name)
      → cond b (Some (row_in m s)) (row_named (map (row_in m) stores) name) ≡ option_map (row_in m) (cond b (Some s) (store_named stores name))
  by true later = refl
  by false later = later

-- ---- ids

pub id_below : (next k : ℕ) (stores : List Store) (st : Store) → IdsBelow next stores → store_of stores k ≡ Some st → k < next
id_below next k [] st all e = absurd (none-some st e)
id_below next k (t ∷ stores) st all e = by (t.id == k) refl e (id_below next k stores st all.1) where
  by : (b : Bool) → (t.id == k) ≡ b → cond b (Some t) (store_of stores k) ≡ Some st → (store_of stores k ≡ Some st → k < next) → k < next
  by true is f later = subst (λ n. n < next) (eqb-true t.id k is) all.0
  by false is f later = later f

of_there : (P : Store → Type 0) (o : Option Store) → OfStore o P → (st : Store) × (o ≡ Some st)
of_there P None h = absurd h
of_there P (Some st) h = (st, refl)

none_counted : (p : Entry → Bool) (es : List Entry) → find p es ≡ None → count_by p es ≡ 0
none_counted p [] e = refl
none_counted p (x ∷ es) e = by (p x) refl e (none_counted p es) where
  by : (b : Bool) → p x ≡ b → cond b (Some x) (find p es) ≡ None → (find p es ≡ None → count_by p es ≡ 0) → count_by p (x ∷ es) ≡ 0
  by true is f later = absurd (none-some x (sym f))
  by false is f later =
      let l : count_by p es ≡ 0 = later f in
      let none : 0 + count_by p es ≡ 0 = omega (arith, l) in
      sum_by-cons (λ y. cond {A = ℕ} (p y) 1 0) x es ∙ ap (λ b. cond {A = ℕ} b 1 0 + count_by p es) is ∙ none

-- a store that no document is of has none
pub no_documents : (m : Map) (id : ℕ) → ((k : DocKey) (d : Doc) → finite.get m k ≡ Some d → k.store ≢ id) → count_of m id ≡ 0
no_documents m id others = by (find (is_of id) (finite.entries m)) refl where
  by : (o : Option Entry) → find (is_of id) (finite.entries m) ≡ o → count_of m id ≡ 0
  by None e = none_counted (is_of id) (finite.entries m) e
  by (Some e) is =
      absurd (others e.0 e.1 (finite.get-entries m e.0 ∙ is_found keys_total (is_of id) (finite.entries m) e (finite.entries_sorted m) is)
      (eqb-true e.0.store id (passes (is_of id) (finite.entries m) e is)))

pub none_of_next : (s : State) → IsState s → count_of s.documents s.next_store ≡ 0
none_of_next s is = no_documents s.documents s.next_store (λ k d got same.
    let there = of_there (λ st. d.seq ≤ st.seq) (store_of s.stores k.store) (is.now.numbers k d got).1 in
    let below : k.store < s.next_store = id_below s.next_store k.store s.stores there.0 is.ids_drawn there.1 in
    absurd (omega arith))

-- ---- a store is made

pub rows_added : (m : Map) (stores : List Store) (id : ℕ) (name : List ℕ) → count_of m id ≡ 0
    → map (row_in m) stores ++ record { id = id; name = name; seq = 0; documents = 0 } ∷ [] ≡ map (row_in m) (stores ++ new_store id name ∷ [])
rows_added m stores id name none =
    ap (λ (n : ℕ). map (row_in m) stores ++ record { id = id; name = name; seq = 0; documents = n } ∷ []) (sym none) ∙ sym (map-append (row_in m) stores (new_store id name ∷ []))

of_added : (P : Store → Type 0) (stores : List Store) (new : Store) (k : ℕ) → OfStore (store_of stores k) P → OfStore (store_of (stores ++ new ∷ []) k) P
of_added P [] new k h = absurd h
of_added P (s ∷ stores) new k h = by (s.id == k) h (of_added P stores new k) where
  by : (b : Bool) → OfStore (cond b (Some s) (store_of stores k)) P → (OfStore (store_of stores k) P → OfStore (store_of (stores ++ new ∷ []) k) P) → OfStore (cond b (Some s) (store_of (stores ++ new ∷ []) k)) P
  by true h later = h
  by false h later = later h

pub numbers_added : (entries : Entries) (stores : List Store) (new : Store) → DrawNumbers entries stores → DrawNumbers entries (stores ++ new ∷ [])
numbers_added entries stores new old = record {
  drawn = λ store key e got. let was = old.drawn store key e got in (was.0, of_added (λ s. e.seq ≤ s.seq) stores new store was.1);
  apart = old.apart;
}

added_is : (stores : List Store) (new : Store) (k : ℕ) (now : Store) → store_of (stores ++ new ∷ []) k ≡ Some now → (store_of stores k ≡ Some now) ⊎ (new.id ≡ k)
added_is [] new k now e = by (new.id == k) refl e where
  by : (b : Bool) → (new.id == k) ≡ b → cond b (Some new) None ≡ Some now → (None ≡ Some now) ⊎ (new.id ≡ k)
  by true is f = inr (eqb-true new.id k is)
  by false is f = absurd (none-some now f)
added_is (s ∷ stores) new k now e = by (s.id == k) e (added_is stores new k now) where
  by : (b : Bool) → cond b (Some s) (store_of (stores ++ new ∷ []) k) ≡ Some now → (store_of (stores ++ new ∷ []) k ≡ Some now → (store_of stores k ≡ Some now) ⊎ (new.id ≡ k))
      → (cond b (Some s) (store_of stores k) ≡ Some now) ⊎ (new.id ≡ k)
  by true f later = inl f
  by false f later = later f

pub unchanged_added : (s : State) (name : List ℕ) → IsState s → SameAtSameNumber s → SameAtSameNumber (record s { stores = s.stores ++ new_store s.next_store name ∷ [] })
unchanged_added s name is same before now was found = elim (added_is s.stores (new_store s.next_store name) now.id now found) [
  | inl older ↦ same before now was older
  | inr new ↦ (
      let below : now.id < s.kept = id_below s.kept now.id s.last.stores before is.kept_ids.0 was in
      let drawn : s.kept ≤ s.next_store = is.kept_drawn in
      absurd (omega (arith, new))
      )
]
