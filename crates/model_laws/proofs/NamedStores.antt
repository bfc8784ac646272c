-- The store of a name, where ids rise and names differ.
use Rattle.std.proofs.Common.{◌≡◌, ◌≢◌, ℕ, ◌<◌, Bool, true, false, cond, List, [], ◌∷◌, Option, Some, None, nat_eq, refl, sym, subst, ◌∙◌, arith}
use Rattle.std.specs.Bool.{◌==◌}
use Rattle.std.specs.Option.{is_none}
use Rattle.std.specs.Cmp.Lexicographic.{pointwise, bytes_decides}
use Rattle.std.specs.FinMap as finite
use Rattle.std.proofs.lemmas.Bool.{cond-true, cond-false, false_from_ne_true, eqb-true}
use Rattle.forest_model.specs.Stores.{store_of, store_named}
use Rattle.forest_model.specs.State.{EachLater, IsState, OfStore}
use Rattle.forest_model.specs.declared.documents.DocKey.{DocKey}
use Rattle.forest_model.specs.declared.documents.Doc.{Doc}
use Rattle.forest_model.specs.declared.state.State.{State}
use Rattle.forest_model.specs.declared.state.Store.{Store}
use Rattle.model_laws.specs.Answered.{HasName}
use Rattle.model_laws.proofs.Conditions.{named_is}
use Rattle.model_laws.proofs.Lists.{found_passes, found_has}
use Rattle.model_laws.proofs.Stores.{Apart, found_by_id, found_id}

-- the store of a name that is there
pub record IsNamedStore (stores : List Store) (name : List ℕ) (id : ℕ) : Type 0 where
  pub store : Store
  pub found : store_named stores name ≡ Some store
  pub same : store.id ≡ id

pub named_store : (stores : List Store) (name : List ℕ) (id : ℕ) → EachLater Apart stores → OfStore (store_of stores id) (λ st. st.name ≡ name) → IsNamedStore stores name id
named_store [] name id a h = absurd h
named_store (s ∷ stores) name id a h = by (s.id == id) refl h (named_store stores name id a.1)
  where
    by : (b : Bool) → (s.id == id) ≡ b → OfStore (cond b (Some s) (store_of stores id)) (λ st. st.name ≡ name)
        → (OfStore (store_of stores id) (λ st. st.name ≡ name) → IsNamedStore stores name id) → IsNamedStore (s ∷ stores) name id
    by true t is later = record { store = s; found = cond-true _ _ _ ((bytes_decides s.name name).1 is); same = eqb-true s.id id t }
    by false t is later =
        let h = later is in
        let differs : s.name ≢ h.store.name = (found_has (Apart s) _ stores h.store a.0 h.found).1 in
        let named : h.store.name ≡ name = (bytes_decides h.store.name name).0 (found_passes _ stores h.store h.found) in
        record {
          store = h.store;
          found = cond-false _ _ _ (false_from_ne_true _ (λ e. differs ((bytes_decides s.name name).0 e ∙ sym named))) ∙ h.found;
          same = h.same;
        }

-- and by its id it has the name
pub named_by_id : (stores : List Store) (name : List ℕ) (st : Store) → EachLater Apart stores → store_named stores name ≡ Some st → OfStore (store_of stores st.id) (λ t. t.name ≡ name)
named_by_id stores name st a f =
    subst (λ o. OfStore o (λ t. t.name ≡ name)) (sym (found_by_id stores _ st a f)) ((bytes_decides st.name name).0 (found_passes (λ t. pointwise nat_eq t.name name) stores st f))

-- no store has the name
pub none_named : (stores : List Store) (name : List ℕ) → (HasName name stores → ⊥) → store_named stores name ≡ None
none_named stores name n = by (store_named stores name) (λ e. n ((named_is name stores).0 e))
  where
    by : (o : Option Store) → (is_none o ≡ false → ⊥) → o ≡ None
    by None h = refl
    by (Some st) h = absurd (h refl)

-- a store that isn't made yet has no documents
pub none_yet : (s : State) → IsState s → (k : DocKey) → k.store ≡ s.next_store → finite.get s.documents k ≡ None
none_yet s h k e = by (finite.get s.documents k) refl
  where
    there : (o : Option Store) → store_of s.stores k.store ≡ o → (P : Store → Type 0) → OfStore o P → ⊥
    there None f P p = p
    there (Some st) f P p =
        let below : st.id < s.next_store = found_has (λ t. t.id < s.next_store) _ s.stores st h.ids_drawn f in
        let is : st.id ≡ k.store = found_id s.stores k.store st f in
        omega (arith, below, is, e)

    by : (o : Option Doc) → finite.get s.documents k ≡ o → o ≡ None
    by None f = refl
    by (Some d) f = absurd (there (store_of s.stores k.store) refl _ (h.now.numbers k d f).1)
