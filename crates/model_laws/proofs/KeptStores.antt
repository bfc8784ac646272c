-- Stores and documents that may stand together still may, when a store is made or removed.
use Rattle.std.proofs.Common.{◌≡◌, ◌≢◌, ℕ, ◌≤◌, ◌<◌, Bool, false, not, List, [], ◌∷◌, ◌++◌, length, Some, None, codes, nat_eq, sym, ap, subst, ◌∙◌, arith}
use Rattle.std.specs.Bool.{◌==◌}
use Rattle.std.specs.List.{AllByRecursion}
use Rattle.std.specs.Cmp.Lexicographic.{pointwise, bytes_decides}
use Rattle.std.proofs.lemmas.List.{length-append}
use Rattle.std.proofs.lemmas.Bool.{eqb-false, not-true, true≢false}
use Rattle.forest_model.specs.Documents.{Map, without_store}
use Rattle.forest_model.specs.Stores.{store_of, store_named, new_store, without}
use Rattle.forest_model.specs.State.{AreKept, OfStore, IdsBelow}
use Rattle.forest_model.specs.declared.documents.DocKey.{DocKey}
use Rattle.forest_model.specs.declared.state.Store.{Store}
use Rattle.model_laws.proofs.Keys.{got_retained}
use Rattle.model_laws.proofs.Lists.{all_both, all_weaker, later_added, later_filtered, no_longer, found_passes, none_passes}
use Rattle.model_laws.proofs.Stores.{Apart, of-added, of-without, found_by_id}

-- a new store
pub opened_kept : (stores : List Store) (m : Map) (id : ℕ) (name : List ℕ) → AreKept stores m
    → IdsBelow id stores → store_named stores name ≡ None → length stores < 64 → AreKept (stores ++ new_store id name ∷ []) m
opened_kept stores m id name h below none few = record {
  stores_apart = later_added Apart stores new h.stores_apart (all_weaker _ (λ s. Apart s new) differs stores (all_both _ _ stores below others));
  at_most = omega (arith, length-append {A = Store});
  default = of-added (λ s. s.name ≡ codes "default") stores new 0 h.default;
  numbers = λ k d e. let n = h.numbers k d e in (n.0, of-added (λ s. d.seq ≤ s.seq) stores new k.store n.1);
  apart = h.apart;
}
  where
    new : Store
    new = new_store id name

    others : AllByRecursion (λ s. pointwise nat_eq s.name name ≡ false) stores
    others = none_passes (λ s. pointwise nat_eq s.name name) stores none

    differs : (s : Store) → (s.id < id) × (pointwise nat_eq s.name name ≡ false) → Apart s new
    differs s w = (w.0, λ e. true≢false (sym ((bytes_decides s.name name).1 e) ∙ w.1))

-- the default store has the id 0, and so no other name's store has
not_default : (stores : List Store) (m : Map) (name : List ℕ) (s : Store) → AreKept stores m
    → store_named stores name ≡ Some s → pointwise nat_eq name (codes "default") ≡ false → 0 ≢ s.id
not_default stores m name s h found other e =
    let at : store_of stores 0 ≡ Some s = ap (store_of stores) e ∙ found_by_id stores _ s h.stores_apart found in
    let first : s.name ≡ codes "default" = subst (λ o. OfStore o (λ t. t.name ≡ codes "default")) at h.default in
    let named : s.name ≡ name = (bytes_decides s.name name).0 (found_passes (λ t. pointwise nat_eq t.name name) stores s found) in
    true≢false (sym ((bytes_decides name (codes "default")).1 (sym named ∙ first)) ∙ other)

-- a store less, with its documents
pub closed_kept : (stores : List Store) (m : Map) (name : List ℕ) (s : Store) → AreKept stores m
    → store_named stores name ≡ Some s → pointwise nat_eq name (codes "default") ≡ false → AreKept (without stores s.id) (without_store m s.id)
closed_kept stores m name s h found other = record {
  stores_apart = later_filtered Apart (λ t. not (t.id == s.id)) stores h.stores_apart;
  at_most = omega (arith, no_longer (λ t. not (t.id == s.id)) stores, h.at_most);
  default = of-without (λ t. t.name ≡ codes "default") stores s.id 0 (not_default stores m name s h found other) h.default;
  numbers = λ k d e.
      let g = got_retained m kept k d e in
      let n = h.numbers k d g.1 in
      (n.0, of-without (λ t. d.seq ≤ t.seq) stores s.id k.store (eqb-false k.store s.id (not-true _ g.0)) n.1);
  apart = λ k l d e p q. h.apart k l d e (got_retained m kept k d p).1 (got_retained m kept l e q).1;
}
  where
    kept : DocKey → Bool
    kept k = not (k.store == s.id)
