-- Nothing is new exactly where the tables of stores are the same.
use Rattle.std.proofs.Common.{◌≡◌, ℕ, ◌≤◌, Bool, true, false, cond, List, [], ◌∷◌, map, Option, Some, None, refl, sym, ap, subst, ◌∙◌}
use Rattle.std.specs.Prelude.{◌&&◌, ◌==◌}
use Rattle.std.specs.Bool.{Decides}
use Rattle.std.specs.Cmp.{IsTotalOrder}
use Rattle.std.specs.Cmp.Lexicographic.{slice_cmp, pointwise_decides, bytes_decides}
use Rattle.std.specs.FinMap as finite
use Rattle.std.specs.Ordering.{nat_cmp}
use Rattle.std.proofs.lemmas.Bool.{eqb-true}
use Rattle.std.proofs.lemmas.Bool.Decides.{Decides-and, Decides-like, Decides-eqb}
use Rattle.std.proofs.lemmas.Cmp.{then_total, on_total, nat_cmp_total, nat_list_cmp_total}
use Rattle.std.proofs.lemmas.Map.Lookups.{CmpEqualImpliesEq, exact_pairs, exact_unsigned, exact_bytes}
use Rattle.std.proofs.lemmas.Option.{same_Some, none-some}
use Rattle.forest_model.specs.Documents.{Map, is_same_map}
use Rattle.forest_model.specs.Key.{key_cmp}
use Rattle.forest_model.specs.State.{AreKept, OfStore, nothing_new}
use Rattle.forest_model.specs.Stores.{store_of, is_same_store, are_same_stores}
use Rattle.forest_model.specs.declared.documents.DocKey.{DocKey}
use Rattle.forest_model.specs.declared.documents.Doc.{Doc}
use Rattle.forest_model.specs.declared.state.State.{State}
use Rattle.forest_model.specs.declared.state.Store.{Store}
use Rattle.model_laws.specs.Laws.{NothingNewMeans}
use Rattle.file_core.specs.Stands.{row_in, SameAtSameNumber}
use Rattle.file_parts.specs.Moment.{Moment}
use Rattle.file_core.specs.Updates.{StandsAt}
use Rattle.file_commit.specs.Committing.{are_same_rows}

-- ---- keys

exact_keys : CmpEqualImpliesEq key_cmp
exact_keys a b h =
    ap (λ (p : ℕ × List ℕ). record { store = p.0; key = p.1 })
    (exact_pairs nat_cmp (slice_cmp nat_cmp) exact_unsigned exact_bytes (a.store, a.key) (b.store, b.key) h)

keys_total : IsTotalOrder key_cmp
keys_total = then_total (on_total (λ k. k.store) nat_cmp_total) (on_total (λ k. k.key) nat_list_cmp_total)

-- ---- stores

rows_are : (m n : Map) (xs ys : List Store) → are_same_rows (map (row_in m) xs) (map (row_in n) ys) ≡ are_same_stores xs ys
rows_are m n [] [] = refl
rows_are m n [] (y ∷ ys) = refl
rows_are m n (x ∷ xs) [] = refl
rows_are m n (x ∷ xs) (y ∷ ys) = ap (λ (b : Bool). is_same_store x y && b) (rows_are m n xs ys)

same_stores : (a b : Store) → Decides (is_same_store a b) (a ≡ b)
same_stores a b =
    Decides-like _ (λ h. λ i. record { id = h.0.0 i; name = h.0.1 i; seq = h.1 i }) (λ e. ((ap (λ s. s.id) e, ap (λ s. s.name) e), ap (λ s. s.seq) e))
    (Decides-and _ _ (Decides-and _ _ (Decides-eqb a.id b.id) (bytes_decides a.name b.name)) (Decides-eqb a.seq b.seq))

found_id : (stores : List Store) (k : ℕ) (s : Store) → store_of stores k ≡ Some s → s.id ≡ k
found_id [] k s e = absurd (none-some s e)
found_id (t ∷ stores) k s e = by (t.id == k) refl e (found_id stores k s) where
  by : (b : Bool) → (t.id == k) ≡ b → cond b (Some t) (store_of stores k) ≡ Some s → (store_of stores k ≡ Some s → s.id ≡ k) → s.id ≡ k
  by true is f later = ap (λ (x : Store). x.id) (sym (same_Some t s f)) ∙ eqb-true t.id k is
  by false is f later = later f

-- ---- documents

-- a key of a store that isn't there has no document
none_there : (stores : List Store) (documents : Map) (k : DocKey) (o : Option Doc) → AreKept stores documents → store_of stores k.store ≡ None → finite.get documents k ≡ o → o ≡ None
none_there stores documents k None kept gone is = refl
none_there stores documents k (Some d) kept gone is = absurd (subst (λ (s : Option Store). OfStore s (λ s. d.seq ≤ s.seq)) gone (kept.numbers k d is).1)

same_key : (s : State) → AreKept s.stores s.documents → AreKept s.last.stores s.last.documents → SameAtSameNumber s → s.stores ≡ s.last.stores → (k : DocKey) (o : Option Store) → store_of s.stores k.store ≡ o
    → finite.get s.documents k ≡ finite.get s.last.documents k
same_key s now last unchanged stores k None gone =
    none_there s.stores s.documents k (finite.get s.documents k) now gone refl
    ∙ sym (none_there s.last.stores s.last.documents k (finite.get s.last.documents k) last (ap (λ (xs : List Store). store_of xs k.store) (sym stores) ∙ gone) refl)
same_key s now last unchanged stores k (Some st) there =
    let id : st.id ≡ k.store = found_id s.stores k.store st there in
    let at_id : store_of s.stores st.id ≡ Some st = ap (store_of s.stores) id ∙ there in
    let same = (unchanged st st (ap (λ (xs : List Store). store_of xs st.id) (sym stores) ∙ at_id) at_id).1 refl k.key in
    ap (λ (n : ℕ). finite.get s.documents (record { store = n; key = k.key })) (sym id) ∙ same ∙ ap (λ (n : ℕ). finite.get s.last.documents (record { store = n; key = k.key })) id

same_documents : (s : State) → AreKept s.stores s.documents → AreKept s.last.stores s.last.documents → SameAtSameNumber s → s.stores ≡ s.last.stores → s.documents ≡ s.last.documents
same_documents s now last unchanged stores =
    finite.same_map keys_total exact_keys s.documents s.last.documents (λ k. same_key s now last unchanged stores k (store_of s.stores k.store) refl)

pub nothing_is : NothingNewMeans → (told : Bool) (m : Moment) (s : State) → StandsAt told m s → are_same_rows m.held.names.rows m.held.header.stores ≡ nothing_new s
nothing_is law told m s stands =
    (λ i. are_same_rows (stands.rows i) (stands.committed i)) ∙ rows_are s.documents s.last.documents s.stores s.last.stores ∙ by (are_same_stores s.stores s.last.stores) refl
  where
    by : (b : Bool) → are_same_stores s.stores s.last.stores ≡ b → are_same_stores s.stores s.last.stores ≡ nothing_new s
    by false e = e ∙ sym (ap (λ (b : Bool). b && is_same_map s.documents s.last.documents) e)
    by true e =
        let stores = (pointwise_decides same_stores s.stores s.last.stores).0 e in
        e ∙ sym ((law s).1 (stores, same_documents s stands.is_state.now stands.is_state.commits.0 stands.unchanged stores))
