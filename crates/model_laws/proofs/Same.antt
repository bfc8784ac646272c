-- The tests of sameness decide equality.
use Rattle.std.proofs.Common.{◌≡◌, ap}
use Rattle.std.specs.Bool.{Decides}
use Rattle.std.specs.Cmp.Lexicographic.{pointwise_decides, bytes_decides}
use Rattle.std.specs.FinMap as finite
use Rattle.std.proofs.lemmas.Bool.Decides.{Decides-and, Decides-like, Decides-eqb}
use Rattle.forest_model.specs.Documents.{Map, Entry, is_same_key, is_same_doc, is_same_entry, is_same_map}
use Rattle.forest_model.specs.Stores.{is_same_store}
use Rattle.forest_model.specs.State.{nothing_new}
use Rattle.forest_model.specs.declared.documents.DocKey.{DocKey}
use Rattle.forest_model.specs.declared.documents.Doc.{Doc}
use Rattle.forest_model.specs.declared.state.State.{State}
use Rattle.forest_model.specs.declared.state.Store.{Store}

same_keys : (a b : DocKey) → Decides (is_same_key a b) (a ≡ b)
same_keys a b =
    Decides-like _ (λ h. λ i. record { store = h.0 i; key = h.1 i }) (λ e. (ap (λ k. k.store) e, ap (λ k. k.key) e))
    (Decides-and _ _ (Decides-eqb a.store b.store) (bytes_decides a.key b.key))

same_docs : (a b : Doc) → Decides (is_same_doc a b) (a ≡ b)
same_docs a b =
    Decides-like _ (λ h. λ i. record { seq = h.0.0 i; meta = h.0.1 i; body = h.1 i }) (λ e. ((ap (λ d. d.seq) e, ap (λ d. d.meta) e), ap (λ d. d.body) e))
    (Decides-and _ _ (Decides-and _ _ (Decides-eqb a.seq b.seq) (bytes_decides a.meta b.meta)) (bytes_decides a.body b.body))

same_stores : (a b : Store) → Decides (is_same_store a b) (a ≡ b)
same_stores a b =
    Decides-like _ (λ h. λ i. record { id = h.0.0 i; name = h.0.1 i; seq = h.1 i }) (λ e. ((ap (λ s. s.id) e, ap (λ s. s.name) e), ap (λ s. s.seq) e))
    (Decides-and _ _ (Decides-and _ _ (Decides-eqb a.id b.id) (bytes_decides a.name b.name)) (Decides-eqb a.seq b.seq))

same_entries : (a b : Entry) → Decides (is_same_entry a b) (a ≡ b)
same_entries a b =
    Decides-like _ (λ h. λ i. (h.0 i, h.1 i)) (λ e. (ap (λ x. x.0) e, ap (λ x. x.1) e)) (Decides-and _ _ (same_keys a.0 b.0) (same_docs a.1 b.1))

same_maps : (a b : Map) → Decides (is_same_map a b) (a ≡ b)
same_maps a b =
    Decides-like _ (finite.same_entries_map a b) (ap finite.entries) (pointwise_decides same_entries (finite.entries a) (finite.entries b))

pub nothing_new_decides : (s : State) → Decides (nothing_new s) ((s.stores ≡ s.last.stores) × (s.documents ≡ s.last.documents))
nothing_new_decides s = Decides-and _ _ (pointwise_decides same_stores s.stores s.last.stores) (same_maps s.documents s.last.documents)
