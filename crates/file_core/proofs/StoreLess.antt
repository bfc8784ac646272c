-- The stores, the documents and the entries in memory without those of a store.
use Rattle.std.proofs.Common.{◌≡◌, ◌≢◌, ℕ, ◌≤◌, Bool, true, false, cond, List, [], ◌∷◌, map, Option, Some, None, refl, sym, ap, subst, ◌∙◌}
use Rattle.std.specs.Prelude.{◌==◌, not, filter, codes, nat_eq, is_none}
use Rattle.std.specs.Cmp.Lexicographic.{pointwise, bytes_decides}
use Rattle.std.specs.FinMap as finite
use Rattle.std.specs.Option.{option_map, option_map_or}
use Rattle.std.proofs.lemmas.Bool.{eqb-true, eqb-false, eq-eqb, ne_eqb, true≢false, false≢true}
use Rattle.std.proofs.lemmas.Option.{none-some}
use Rattle.block_host.specs.declared.block.Block.{Block}
use Rattle.doc_stream.specs.OpenBlock.{OpenBlock}
use Rattle.forest_model.specs.Key.{key_cmp}
use Rattle.forest_model.specs.Documents.{Map, key_at, doc_at, count_of, without_store}
use Rattle.forest_model.specs.State.{AreKept, OfStore}
use Rattle.forest_model.specs.Step.{first_cause}
use Rattle.forest_model.specs.Stores.{store_of, store_named, without}
use Rattle.forest_model.specs.declared.documents.DocKey.{DocKey}
use Rattle.forest_model.specs.declared.documents.Doc.{Doc}
use Rattle.forest_model.specs.declared.state.State.{State}
use Rattle.forest_model.specs.declared.state.Store.{Store}
use Rattle.forest_model.specs.declared.stored.Entry.{Entry}
use Rattle.forest_model.specs.declared.refusal.Refusal.TheVariants.{NameForm, NoStore}
use Rattle.kvs_names.specs.Answers.{remove_causes as why_not_removed}
use Rattle.kvs_names.specs.Table.{Table, row_with_id}
use Rattle.model_laws.proofs.Stores.{found_by_id}
use Rattle.wal_index.specs.Index.{Map as Entries, entry_at, has_number}
use Rattle.file_core.specs.Stands.{row_in, HasDocument, AreDocuments, DrawNumbers, SameAtSameNumber}
use Rattle.file_core.proofs.Inserted.{exact_keys}
use Rattle.file_core.proofs.Numbered.{passes}
use Rattle.file_core.proofs.StoreRows.{row_found}
use Rattle.file_core.proofs.StoreSums.{count_without}

-- ---- rows

pub rows_less : (m : Map) (id : ℕ) (stores : List Store) → filter (λ r. not (r.id == id)) (map (row_in m) stores) ≡ map (row_in (without_store m id)) (without stores id)
rows_less m id [] = refl
rows_less m id (s ∷ stores) = by (s.id == id) refl (rows_less m id stores) where
  by : (b : Bool) → (s.id == id) ≡ b → filter (λ r. not (r.id == id)) (map (row_in m) stores) ≡ map (row_in (without_store m id)) (without stores id)
      → cond (not b) (row_in m s ∷ filter (λ r. not (r.id == id)) (map (row_in m) stores)) (filter (λ r. not (r.id == id)) (map (row_in m) stores))
      ≡ map (row_in (without_store m id)) (cond (not b) (s ∷ without stores id) (without stores id))
  by true is later = later
  by false is later =
      let count : count_of m s.id ≡ count_of (without_store m id) s.id = sym (count_without m id s.id (eqb-false s.id id is)) in
      λ i. record { id = s.id; name = s.name; seq = s.seq; documents = count i } ∷ later i

-- ---- maps

abbrev is_other : ℕ → DocKey → Bool
is_other id k = not (k.store == id)

module _ {X : Type 0} (m : finite.FinMap key_cmp X) (id : ℕ) where
  kept_at : (q : DocKey) → finite.get (finite.retain_keys m (is_other id)) q ≡ cond (is_other id q) (finite.get m q) None
  kept_at q = finite.get-retain_keys m (is_other id) q (λ x t. ap (is_other id) (sym (exact_keys q x t)))

  got_kept : (q : DocKey) (x : X) → finite.get (finite.retain_keys m (is_other id)) q ≡ Some x → (is_other id q ≡ true) × (finite.get m q ≡ Some x)
  got_kept q x e = by (is_other id q) refl (sym (kept_at q) ∙ e) where
    by : (b : Bool) → is_other id q ≡ b → cond b (finite.get m q) None ≡ Some x → (is_other id q ≡ true) × (finite.get m q ≡ Some x)
    by true t f = (t, f)
    by false t f = absurd (none-some x f)

pub documents_less : (told : Bool) (revision : ℕ) (file : List Block) (tail : OpenBlock) (entries : Entries) (documents : Map) (id : ℕ) → AreDocuments told revision file tail entries documents
    → AreDocuments told revision file tail (finite.retain_keys entries (λ k. not (k.store == id))) (without_store documents id)
documents_less told revision file tail entries documents id are k =
    subst (λ (oe : Option Entry). HasDocument told revision file tail k oe (finite.get (without_store documents id) k)) (sym (kept_at entries id k))
    (subst (λ (od : Option Doc). HasDocument told revision file tail k (cond (is_other id k) (finite.get entries k) None) od) (sym (kept_at documents id k)) (by (is_other id k) (are k))) where
      by : (b : Bool) → HasDocument told revision file tail k (finite.get entries k) (finite.get documents k) → HasDocument told revision file tail k (cond b (finite.get entries k) None) (cond b (finite.get documents k) None)
      by true h = h
      by false h = refl

-- ---- numbers

of_less : (P : Store → Type 0) (stores : List Store) (id k : ℕ) → k ≢ id → OfStore (store_of stores k) P → OfStore (store_of (without stores id) k) P
of_less P [] id k n h = h
of_less P (s ∷ stores) id k n h = by (s.id == id) refl (of_less P stores id k n) where
  here : (b : Bool) → OfStore (cond b (Some s) (store_of stores k)) P → (OfStore (store_of stores k) P → OfStore (store_of (without stores id) k) P) → OfStore (cond b (Some s) (store_of (without stores id) k)) P
  here true h later = h
  here false h later = later h

  by : (b : Bool) → (s.id == id) ≡ b → (OfStore (store_of stores k) P → OfStore (store_of (without stores id) k) P) → OfStore (store_of (cond (not b) (s ∷ without stores id) (without stores id)) k) P
  by true t later = later (subst (λ c. OfStore (cond c (Some s) (store_of stores k)) P) (ne_eqb s.id k (λ e. n (sym e ∙ eqb-true s.id id t))) h)
  by false t later = here (s.id == k) h later

other_store : (id : ℕ) (k : DocKey) → is_other id k ≡ true → k.store ≢ id
other_store id k e same = true≢false (sym e ∙ ap not (eq-eqb k.store id same))

pub numbers_less : (entries : Entries) (stores : List Store) (id : ℕ) → DrawNumbers entries stores → DrawNumbers (finite.retain_keys entries (λ k. not (k.store == id))) (without stores id)
numbers_less entries stores id old = record {
  drawn = λ store key e got.
      let g = got_kept entries id (key_at store key) e got in
      let was = old.drawn store key e g.1 in
      (was.0, of_less (λ s. e.seq ≤ s.seq) stores id store (other_store id (key_at store key) g.0) was.1);
  apart = λ store seq key other a b. old.apart store seq key other (had store seq key a) (had store seq other b);
} where
  had : (store seq : ℕ) (key : List ℕ) → has_number (finite.retain_keys entries (λ k. not (k.store == id))) store seq key ≡ true → has_number entries store seq key ≡ true
  had store seq key h = by (is_other id (key_at store key)) (ap (λ (o : Option Entry). option_map_or (λ e. e.seq == seq) o false) (sym (kept_at entries id (key_at store key))) ∙ h) where
    by : (b : Bool) → option_map_or (λ e. e.seq == seq) (cond b (entry_at entries store key) None) false ≡ true → has_number entries store seq key ≡ true
    by true f = f
    by false f = absurd (false≢true f)

-- ---- since the last commit

less_is : (stores : List Store) (id k : ℕ) (now : Store) → store_of (without stores id) k ≡ Some now → (k ≢ id) × (store_of stores k ≡ Some now)
less_is [] id k now e = absurd (none-some now e)
less_is (s ∷ stores) id k now e = by (s.id == id) refl e (less_is stores id k now) where
  here : (b : Bool) → (s.id == k) ≡ b → s.id ≢ id → cond b (Some s) (store_of (without stores id) k) ≡ Some now → (store_of (without stores id) k ≡ Some now → (k ≢ id) × (store_of stores k ≡ Some now))
      → (k ≢ id) × (cond b (Some s) (store_of stores k) ≡ Some now)
  here true t n f later = ((λ same. n (eqb-true s.id k t ∙ same)), f)
  here false t n f later = later f

  by : (b : Bool) → (s.id == id) ≡ b → store_of (cond (not b) (s ∷ without stores id) (without stores id)) k ≡ Some now → (store_of (without stores id) k ≡ Some now → (k ≢ id) × (store_of stores k ≡ Some now))
      → (k ≢ id) × (store_of (s ∷ stores) k ≡ Some now)
  by true t f later =
      let r = later f in
      (r.0, ap (λ b. cond b (Some s) (store_of stores k)) (ne_eqb s.id k (λ same. r.0 (sym same ∙ eqb-true s.id id t))) ∙ r.1)
  by false t f later = here (s.id == k) refl (eqb-false s.id id t) f later

pub unchanged_less : (s : State) (id : ℕ) → SameAtSameNumber s → SameAtSameNumber (record s { stores = without s.stores id; documents = without_store s.documents id })
unchanged_less s id same before now was found =
    let less = less_is s.stores id now.id now found in
    let h = same before now was less.1 in
    (h.0, λ level key. kept_at s.documents id (key_at now.id key) ∙ ap (λ b. cond (not b) (doc_at s.documents now.id key) None) (ne_eqb now.id id less.0) ∙ h.1 level key)

-- ---- the table lets the store go

none_of_zero : (id : ℕ) (t : Table) → id ≢ 0 → is_none (row_with_id t.rows id) ≡ false → first_cause (why_not_removed t id) ≡ None
none_of_zero id t n there = by (id == 0) (is_none (row_with_id t.rows id)) (ne_eqb id 0 n) there where
  by : (a b : Bool) → a ≡ false → b ≡ false → first_cause (cond a (Some NameForm) None ∷ cond b (Some NoStore) None ∷ []) ≡ None
  by true b e f = absurd (true≢false e)
  by false true e f = absurd (true≢false f)
  by false false e f = refl

pub may_go : (m : Map) (stores : List Store) (t : Table) (name : List ℕ) (st : Store) → AreKept stores m → t.rows ≡ map (row_in m) stores
    → store_named stores name ≡ Some st → pointwise nat_eq name (codes "default") ≡ false → first_cause (why_not_removed t st.id) ≡ None
may_go m stores t name st kept rows found other = none_of_zero st.id t not_zero there where
  by_id : store_of stores st.id ≡ Some st
  by_id = found_by_id stores (λ s. pointwise nat_eq s.name name) st kept.stores_apart found

  not_zero : st.id ≢ 0
  not_zero e =
      let at : store_of stores 0 ≡ Some st = ap (store_of stores) (sym e) ∙ by_id in
      let first : st.name ≡ codes "default" = subst (λ (o : Option Store). OfStore o (λ s. s.name ≡ codes "default")) at kept.default in
      let named : st.name ≡ name = (bytes_decides st.name name).0 (passes (λ s. pointwise nat_eq s.name name) stores st found) in
      true≢false (sym ((bytes_decides name (codes "default")).1 (sym named ∙ first)) ∙ other)

  there : is_none (row_with_id t.rows st.id) ≡ false
  there = ap (λ rs. is_none (row_with_id rs st.id)) rows ∙ ap is_none (row_found m stores st.id ∙ ap (option_map (row_in m)) by_id)
