-- Sums over the entries in memory and over the documents, and both without those of a store.
use Rattle.std.proofs.Common.{◌≡◌, ◌≢◌, ℕ, ◌+◌, Bool, true, false, cond, List, [], ◌∷◌, map, Option, Some, None, refl, sym, ap, subst, ◌∙◌, arith, inl, inr}
use Rattle.std.specs.Prelude.{sum_by, IsTrue, ◌==◌, not, filter, count_by, T}
use Rattle.std.specs.FinMap as finite
use Rattle.std.specs.FinMap.Entries.{below_all, is_sorted-where_key, find-where_key}
use Rattle.std.specs.Cmp.{tied_itself}
use Rattle.std.specs.Ordering.{is_eq, ordering_reverse}
use Rattle.std.specs.declared.cmp.Ordering.{Ordering}
use Rattle.std.specs.declared.cmp.Ordering.TheVariants.{Less, Equal, Greater}
use Rattle.std.proofs.lemmas.Bool.{eqb-true, ne_eqb}
use Rattle.std.proofs.lemmas.List.Sums.{sum_by-cons}
use Rattle.forest_model.specs.Key.{key_cmp}
use Rattle.forest_model.specs.Documents.{Map, Entry as Document, is_of, count_of, without_store}
use Rattle.forest_model.specs.declared.documents.DocKey.{DocKey}
use Rattle.forest_model.specs.declared.documents.Doc.{Doc}
use Rattle.forest_model.specs.declared.stored.Entry.{Entry}
use Rattle.file_image.specs.Commits.{live_of, live_bytes}
use Rattle.wal_index.specs.Index.{Map as Entries, key_entry}
use Rattle.wal_index.specs.Live.{own_len, own_live}
use Rattle.file_documents.specs.Setting.{live_len}
use Rattle.file_core.proofs.Inserted.{exact_keys, keys_total, same_or_other, part, none_below, below_less, both, is_true}

-- ---- two maps whose values add the same at each key

not_tied : (q k : DocKey) → q ≢ k → is_eq (key_cmp q k) ≡ false
not_tied q k n = by (key_cmp q k) refl where
  by : (o : Ordering) → key_cmp q k ≡ o → is_eq o ≡ false
  by Less is = refl
  by Equal is = absurd (n (exact_keys q k is))
  by Greater is = refl

module _ {X : Type 0} (f : DocKey × X → ℕ) where
  abbrev at : DocKey → List (DocKey × X) → ℕ
  at q es = part f q (finite.find key_cmp q es)

  abbrev IsBelow : DocKey → List (DocKey × X) → Type 0
  IsBelow k es = IsTrue (below_all key_cmp k es)

  own_at : (k : DocKey) (x : X) (es : List (DocKey × X)) → at k ((k, x) ∷ es) ≡ f (k, x)
  own_at k x es = ap (λ o. part f k (cond (is_eq o) (Some x) (finite.find key_cmp k es))) (tied_itself keys_total k)

  other_at : (k q : DocKey) (x : X) (es : List (DocKey × X)) → q ≢ k → at q ((k, x) ∷ es) ≡ at q es
  other_at k q x es n = ap (λ b. part f q (cond b (Some x) (finite.find key_cmp q es))) (not_tied q k n)

  none_at : (k : DocKey) (es : List (DocKey × X)) → IsBelow k es → at k es ≡ 0
  none_at k es below = ap (part f k) (none_below k es below)

  -- a key that adds nothing may be left out
  left_out : (k : DocKey) (x : X) (es : List (DocKey × X)) (other : DocKey → ℕ) → IsBelow k es → ((q : DocKey) → at q ((k, x) ∷ es) ≡ other q) → other k ≡ 0
      → (f (k, x) ≡ 0) × ((q : DocKey) → at q es ≡ other q)
  left_out k x es other below h none = (sym (own_at k x es) ∙ h k ∙ none, rest) where
    rest : (q : DocKey) → at q es ≡ other q
    rest q = elim (same_or_other q k) [
      | inl same ↦ subst (λ (y : DocKey). at y es ≡ other y) (sym same) (none_at k es below ∙ sym none)
      | inr n ↦ sym (other_at k q x es n) ∙ h q
    ]

module _ {X Y : Type 0} (f : DocKey × X → ℕ) (g : DocKey × Y → ℕ) where
  abbrev AreSame : List (DocKey × X) → List (DocKey × Y) → Type 0
  AreSame es fs = IsTrue (finite.is_sorted key_cmp es) → IsTrue (finite.is_sorted key_cmp fs) → ((q : DocKey) → at f q es ≡ at g q fs) → sum_by f es ≡ sum_by g fs

  same_sums : (es : List (DocKey × X)) (fs : List (DocKey × Y)) → AreSame es fs
  same_sums [] [] s t h = refl
  same_sums [] ((l, y) ∷ fs) s t h =
      let sorted = both (below_all key_cmp l fs) _ t in
      let d = left_out g l y fs (λ q. 0) sorted.0 (λ q. sym (h q)) refl in
      omega (arith, sum_by-cons g (l, y) fs, d.0, same_sums [] fs s sorted.1 (λ q. sym (d.1 q)))
  same_sums ((k, x) ∷ es) [] s t h =
      let sorted = both (below_all key_cmp k es) _ s in
      let d = left_out f k x es (λ q. 0) sorted.0 h refl in
      omega (arith, sum_by-cons f (k, x) es, d.0, same_sums es [] sorted.1 t d.1)
  same_sums ((k, x) ∷ es) ((l, y) ∷ fs) s t h =
      by (key_cmp k l) refl (same_sums es ((l, y) ∷ fs)) (same_sums es fs) (same_sums ((k, x) ∷ es) fs) (both (below_all key_cmp k es) _ s) (both (below_all key_cmp l fs) _ t) where
        by : (o : Ordering) → key_cmp k l ≡ o → AreSame es ((l, y) ∷ fs) → AreSame es fs → AreSame ((k, x) ∷ es) fs
            → IsTrue (below_all key_cmp k es) × IsTrue (finite.is_sorted key_cmp es) → IsTrue (below_all key_cmp l fs) × IsTrue (finite.is_sorted key_cmp fs)
            → sum_by f ((k, x) ∷ es) ≡ sum_by g ((l, y) ∷ fs)
        by Less is a b c u v =
            let none : at g k ((l, y) ∷ fs) ≡ 0 = ap (λ o. part g k (cond (is_eq o) (Some y) (finite.find key_cmp k fs))) is ∙ none_at g k fs (below_less k l fs is v.0) in
            let d = left_out f k x es (λ q. at g q ((l, y) ∷ fs)) u.0 h none in
            omega (arith, sum_by-cons f (k, x) es, d.0, a u.1 t d.1)
        by Greater is a b c u v =
            let less : key_cmp l k ≡ Less = keys_total.antisymm l k ∙ ap ordering_reverse is in
            let none : at f l ((k, x) ∷ es) ≡ 0 = ap (λ o. part f l (cond (is_eq o) (Some x) (finite.find key_cmp l es))) less ∙ none_at f l es (below_less l k es less u.0) in
            let d = left_out g l y fs (λ q. at f q ((k, x) ∷ es)) v.0 (λ q. sym (h q)) none in
            omega (arith, sum_by-cons g (l, y) fs, d.0, c s v.1 (λ q. sym (d.1 q)))
        by Equal is a b c u v =
            let same : k ≡ l = exact_keys k l is in
            let head : f (k, x) ≡ g (l, y) = sym (own_at f k x es) ∙ h k ∙ ap (λ q. at g q ((l, y) ∷ fs)) same ∙ own_at g l y fs in
            let rest : (q : DocKey) → at f q es ≡ at g q fs = (λ q. elim (same_or_other q k) [
              | inl own ↦ subst (λ (z : DocKey). at f z es ≡ at g z fs) (sym own) (none_at f k es u.0 ∙ sym (ap (λ z. at g z fs) same ∙ none_at g l fs v.0))
              | inr n ↦ sym (other_at f k q x es n) ∙ h q ∙ other_at g l q y fs (λ e. n (e ∙ sym same))
            ]) in
            omega (arith, sum_by-cons f (k, x) es, sum_by-cons g (l, y) fs, head, b u.1 v.1 rest)

-- ---- the entries that a filter by the keys keeps

kept_entries : {X : Type 0} (m : finite.FinMap key_cmp X) (p : DocKey → Bool) → finite.entries (finite.retain_keys m p) ≡ filter (λ e. p e.0) (finite.entries m)
kept_entries {X} m p =
    let kept : List (DocKey × X) = filter (λ e. p e.0) (finite.entries m) in
    let sorted : T (finite.is_sorted key_cmp kept) = is_sorted-where_key key_cmp p (finite.entries m) (finite.entries_sorted m) in
    let same : finite.from_sorted {R = key_cmp} kept ≡ finite.retain_keys m p = finite.same_map keys_total exact_keys _ _ (λ q.
    let alike : (x : DocKey) → key_cmp q x ≡ Equal → p x ≡ p q = λ x t. ap p (sym (exact_keys q x t)) in
    finite.get-from_sorted key_cmp kept q sorted ∙ find-where_key key_cmp p q alike (finite.entries m)
    ∙ ap (λ r. cond (p q) r None) (sym (finite.get-entries m q)) ∙ sym (finite.get-retain_keys m p q alike)) in
    sym (ap finite.entries same) ∙ finite.entries-from_sorted key_cmp kept sorted

-- ---- the live records of a store

-- what a document of a store adds, and what an entry of it
abbrev own_of : ℕ → Document → ℕ
own_of id e = cond (e.0.store == id) (live_of e) 0

abbrev own_entry : ℕ → DocKey × Entry → ℕ
own_entry id e = cond (e.0.store == id) (live_len (Some e.1)) 0

sum_mapped : (id : ℕ) (es : List (DocKey × Entry)) → sum_by (own_len id) (map key_entry es) ≡ sum_by (own_entry id) es
sum_mapped id [] = refl
sum_mapped id (e ∷ es) = omega (arith, sum_by-cons (own_len id) (key_entry e) (map key_entry es), sum_by-cons (own_entry id) e es, sum_mapped id es)

same_part : (id : ℕ) (q : DocKey) (oe : Option Entry) (od : Option Doc) → live_len oe ≡ part live_of q od → part (own_entry id) q oe ≡ part (own_of id) q od
same_part id q oe od h = by (q.store == id) oe od h where
  by : (b : Bool) (oe : Option Entry) (od : Option Doc) → live_len oe ≡ part live_of q od → part (λ e. cond b (live_len (Some e.1)) 0) q oe ≡ part (λ e. cond b (live_of e) 0) q od
  by true None None h = refl
  by true None (Some d) h = h
  by true (Some e) None h = h
  by true (Some e) (Some d) h = h
  by false None None h = refl
  by false None (Some d) h = refl
  by false (Some e) None h = refl
  by false (Some e) (Some d) h = refl

own_documents : (id : ℕ) (entries : Entries) (documents : Map) → ((q : DocKey) → live_len (finite.get entries q) ≡ part live_of q (finite.get documents q))
    → own_live id entries ≡ sum_by (own_of id) (finite.entries documents)
own_documents id entries documents h =
    sum_mapped id (finite.entries entries)
    ∙ same_sums (own_entry id) (own_of id) (finite.entries entries) (finite.entries documents) (is_true _ (finite.entries_sorted entries)) (is_true _ (finite.entries_sorted documents)) (λ q.
    ap (part (own_entry id) q) (sym (finite.get-entries entries q)) ∙ same_part id q (finite.get entries q) (finite.get documents q) (h q) ∙ ap (part (own_of id) q) (finite.get-entries documents q))

-- what is left is less by these
less_own : (id : ℕ) (es : List Document) → sum_by live_of (filter (λ e. not (e.0.store == id)) es) + sum_by (own_of id) es ≡ sum_by live_of es
less_own id [] = refl
less_own id (e ∷ es) = by (e.0.store == id) refl (less_own id es) where
  by : (b : Bool) → (e.0.store == id) ≡ b → sum_by live_of (filter (λ e. not (e.0.store == id)) es) + sum_by (own_of id) es ≡ sum_by live_of es
      → sum_by live_of (cond (not b) (e ∷ filter (λ e. not (e.0.store == id)) es) (filter (λ e. not (e.0.store == id)) es)) + sum_by (own_of id) (e ∷ es) ≡ sum_by live_of (e ∷ es)
  by true is later = omega (arith, later, sum_by-cons (own_of id) e es, sum_by-cons live_of e es, ap (λ c. cond c (live_of e) 0) is)
  by false is later =
      omega (arith, later, sum_by-cons (own_of id) e es, sum_by-cons live_of e es, sum_by-cons live_of e (filter (λ e. not (e.0.store == id)) es), ap (λ c. cond c (live_of e) 0) is)

pub live_without : (id : ℕ) (entries : Entries) (documents : Map) → ((q : DocKey) → live_len (finite.get entries q) ≡ part live_of q (finite.get documents q))
    → live_bytes (without_store documents id) + own_live id entries ≡ live_bytes documents
unfolding live_bytes
live_without id entries documents h =
    ap (λ es. sum_by live_of es + own_live id entries) (kept_entries documents (λ k. not (k.store == id)))
    ∙ ap (λ n. sum_by live_of (filter (λ e. not (e.0.store == id)) (finite.entries documents)) + n) (own_documents id entries documents h) ∙ less_own id (finite.entries documents)

-- ---- the documents of the others

count_kept : (id j : ℕ) → j ≢ id → (es : List Document) → count_by (is_of j) (filter (λ e. not (e.0.store == id)) es) ≡ count_by (is_of j) es
count_kept id j n [] = refl
count_kept id j n (e ∷ es) = by (e.0.store == id) refl (count_kept id j n es) where
  by : (b : Bool) → (e.0.store == id) ≡ b → count_by (is_of j) (filter (λ e. not (e.0.store == id)) es) ≡ count_by (is_of j) es
      → count_by (is_of j) (cond (not b) (e ∷ filter (λ e. not (e.0.store == id)) es) (filter (λ e. not (e.0.store == id)) es)) ≡ count_by (is_of j) (e ∷ es)
  by true is later =
      let other : is_of j e ≡ false = ne_eqb e.0.store j (λ same. n (sym same ∙ eqb-true e.0.store id is)) in
      omega (arith, later, sum_by-cons (λ y. cond {A = ℕ} (is_of j y) 1 0) e es, ap (λ c. cond {A = ℕ} c 1 0) other)
  by false is later =
      omega (arith, later, sum_by-cons (λ y. cond {A = ℕ} (is_of j y) 1 0) e es, sum_by-cons (λ y. cond {A = ℕ} (is_of j y) 1 0) e (filter (λ e. not (e.0.store == id)) es))

pub count_without : (documents : Map) (id j : ℕ) → j ≢ id → count_of (without_store documents id) j ≡ count_of documents j
count_without documents id j n = ap (count_by (is_of j)) (kept_entries documents (λ k. not (k.store == id))) ∙ count_kept id j n (finite.entries documents)
