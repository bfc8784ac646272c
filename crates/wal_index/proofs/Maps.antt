-- The map that sorted entries make.
use Rattle.std.proofs.Common.{◌≡◌, ℕ, Bool, true, false, cond, T, List, [], ◌∷◌, length, refl, filter, sym, ap, ◌∙◌, subst}
use Rattle.std.specs.Prelude.{None}
use Rattle.std.specs.Global.{Box}
use Rattle.std.specs.FinMap as finite
use Rattle.std.specs.FinMap.Entries.{is_sorted-put, is_sorted-where_key, find-where_key}
use Rattle.std.specs.declared.cmp.Ordering.TheVariants.{Equal}
use Rattle.forest_model.specs.Key.{key_cmp}
use Rattle.forest_model.specs.declared.documents.DocKey.{DocKey}
use Rattle.forest_model.specs.declared.stored.Entry.{Entry}
use Rattle.forest_model.specs.declared.stored.KeyEntry.{KeyEntry}
use Rattle.wal_index.specs.Index.{key_at}
use Rattle.wal_index.specs.Rows.{key_of, pair_of, pairs}
use Rattle.wal_index.proofs.Orders.{keys_total, exact_keys}

pub put_sorted : (es fs : List (DocKey × Entry)) (k : DocKey) (v : Entry) → T (finite.is_sorted key_cmp es) → fs ≡ finite.put key_cmp k v es → T (finite.is_sorted key_cmp fs)
put_sorted es fs k v sorted is = subst (λ gs. T (finite.is_sorted key_cmp gs)) (sym is) (is_sorted-put key_cmp keys_total k v es sorted)

pub put_map : (es fs : List (DocKey × Entry)) (k : DocKey) (v : Entry) → T (finite.is_sorted key_cmp es) → fs ≡ finite.put key_cmp k v es → finite.from_sorted {R = key_cmp} fs ≡ finite.insert (finite.from_sorted {R = key_cmp} es) k v
put_map es fs k v sorted is = finite.same_entries_map _ _
    (finite.entries-from_sorted key_cmp fs (put_sorted es fs k v sorted is)
    ∙ is
    ∙ ap (finite.put key_cmp k v) (sym (finite.entries-from_sorted key_cmp es sorted))
    ∙ sym (finite.entries-insert keys_total (finite.from_sorted es) k v))

-- without a store
pub without_sorted : (es fs : List (DocKey × Entry)) (p : DocKey → Bool) → T (finite.is_sorted key_cmp es) → fs ≡ filter (λ e. p e.0) es → T (finite.is_sorted key_cmp fs)
without_sorted es fs p sorted is = subst (λ gs. T (finite.is_sorted key_cmp gs)) (sym is) (is_sorted-where_key key_cmp p es sorted)

pub without_map : (es fs : List (DocKey × Entry)) (p : DocKey → Bool) → T (finite.is_sorted key_cmp es) → fs ≡ filter (λ e. p e.0) es
    → finite.from_sorted {R = key_cmp} fs ≡ finite.retain_keys (finite.from_sorted {R = key_cmp} es) p
without_map es fs p sorted is = finite.same_map keys_total exact_keys _ _ (λ q.
    let alike : (x : DocKey) → key_cmp q x ≡ Equal → p x ≡ p q = λ x t. ap p (sym (exact_keys q x t)) in
    finite.get-from_sorted key_cmp fs q (without_sorted es fs p sorted is)
    ∙ ap (finite.find key_cmp q) is
    ∙ find-where_key key_cmp p q alike es
    ∙ ap (λ r. cond (p q) r None) (sym (finite.get-from_sorted key_cmp es q sorted))
    ∙ sym (finite.get-retain_keys (finite.from_sorted es) p q alike))

pub no_rows : (es : List (DocKey × Entry)) → es ≡ [] → finite.from_sorted {R = key_cmp} es ≡ finite.empty
no_rows es is = finite.empty_of_len _ (finite.len-entries (finite.from_sorted es) ∙ ap length (finite.entries-from_sorted key_cmp es (subst (λ gs. T (finite.is_sorted key_cmp gs)) (sym is) tt)) ∙ ap length is)

-- rows that were filtered by their keys
pub pairs_filter : (p : DocKey → Bool) (rows kept : List (Box KeyEntry)) → kept ≡ filter (λ r. p (key_of r)) rows → pairs kept ≡ filter (λ e. p e.0) (pairs rows)
pairs_filter p rows kept is = ap pairs is ∙ each rows
  where
    each : (rs : List (Box KeyEntry)) → pairs (filter (λ r. p (key_of r)) rs) ≡ filter (λ e. p e.0) (pairs rs)
    each [] = refl
    each (r ∷ rs) = elim (p (key_of r)) as (λ b. pairs (cond b (r ∷ filter (λ r. p (key_of r)) rs) (filter (λ r. p (key_of r)) rs)) ≡ cond b (pair_of r ∷ filter (λ e. p e.0) (pairs rs)) (filter (λ e. p e.0) (pairs rs))) [
      | true ↦ ap (λ es. pair_of r ∷ es) (each rs)
      | false ↦ each rs
    ]

-- a row of a key that was put
pub row_put : (es fs : List (DocKey × Entry)) (row : Box KeyEntry) (store : ℕ) (key : List ℕ) (entry : Entry) → fs ≡ finite.put key_cmp (key_of row) row.value.entry es → row.value ≡ record { store = store; key = key; entry = entry }
    → fs ≡ finite.put key_cmp (key_at store key) entry es
row_put es fs row store key entry put is = put ∙ ap (λ (v : KeyEntry). finite.put key_cmp (key_at v.store v.key) v.entry es) is
