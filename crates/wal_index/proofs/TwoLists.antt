-- What two lists of rows hold together.
use Rattle.std.proofs.Common.{◌≡◌, ℕ, ◌+◌, min, Bool, true, T, List, [], ◌∷◌, length, map, filter, sum_by, refl, sym, ap, ◌∙◌, subst, arith}
use Rattle.std.specs.Prelude.{Option, Some, None, is_some}
use Rattle.std.specs.Option.{option_or}
use Rattle.std.proofs.lemmas.List.{length-map}
use Rattle.std.proofs.lemmas.List.Sums.{sum_by-cons}
use Rattle.std.specs.Global.{Box}
use Rattle.std.specs.FinMap as finite
use Rattle.forest_model.specs.Key.{key_cmp}
use Rattle.forest_model.specs.declared.documents.DocKey.{DocKey}
use Rattle.forest_model.specs.declared.stored.Entry.{Entry}
use Rattle.forest_model.specs.declared.stored.KeyEntry.{KeyEntry}
use Rattle.wal_index.specs.Index.{key_entry}
use Rattle.wal_index.specs.Merged.{merged, AreApart, AreRows, all_pairs}
use Rattle.wal_index.specs.Rows.{pair_of, pairs, held}
use Rattle.wal_index.proofs.Maps.{put_sorted, without_sorted}
use Rattle.wal_index.proofs.Merged.{merged_sorted, merged_sum, find_merged, put_first, put_second, filter_merged, merged_length, apart_turned, apart_none, apart_put, apart_where}
use Rattle.wal_index.proofs.Orders.{keys_total, exact_keys}

pub rows_sorted : (settled recent : List (Box KeyEntry)) → AreRows settled recent → T (finite.is_sorted key_cmp (all_pairs settled recent))
rows_sorted settled recent rows = merged_sorted keys_total (pairs settled) (pairs recent) rows.first_sorted

pub no_recent : (settled recent : List (Box KeyEntry)) → recent ≡ [] → all_pairs settled recent ≡ pairs settled
no_recent settled recent is = ap (all_pairs settled) is

pub rows_settled : (settled recent : List (Box KeyEntry)) → recent ≡ [] → T (finite.is_sorted key_cmp (pairs settled)) → AreRows settled recent
rows_settled settled recent is sorted = subst (λ rs. AreRows settled rs) (sym is) (record { first_sorted = sorted; second_sorted = tt; apart = λ q a b. cc })

pub no_row : (settled recent : List (Box KeyEntry)) → settled ≡ [] → recent ≡ [] → all_pairs settled recent ≡ []
no_row settled recent none no_other = no_recent settled recent no_other ∙ ap pairs none

pub rows_none : (settled recent : List (Box KeyEntry)) → settled ≡ [] → recent ≡ [] → AreRows settled recent
rows_none settled recent none no_other = rows_settled settled recent no_other (subst (λ rs. T (finite.is_sorted key_cmp (pairs rs))) (sym none) tt)

-- ---- what is looked up

pub found_recent : (settled recent : List (Box KeyEntry)) (q : DocKey) (entry : Entry) → finite.find key_cmp q (pairs recent) ≡ Some entry → Some entry ≡ finite.find key_cmp q (all_pairs settled recent)
found_recent settled recent q entry is = sym (find_merged keys_total q (pairs settled) (pairs recent) ∙ ap (λ (o : Option Entry). option_or o (finite.find key_cmp q (pairs settled))) is)

pub found_settled : (settled recent : List (Box KeyEntry)) (q : DocKey) → finite.find key_cmp q (pairs recent) ≡ None → finite.find key_cmp q (pairs settled) ≡ finite.find key_cmp q (all_pairs settled recent)
found_settled settled recent q is = sym (find_merged keys_total q (pairs settled) (pairs recent) ∙ ap (λ (o : Option Entry). option_or o (finite.find key_cmp q (pairs settled))) is)

-- the same where the other list was searched first
pub older_settled : (settled recent : List (Box KeyEntry)) (q : DocKey) (entry : Entry) → AreRows settled recent → finite.find key_cmp q (pairs settled) ≡ Some entry → Some entry ≡ finite.find key_cmp q (all_pairs settled recent)
older_settled settled recent q entry rows is = sym is ∙ found_settled settled recent q (apart_none keys_total (pairs settled) (pairs recent) q rows.apart (ap is_some is))

pub older_recent : (settled recent : List (Box KeyEntry)) (q : DocKey) → finite.find key_cmp q (pairs settled) ≡ None → finite.find key_cmp q (pairs recent) ≡ finite.find key_cmp q (all_pairs settled recent)
older_recent settled recent q none =
    let found = finite.find key_cmp q (pairs recent) in
    sym (find_merged keys_total q (pairs settled) (pairs recent) ∙ ap (option_or found) none ∙ elim found as (λ (o : Option Entry). option_or o None ≡ o) [ Some entry ↦ refl | None ↦ refl ])

-- ---- a row that is put

pub put_settled : (settled new recent : List (Box KeyEntry)) (k : DocKey) (v : Entry) → AreRows settled recent → pairs new ≡ finite.put key_cmp k v (pairs settled) → is_some (finite.find key_cmp k (pairs settled)) ≡ true → AreRows new recent
put_settled settled new recent k v rows is found =
    let none = apart_none keys_total (pairs settled) (pairs recent) k rows.apart found in
    record {
      first_sorted = put_sorted (pairs settled) (pairs new) k v rows.first_sorted is;
      second_sorted = rows.second_sorted;
      apart = subst (λ (es : List (DocKey × Entry)). AreApart key_cmp es (pairs recent)) (sym is) (apart_turned keys_total (pairs recent) (finite.put key_cmp k v (pairs settled)) (apart_put keys_total (pairs recent) (pairs settled) k v (apart_turned keys_total (pairs settled) (pairs recent) rows.apart) none));
    }

pub put_settled_pairs : (settled new recent : List (Box KeyEntry)) (k : DocKey) (v : Entry) → AreRows settled recent → pairs new ≡ finite.put key_cmp k v (pairs settled) → is_some (finite.find key_cmp k (pairs settled)) ≡ true
    → all_pairs new recent ≡ finite.put key_cmp k v (all_pairs settled recent)
put_settled_pairs settled new recent k v rows is found =
    ap (λ (es : List (DocKey × Entry)). merged key_cmp es (pairs recent)) is
    ∙ put_first keys_total exact_keys (pairs settled) (pairs recent) k v rows.first_sorted (apart_none keys_total (pairs settled) (pairs recent) k rows.apart found)

pub put_recent : (settled recent new : List (Box KeyEntry)) (k : DocKey) (v : Entry) → AreRows settled recent → pairs new ≡ finite.put key_cmp k v (pairs recent) → finite.find key_cmp k (pairs settled) ≡ None → AreRows settled new
put_recent settled recent new k v rows is none = record {
  first_sorted = rows.first_sorted;
  second_sorted = put_sorted (pairs recent) (pairs new) k v rows.second_sorted is;
  apart = subst (λ (es : List (DocKey × Entry)). AreApart key_cmp (pairs settled) es) (sym is) (apart_put keys_total (pairs settled) (pairs recent) k v rows.apart none);
}

pub put_recent_pairs : (settled recent new : List (Box KeyEntry)) (k : DocKey) (v : Entry) → AreRows settled recent → pairs new ≡ finite.put key_cmp k v (pairs recent) → all_pairs settled new ≡ finite.put key_cmp k v (all_pairs settled recent)
put_recent_pairs settled recent new k v rows is = ap (merged key_cmp (pairs settled)) is ∙ put_second keys_total exact_keys (pairs settled) (pairs recent) k v rows.first_sorted

-- ---- without a store

pub removed_rows : (settled recent left left_recent : List (Box KeyEntry)) (p : DocKey → Bool) → AreRows settled recent → pairs left ≡ filter (λ e. p e.0) (pairs settled) → pairs left_recent ≡ filter (λ e. p e.0) (pairs recent) → AreRows left left_recent
removed_rows settled recent left left_recent p rows is recent_is = record {
  first_sorted = without_sorted (pairs settled) (pairs left) p rows.first_sorted is;
  second_sorted = without_sorted (pairs recent) (pairs left_recent) p rows.second_sorted recent_is;
  apart = subst (λ (es : List (DocKey × Entry)). AreApart key_cmp es (pairs left_recent)) (sym is) (subst (λ (es : List (DocKey × Entry)). AreApart key_cmp (filter (λ e. p e.0) (pairs settled)) es) (sym recent_is) (apart_where keys_total p exact_keys (pairs settled) (pairs recent) rows.apart));
}

pub removed_pairs : (settled recent left left_recent : List (Box KeyEntry)) (p : DocKey → Bool) → AreRows settled recent → pairs left ≡ filter (λ e. p e.0) (pairs settled) → pairs left_recent ≡ filter (λ e. p e.0) (pairs recent)
    → all_pairs left left_recent ≡ filter (λ e. p e.0) (all_pairs settled recent)
removed_pairs settled recent left left_recent p rows is recent_is =
    ap (λ (es : List (DocKey × Entry)). merged key_cmp es (pairs left_recent)) is
    ∙ ap (merged key_cmp (filter (λ e. p e.0) (pairs settled))) recent_is
    ∙ filter_merged keys_total exact_keys p (pairs settled) (pairs recent) rows.first_sorted

-- ---- how many rows

pub rows_length : (settled recent : List (Box KeyEntry)) → AreRows settled recent → length (all_pairs settled recent) ≡ length settled + length recent
rows_length settled recent rows =
    let all : length (all_pairs settled recent) ≡ length (pairs settled) + length (pairs recent) = merged_length keys_total (pairs settled) (pairs recent) rows.first_sorted rows.second_sorted rows.apart in
    omega (arith, all, length-map settled pair_of, length-map recent pair_of)

-- ---- what they add

pub key_sum : (g : KeyEntry → ℕ) (es : List (DocKey × Entry)) → sum_by g (map key_entry es) ≡ sum_by (λ e. g (key_entry e)) es
key_sum g [] = refl
key_sum g (e ∷ es) = omega (arith, key_sum g es, sum_by-cons g (key_entry e) (map key_entry es), sum_by-cons (λ (x : DocKey × Entry). g (key_entry x)) e es)

held_sum : (g : KeyEntry → ℕ) (rs : List (Box KeyEntry)) → sum_by g (held rs) ≡ sum_by (λ e. g (key_entry e)) (pairs rs)
held_sum g [] = refl
held_sum g (r ∷ rs) = omega (arith, held_sum g rs, sum_by-cons g r.value (held rs), sum_by-cons (λ (x : DocKey × Entry). g (key_entry x)) (pair_of r) (pairs rs))

capped : (a b c top : ℕ) → c ≡ a + b → min (min a top + min b top) top ≡ min c top
capped a b c top is = omega (arith, is)

pub rows_sum : (g : KeyEntry → ℕ) (settled recent : List (Box KeyEntry)) (a b top : ℕ) → AreRows settled recent → a ≡ min (sum_by g (held settled)) top → b ≡ min (sum_by g (held recent)) top
    → min (a + b) top ≡ min (sum_by (λ e. g (key_entry e)) (all_pairs settled recent)) top
rows_sum g settled recent a b top rows a_is b_is =
    let all : sum_by (λ (e : DocKey × Entry). g (key_entry e)) (all_pairs settled recent) ≡ sum_by g (held settled) + sum_by g (held recent) = omega (arith, merged_sum keys_total (λ (e : DocKey × Entry). g (key_entry e)) (pairs settled) (pairs recent) rows.second_sorted rows.apart, held_sum g settled, held_sum g recent) in
    ap (λ (n : ℕ). min (n + b) top) a_is ∙ ap (λ (n : ℕ). min (min (sum_by g (held settled)) top + n) top) b_is ∙ capped (sum_by g (held settled)) (sum_by g (held recent)) (sum_by (λ (e : DocKey × Entry). g (key_entry e)) (all_pairs settled recent)) top all
