-- One turn of a merge: the settled rows behind the last recent one, and that one, are moved.
use Rattle.std.proofs.Common.{◌≡◌, ℕ, zero, suc, ◌<◌, ◌≤◌, ◌+◌, true, false, cond, T, List, [], ◌∷◌, ◌++◌, length, take, drop, map, refl, sym, ap, ◌∙◌, subst, arith, get_or}
use Rattle.std.proofs.lemmas.List.{map-append}
use Rattle.std.specs.Prelude.{Some, is_some, reverse}
use Rattle.std.specs.Cmp.{IsTotalOrder}
use Rattle.std.specs.FinMap as finite
use Rattle.std.specs.FinMap.Entries.{below_all}
use Rattle.std.specs.Global.{Box}
use Rattle.std.specs.Ordering.{is_eq}
use Rattle.std.specs.declared.cmp.Ordering.{Ordering}
use Rattle.std.specs.declared.cmp.Ordering.TheVariants.{Less}
use Rattle.forest_model.specs.Key.{key_cmp}
use Rattle.forest_model.specs.declared.documents.DocKey.{DocKey}
use Rattle.forest_model.specs.declared.stored.Entry.{Entry}
use Rattle.forest_model.specs.declared.stored.KeyEntry.{KeyEntry}
use Rattle.wal_index.specs.Merged.{merged, AreApart, AreRows, IsBelowLast, all_pairs}
use Rattle.wal_index.specs.Places.{IsAt, IsGap}
use Rattle.wal_index.specs.Rows.{key_of, pair_of, pairs}
use Rattle.wal_index.proofs.Merged.{found_last}
use Rattle.wal_index.proofs.MergedEnds.{above_front, merged_snoc, merged_before}
use Rattle.wal_index.proofs.MergedRows.{pairs_snoc, last_there, without_last, apart_without_last}
use Rattle.wal_index.proofs.Moved.{Moving, moving_on}
use Rattle.wal_index.proofs.Orders.{keys_total}
use Rattle.wal_index.proofs.Parts.{sorted_take}
use Rattle.wal_index.proofs.Sorted.{both, below, found_there, put_between}

module _ {K X A : Type 0} {R : K → K → Ordering} (o : IsTotalOrder R) (f : A → K × X) where
  below_from : (q : K) (xs : List A) → ((j : ℕ) (d : A) → j < length xs → R q (f (get_or xs j d)).0 ≡ Less) → T (below_all R q (map f xs))
  below_from q [] h = tt
  below_from q (a ∷ xs) h = both _ _ (below _ (h 0 a (omega arith))) (below_from q xs (λ j d l. h (suc j) d (omega arith)))

  below_drop : (q : K) (xs : List A) (n : ℕ) → ((j : ℕ) (d : A) → n ≤ j → j < length xs → R q (f (get_or xs j d)).0 ≡ Less) → T (below_all R q (map f (drop n xs)))
  below_drop q [] zero h = tt
  below_drop q [] (suc n) h = tt
  below_drop q (a ∷ xs) zero h = below_from q (a ∷ xs) (λ j d l. h j d (omega arith) l)
  below_drop q (a ∷ xs) (suc n) h = below_drop q xs n (λ j d l m. h (suc j) d (omega arith) (omega arith))

  -- ---- what the last of the second list parts

  merged_parted : (xs front : List A) (r : A) (n : ℕ) → IsGap R (λ a. (f a).0) (f r).0 xs n → T (finite.is_sorted R (map f front ++ f r ∷ []))
      → merged R (map f xs) (map f front ++ f r ∷ []) ≡ merged R (map f (take n xs)) (map f front) ++ map f (r ∷ drop n xs)
  merged_parted xs front r n gap sorted =
      merged_snoc o (map f xs) (map f front) (f r)
      ∙ ap (λ es. merged R es (map f front)) (sym (put_between R f r xs n gap.within gap.around.before gap.around.behind) ∙ map-append f (take n xs) (r ∷ drop n xs))
      ∙ merged_before o (map f (take n xs)) (map f (drop n xs)) (map f front) (f r) (above_front o (map f front) (f r) sorted) (below_drop (f r).0 xs n gap.around.behind)

  some_take : (q : K) (xs : List A) (n : ℕ) → is_some (finite.find R q (map f (take n xs))) ≡ true → is_some (finite.find R q (map f xs)) ≡ true
  some_take q [] zero h = cc
  some_take q [] (suc n) h = cc
  some_take q (a ∷ xs) zero h = cc
  some_take q (a ∷ xs) (suc n) h =
      elim (is_eq (R q (f a).0)) as (λ b. is_some (cond b (Some (f a).1) (finite.find R q (map f (take n xs)))) ≡ true → is_some (cond b (Some (f a).1) (finite.find R q (map f xs))) ≡ true) [
        | true ↦ λ _. refl
        | false ↦ some_take q xs n
      ] h

  apart_take : (xs : List A) (fs : List (K × X)) (n : ℕ) → AreApart R (map f xs) fs → AreApart R (map f (take n xs)) fs
  apart_take xs fs n apart q a b = apart q (some_take q xs n a) b

-- ---- where the last recent row belongs

last_row : (recent front : List (Box KeyEntry)) (last row : Box KeyEntry) (at : ℕ) → recent ≡ front ++ last ∷ [] → at + 1 ≡ length recent → row ≡ get_or recent at row → row ≡ last
last_row recent front last row at is len there = there ∙ last_there keys_total pair_of recent front last at row is len

-- it isn't settled
last_absent : (settled recent front : List (Box KeyEntry)) (last : Box KeyEntry) (at : ℕ) → AreRows settled recent → recent ≡ front ++ last ∷ [] → IsAt key_cmp key_of (key_of last) settled at → ⊥
last_absent settled recent front last at rows is h =
    rows.apart (key_of last) (found_there key_cmp pair_of (key_of last) settled at h.within h.here h.around.before)
    (subst (λ (es : List (DocKey × Entry)). is_some (finite.find key_cmp (key_of last) es) ≡ true) (sym (pairs_snoc keys_total pair_of recent front last is)) (found_last keys_total (pair_of last) (pairs front)))

pub below_last_at : (settled recent : List (Box KeyEntry)) (row : Box KeyEntry) (at n : ℕ) → AreRows settled recent → at + 1 ≡ length recent → row ≡ get_or recent at row → IsAt key_cmp key_of (key_of row) settled n → IsBelowLast settled recent n
below_last_at settled recent row at n rows len there h = record {
  within = omega (arith, h.within);
  parted = λ front last is. absurd (last_absent settled recent front last n rows is (subst (λ (r : Box KeyEntry). IsAt key_cmp key_of (key_of r) settled n) (last_row recent front last row at is len there) h));
}

pub below_last_gap : (settled recent : List (Box KeyEntry)) (row : Box KeyEntry) (at n : ℕ) → at + 1 ≡ length recent → row ≡ get_or recent at row → IsGap key_cmp key_of (key_of row) settled n → IsBelowLast settled recent n
below_last_gap settled recent row at n len there h = record {
  within = h.within;
  parted = λ front last is. subst (λ (r : Box KeyEntry). IsGap key_cmp key_of (key_of r) settled n) (last_row recent front last row at is len there) h;
}

-- ---- the turn

rows_before : (settled recent front : List (Box KeyEntry)) (last : Box KeyEntry) (n : ℕ) → AreRows settled recent → recent ≡ front ++ last ∷ [] → AreRows (take n settled) front
rows_before settled recent front last n rows is = record {
  first_sorted = sorted_take key_cmp pair_of settled n rows.first_sorted;
  second_sorted = without_last keys_total pair_of recent front last is rows.second_sorted;
  apart = apart_take keys_total pair_of settled (pairs front) n (apart_without_last keys_total pair_of (pairs settled) recent front last is rows.apart);
}

pairs_parted : (settled recent front : List (Box KeyEntry)) (last : Box KeyEntry) (n : ℕ) → AreRows settled recent → IsBelowLast settled recent n → recent ≡ front ++ last ∷ []
    → all_pairs settled recent ≡ all_pairs (take n settled) front ++ pairs (last ∷ drop n settled)
pairs_parted settled recent front last n rows place is =
    let recent_is : pairs recent ≡ pairs front ++ pair_of last ∷ [] = pairs_snoc keys_total pair_of recent front last is in
    ap (merged key_cmp (pairs settled)) recent_is
    ∙ merged_parted keys_total pair_of settled front last n (place.parted front last is) (subst (λ (es : List (DocKey × Entry)). T (finite.is_sorted key_cmp es)) recent_is rows.second_sorted)

pub parted_rows : (start : List (DocKey × Entry)) (settled recent moved left left_recent more most : List (Box KeyEntry)) (last : Box KeyEntry) (n : ℕ) → Moving start settled recent moved → IsBelowLast settled recent n
    → left ≡ take n settled → more ≡ moved ++ reverse (drop n settled) → recent ≡ left_recent ++ last ∷ [] → most ≡ more ++ last ∷ [] → Moving start left left_recent most
parted_rows start settled recent moved left left_recent more most last n moving place left_is more_is is most_is =
    subst (λ (rs : List (Box KeyEntry)). Moving start rs left_recent most) (sym left_is)
    (subst (λ (rs : List (Box KeyEntry)). Moving start (take n settled) left_recent rs) (sym (most_is ∙ ap (λ rs. rs ++ last ∷ []) more_is))
    (moving_on start settled recent moved (take n settled) left_recent (drop n settled) last moving (rows_before settled recent left_recent last n moving.rows is) (pairs_parted settled recent left_recent last n moving.rows place is)))
