-- Where a binary search finds a key.
use Rattle.std.proofs.Common.{◌≡◌, ℕ, zero, suc, ◌<◌, ◌≤◌, ◌+◌, T, List, length, map, refl, sym, ap, ◌∙◌, subst, arith, get_or, ◌⊎◌, inl, inr}
use Rattle.std.specs.Prelude.{Result, Ok, Err, IfOk, IfErr}
use Rattle.std.specs.Cmp.{IsTotalOrder, tied_back}
use Rattle.std.specs.FinMap as finite
use Rattle.std.specs.Global.{Box}
use Rattle.std.specs.List.Sorted.{IsBinarySearchResult, IsSearchInRange, IsNonDecreasingBy}
use Rattle.std.specs.Ordering.{is_lt, ordering_index}
use Rattle.std.specs.declared.cmp.Ordering.{Ordering}
use Rattle.std.specs.declared.cmp.Ordering.TheVariants.{Less}
use Rattle.std.proofs.lemmas.List.{get_or_default}
use Rattle.forest_model.specs.Key.{key_cmp}
use Rattle.forest_model.specs.declared.documents.DocKey.{DocKey}
use Rattle.forest_model.specs.declared.stored.KeyEntry.{KeyEntry}
use Rattle.wal_index.specs.Index.{key_at}
use Rattle.wal_index.specs.Places.{IsAt, IsGap}
use Rattle.wal_index.specs.Rows.{key_of}
use Rattle.wal_index.proofs.Sorted.{less, rising, below_too, turned_less, turned_greater, before_tied, behind_tied}

pub le_cases : (i j : ℕ) → i ≤ j → (i < j) ⊎ (i ≡ j)
le_cases zero zero l = inr refl
le_cases zero (suc j) l = inl (omega arith)
le_cases (suc i) zero l = absurd (omega arith)
le_cases (suc i) (suc j) l = elim (le_cases i j (omega arith)) [ inl h ↦ inl (omega arith) | inr e ↦ inr (ap suc e) ]

module _ {K X A : Type 0} {R : K → K → Ordering} (o : IsTotalOrder R) (f : A → K × X) where
  -- the answers of the search rise
  rises : (q : K) (xs : List A) → T (finite.is_sorted R (map f xs)) → IsNonDecreasingBy (λ y. ordering_index (R (f y).0 q)) xs
  rises q xs sorted i j d le within =
      elim (le_cases i j le) [
        | inl l ↦ below_too o _ _ q (rising R f xs sorted i j d l within) _ refl
        | inr e ↦ subst (λ n. ordering_index (R (f (get_or xs i d)).0 q) ≤ ordering_index (R (f (get_or xs n d)).0 q)) e (omega arith)
      ]

  pub placed_at : (q : K) (xs : List A) (r : Result ℕ ℕ) → T (finite.is_sorted R (map f xs)) → IsSearchInRange r (length xs) → IsBinarySearchResult (λ y. R (f y).0 q) xs r → IfOk r (λ i. IsAt R (λ a. (f a).0) q xs i)
  placed_at q xs (Ok i) sorted range found = record {
    within = range;
    here = λ d. tied_back o _ q (found d);
    around = record {
      before = λ j d l. before_tied o _ (f (get_or xs i d)).0 q (rising R f xs sorted j i d l range) (found d);
      behind = λ j d l m. behind_tied o _ (f (get_or xs i d)).0 q (rising R f xs sorted i j d (omega arith) m) (found d);
    };
  }
  placed_at q xs (Err i) sorted range found = tt

  pub placed_gap : (q : K) (xs : List A) (r : Result ℕ ℕ) → T (finite.is_sorted R (map f xs)) → IsSearchInRange r (length xs) → IsBinarySearchResult (λ y. R (f y).0 q) xs r → IfErr r (λ i. IsGap R (λ a. (f a).0) q xs i)
  placed_gap q xs (Ok i) sorted range found = tt
  placed_gap q xs (Err i) sorted range found =
      let parted = found (rises q xs sorted) in
      record {
        within = range;
        around = record {
          before = λ j d l. turned_less o _ q (parted.0 j d (omega arith) l);
          behind = λ j d l m. turned_greater o _ q (parted.1 j d l m);
        };
      }

  -- behind the last
  pub gap_behind : (q : K) (xs : List A) (at n : ℕ) (last : A) → T (finite.is_sorted R (map f xs)) → at + 1 ≡ length xs → n ≡ length xs → last ≡ get_or xs at last → T (is_lt (R (f last).0 q)) → IsGap R (λ a. (f a).0) q xs n
  gap_behind q xs at n last sorted len n_is is low = record {
    within = omega (arith, n_is);
    around = record {
      before = λ j d l. turned_less o _ q (elim (le_cases j at (omega (arith, len, n_is, l))) [
        | inl below ↦ o.trans _ (f last).0 q (subst (λ (z : A). R (f (get_or xs j d)).0 (f z).0 ≡ Less) (sym (is ∙ get_or_default xs at last d (omega (arith, len)))) (rising R f xs sorted j at d below (omega (arith, len)))) (less _ low)
        | inr same ↦ subst (λ n. R (f (get_or xs n d)).0 q ≡ Less) (sym same) (subst (λ (z : A). R (f z).0 q ≡ Less) (is ∙ get_or_default xs at last d (omega (arith, len))) (less _ low))
      ]);
      behind = λ j d l m. absurd (omega (arith, n_is, l, m));
    };
  }

-- ---- the place of a row's key, which was searched by copies of its parts

key_is : (row : Box KeyEntry) (v w : KeyEntry) (key : List ℕ) → v ≡ row.value → w ≡ row.value → key ≡ w.key → key_at v.store key ≡ key_of row
key_is row v w key v_is w_is is = ap (λ (r : KeyEntry). key_at r.store key) v_is ∙ ap (key_at row.value.store) (is ∙ ap (λ (r : KeyEntry). r.key) w_is)

pub row_at : (row : Box KeyEntry) (rows seen : List (Box KeyEntry)) (at : ℕ) (v w : KeyEntry) (key : List ℕ) → seen ≡ rows → v ≡ row.value → w ≡ row.value → key ≡ w.key
    → IsAt key_cmp key_of (key_at v.store key) seen at → IsAt key_cmp key_of (key_of row) rows at
row_at row rows seen at v w key seen_is v_is w_is is h =
    subst (λ (q : DocKey). IsAt key_cmp key_of q rows at) (key_is row v w key v_is w_is is) (subst (λ (rs : List (Box KeyEntry)). IsAt key_cmp key_of (key_at v.store key) rs at) seen_is h)

pub row_gap : (row : Box KeyEntry) (rows seen : List (Box KeyEntry)) (at : ℕ) (v w : KeyEntry) (key : List ℕ) → seen ≡ rows → v ≡ row.value → w ≡ row.value → key ≡ w.key
    → IsGap key_cmp key_of (key_at v.store key) seen at → IsGap key_cmp key_of (key_of row) rows at
row_gap row rows seen at v w key seen_is v_is w_is is h =
    subst (λ (q : DocKey). IsGap key_cmp key_of q rows at) (key_is row v w key v_is w_is is) (subst (λ (rs : List (Box KeyEntry)). IsGap key_cmp key_of (key_at v.store key) rs at) seen_is h)
