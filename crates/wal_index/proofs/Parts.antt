-- Where a search in a part of a list finds a key, outside of which it isn't.
use Rattle.std.proofs.Common.{◌≡◌, ℕ, zero, suc, ◌<◌, ◌≤◌, ◌+◌, ◌-◌, true, T, List, [], ◌∷◌, length, take, drop, map, refl, sym, ap, ◌∙◌, arith, get_or, inl, inr}
use Rattle.std.specs.Cmp.{IsTotalOrder}
use Rattle.std.specs.FinMap as finite
use Rattle.std.specs.FinMap.Entries.{below_all}
use Rattle.std.specs.Ordering.{is_lt, is_gt}
use Rattle.std.specs.declared.cmp.Ordering.{Ordering}
use Rattle.std.specs.declared.cmp.Ordering.TheVariants.{Less, Equal, Greater}
use Rattle.std.proofs.lemmas.List.{get_or-take, get_or-drop, length-take, length-drop}
use Rattle.wal_index.specs.Places.{IsAt, IsGap, IsBetween}
use Rattle.wal_index.proofs.NextEntry.{le_or_gt}
use Rattle.wal_index.proofs.Placed.{le_cases}
use Rattle.wal_index.proofs.Sorted.{first, second, both, rising, turned_less, turned_greater}

pub lower : (r : Ordering) → is_lt r ≡ true → r ≡ Less
lower Less h = refl
lower Equal h = cc
lower Greater h = cc

pub higher : (r : Ordering) → is_gt r ≡ true → r ≡ Greater
higher Less h = cc
higher Equal h = cc
higher Greater h = refl

same_at : {A : Type 0} → (xs : List A) (i : ℕ) (d e : A) → i < length xs → get_or xs i d ≡ get_or xs i e
same_at [] i d e l = absurd (omega arith)
same_at (x ∷ xs) zero d e l = refl
same_at (x ∷ xs) (suc i) d e l = same_at xs i d e (omega arith)

module _ {K X A : Type 0} (R : K → K → Ordering) (f : A → K × X) where
  below_take : (x : K) (xs : List A) (n : ℕ) → T (below_all R x (map f xs)) → T (below_all R x (map f (take n xs)))
  below_take x [] zero h = tt
  below_take x [] (suc n) h = tt
  below_take x (a ∷ xs) zero h = tt
  below_take x (a ∷ xs) (suc n) h = both _ _ (first _ _ h) (below_take x xs n (second _ _ h))

  pub sorted_take : (xs : List A) (n : ℕ) → T (finite.is_sorted R (map f xs)) → T (finite.is_sorted R (map f (take n xs)))
  sorted_take [] zero h = tt
  sorted_take [] (suc n) h = tt
  sorted_take (a ∷ xs) zero h = tt
  sorted_take (a ∷ xs) (suc n) h = both _ _ (below_take (f a).0 xs n (first _ _ h)) (sorted_take xs n (second _ _ h))

  sorted_drop : (xs : List A) (n : ℕ) → T (finite.is_sorted R (map f xs)) → T (finite.is_sorted R (map f (drop n xs)))
  sorted_drop [] zero h = tt
  sorted_drop [] (suc n) h = tt
  sorted_drop (a ∷ xs) zero h = h
  sorted_drop (a ∷ xs) (suc n) h = sorted_drop xs n (second _ _ h)

  pub sorted_part : (xs : List A) (low n : ℕ) → T (finite.is_sorted R (map f xs)) → T (finite.is_sorted R (map f (take n (drop low xs))))
  sorted_part xs low n h = sorted_take (drop low xs) n (sorted_drop xs low h)

module _ {K X A : Type 0} {R : K → K → Ordering} (o : IsTotalOrder R) (f : A → K × X) where
  -- ---- what the last row before a place tells of those before it, and the first one of those behind

  pub all_behind : (q : K) (xs : List A) (low at : ℕ) (v : A) → T (finite.is_sorted R (map f xs)) → low ≡ at + 1 → at < length xs → v ≡ get_or xs at v → R (f v).0 q ≡ Less → IsBetween R (λ a. (f a).0) q xs low (length xs)
  all_behind q xs low at v sorted place within is less = record {
    before = λ j d l.
        let here : R (f (get_or xs at d)).0 q ≡ Less = ap (λ x. R (f x).0 q) (same_at xs at d v within ∙ sym is) ∙ less in
        turned_less o _ q (elim (le_cases j at (omega arith)) [
          | inl lower ↦ o.trans _ _ q (rising R f xs sorted j at d lower within) here
          | inr e ↦ ap (λ n. R (f (get_or xs n d)).0 q) e ∙ here
        ]);
    behind = λ j d l m. absurd (omega arith);
  }

  pub all_before : (q : K) (xs : List A) (high : ℕ) (v : A) → T (finite.is_sorted R (map f xs)) → high < length xs → v ≡ get_or xs high v → R (f v).0 q ≡ Greater → IsBetween R (λ a. (f a).0) q xs 0 high
  all_before q xs high v sorted within is greater = record {
    before = λ j d l. absurd (omega arith);
    behind = λ j d l m.
        let here : R q (f (get_or xs high d)).0 ≡ Less = turned_greater o _ q (ap (λ x. R (f x).0 q) (same_at xs high d v within ∙ sym is) ∙ greater) in
        elim (le_cases high j l) [
          | inl lower ↦ o.trans q _ _ here (rising R f xs sorted high j d lower m)
          | inr e ↦ ap (λ n. R q (f (get_or xs n d)).0) (sym e) ∙ here
        ];
  }

  -- ---- a place in the part is one in the whole

  module _ (q : K) (xs : List A) (low high : ℕ) (part : low ≤ high) (within : high ≤ length xs) (behind : IsBetween R (λ a. (f a).0) q xs low (length xs)) (before : IsBetween R (λ a. (f a).0) q xs 0 high) where
    at_part : (k : ℕ) (d : A) → k < high - low → get_or (take (high - low) (drop low xs)) k d ≡ get_or xs (low + k) d
    at_part k d l = get_or-take (high - low) (drop low xs) k d l ∙ get_or-drop low xs k d

    part_len : length (take (high - low) (drop low xs)) ≡ high - low
    part_len = omega (arith, length-take (high - low) (drop low xs), length-drop low xs)

    in_part : (j : ℕ) (d : A) → low ≤ j → j < high → get_or xs j d ≡ get_or (take (high - low) (drop low xs)) (j - low) d
    in_part j d l m =
        let e : j ≡ low + (j - low) = omega arith in
        ap (λ n. get_or xs n d) e ∙ sym (at_part (j - low) d (omega arith))

    part_before : (a : ℕ) → a ≤ high - low → ((k : ℕ) (d : A) → k < a → R q (f (get_or (take (high - low) (drop low xs)) k d)).0 ≡ Greater) → (j : ℕ) (d : A) → j < low + a → R q (f (get_or xs j d)).0 ≡ Greater
    part_before a fits there j d l = elim (le_or_gt low j) [
      | inl le ↦ ap (λ x. R q (f x).0) (in_part j d le (omega arith)) ∙ there (j - low) d (omega arith)
      | inr lt ↦ behind.before j d lt
    ]

    part_behind : (b : ℕ) → ((k : ℕ) (d : A) → b ≤ k → k < length (take (high - low) (drop low xs)) → R q (f (get_or (take (high - low) (drop low xs)) k d)).0 ≡ Less) → (j : ℕ) (d : A) → low + b ≤ j → j < length xs → R q (f (get_or xs j d)).0 ≡ Less
    part_behind b there j d l m = elim (le_or_gt high j) [
      | inl le ↦ before.behind j d le m
      | inr lt ↦ ap (λ x. R q (f x).0) (in_part j d (omega arith) lt) ∙ there (j - low) d (omega arith) (omega (arith, part_len))
    ]

    pub whole_at : (i : ℕ) → IsAt R (λ a. (f a).0) q (take (high - low) (drop low xs)) i → IsAt R (λ a. (f a).0) q xs (low + i)
    whole_at i h =
        let fits : i < high - low = omega (arith, h.within, part_len) in
        record {
          within = omega arith;
          here = λ d. ap (λ x. R q (f x).0) (sym (at_part i d fits)) ∙ h.here d;
          around = record {
            before = part_before i (omega arith) h.around.before;
            behind = λ j d l m. part_behind (i + 1) h.around.behind j d (omega arith) m;
          };
        }

    pub whole_gap : (i : ℕ) → IsGap R (λ a. (f a).0) q (take (high - low) (drop low xs)) i → IsGap R (λ a. (f a).0) q xs (low + i)
    whole_gap i h =
        let fits : i ≤ high - low = omega (arith, h.within, part_len) in
        record {
          within = omega arith;
          around = record {
            before = part_before i fits h.around.before;
            behind = part_behind i h.around.behind;
          };
        }
