-- The rows of a store stand together, and no other adds to their bytes.
use Rattle.std.proofs.Common.{◌≡◌, ℕ, zero, suc, ◌<◌, ◌≤◌, ◌+◌, ◌-◌, Bool, true, false, ◌&&◌, ◌||◌, List, [], ◌∷◌, length, take, drop, refl, ap, ◌∙◌, inl, inr, arith, get_or}
use Rattle.std.specs.Prelude.{◌==◌, nat_lt, sum_by, if◌then◌else◌}
use Rattle.std.specs.Global.{Box}
use Rattle.std.specs.Ordering.{is_gt}
use Rattle.std.specs.declared.cmp.Ordering.TheVariants.{Less}
use Rattle.std.proofs.lemmas.Bool.{eq-eqb}
use Rattle.std.proofs.lemmas.Bool.Decides.{nat_tests}
use Rattle.std.proofs.lemmas.List.Sums.{sum_by-cons}
use Rattle.std.proofs.lemmas.Option.{slice_get_cases}
use Rattle.forest_model.specs.declared.stored.KeyEntry.{KeyEntry}
use Rattle.forest_model.specs.Key.{key_cmp}
use Rattle.wal_index.specs.Live.{len_if_live, own_len, is_before_store}
use Rattle.wal_index.specs.Rows.{key_of, pair_of, held, AreSorted, IsBorder}
use Rattle.wal_index.proofs.NextEntry.{stores_rise, le_or_gt}
use Rattle.wal_index.proofs.Placed.{le_cases}
use Rattle.wal_index.proofs.Sorted.{rising}

-- ---- where they stand

before_too : (t : Bool) (store s r : ℕ) → s ≤ r → (nat_lt r store || (t && (r == store))) ≡ true → (nat_lt s store || (t && (s == store))) ≡ true
before_too true store s r l h = grind (arith, nat_tests)
before_too false store s r l h = grind (arith, nat_tests)

pub partitioned : (rows : List (Box KeyEntry)) → AreSorted rows → (through : Bool) (store i j : ℕ) (d : Box KeyEntry) → i ≤ j → j < length rows
    → is_before_store through store (key_of (get_or rows j d)) ≡ true → is_before_store through store (key_of (get_or rows i d)) ≡ true
partitioned rows sorted through store i j d l m h = elim (le_cases i j l) [
  | inl less ↦
      let a = key_of (get_or rows i d) in
      let b = key_of (get_or rows j d) in
      let lower : key_cmp a b ≡ Less = rising key_cmp pair_of rows sorted i j d less m in
      before_too through store a.store b.store (stores_rise a b (ap is_gt lower)) h
  | inr e ↦ ap (λ (k : ℕ). is_before_store through store (key_of (get_or rows k d))) e ∙ h
]

below_through : (store s : ℕ) → (nat_lt s store || (false && (s == store))) ≡ true → (nat_lt s store || (true && (s == store))) ≡ false → ⊥
below_through store s h g = grind (arith, nat_tests)

pub first_to_end : (rows : List (Box KeyEntry)) (store first end : ℕ) → IsBorder (is_before_store false store) rows first → IsBorder (is_before_store true store) rows end → first ≤ end
first_to_end rows store first end low high = elim (le_or_gt first end) [
  | inl l ↦ l
  | inr l ↦ elim (slice_get_cases rows end).1 [
    | inl here ↦ absurd (below_through store (get_or rows end here.0).value.store (low.before end here.0 l) (high.behind end here.0 (omega arith) here.1))
    | inr past ↦ absurd (let le : length rows ≤ end = past.0 in omega (arith, low.within))
  ]
]

-- ---- what they add

module _ {X : Type 0} (f g : X → ℕ) where
  -- of a list only the n elements from the place a on add, and add as g says
  sum_of_part : (xs : List X) (a n : ℕ) → ((j : ℕ) (d : X) → j < a → j < length xs → f (get_or xs j d) ≡ 0) → ((j : ℕ) (d : X) → a ≤ j → j < a + n → j < length xs → f (get_or xs j d) ≡ g (get_or xs j d))
      → ((j : ℕ) (d : X) → a + n ≤ j → j < length xs → f (get_or xs j d) ≡ 0) → sum_by f xs ≡ sum_by g (take n (drop a xs))
  sum_of_part [] zero zero before among behind = refl
  sum_of_part [] zero (suc n) before among behind = refl
  sum_of_part [] (suc a) zero before among behind = refl
  sum_of_part [] (suc a) (suc n) before among behind = refl
  sum_of_part (x ∷ xs) zero zero before among behind =
      omega (arith, sum_by-cons f x xs, behind 0 x (omega arith) (omega arith), sum_of_part xs zero zero (λ j d l m. absurd (omega arith)) (λ j d l m. absurd (omega arith)) (λ j d l m. behind (suc j) d (omega arith) (omega arith)))
  sum_of_part (x ∷ xs) zero (suc n) before among behind =
      omega (
        arith,
        sum_by-cons f x xs,
        sum_by-cons g x (take n xs),
        among 0 x (omega arith) (omega arith) (omega arith),
        sum_of_part xs zero n (λ j d l m. absurd (omega arith)) (λ j d l m o. among (suc j) d (omega arith) (omega arith) (omega arith)) (λ j d l m. behind (suc j) d (omega arith) (omega arith)),
      )
  sum_of_part (x ∷ xs) (suc a) n before among behind =
      omega (
        arith,
        sum_by-cons f x xs,
        before 0 x (omega arith) (omega arith),
        sum_of_part xs a n (λ j d l m. before (suc j) d (omega arith) (omega arith)) (λ j d l m o. among (suc j) d (omega arith) (omega arith) (omega arith)) (λ j d l m. behind (suc j) d (omega arith) (omega arith)),
      )

-- what is of no other store, and what is of another
own_of : (store s len : ℕ) → (nat_lt s store || (false && (s == store))) ≡ false → (nat_lt s store || (true && (s == store))) ≡ true → (if s == store then len else 0) ≡ len
own_of store s len h g =
    let same : s ≡ store = grind (arith, nat_tests) in
    ap (λ (b : Bool). if b then len else 0) (eq-eqb s store same)

low_of : (store s len : ℕ) → (nat_lt s store || (false && (s == store))) ≡ true → (if s == store then len else 0) ≡ 0
low_of store s len h =
    let other : (s == store) ≡ false = grind (arith, nat_tests) in
    ap (λ (b : Bool). if b then len else 0) other

high_of : (store s len : ℕ) → (nat_lt s store || (true && (s == store))) ≡ false → (if s == store then len else 0) ≡ 0
high_of store s len h =
    let other : (s == store) ≡ false = grind (arith, nat_tests) in
    ap (λ (b : Bool). if b then len else 0) other

held_sum : (store : ℕ) (rows : List (Box KeyEntry)) → sum_by (own_len store) (held rows) ≡ sum_by (λ r. own_len store r.value) rows
held_sum store [] = refl
held_sum store (r ∷ rows) = omega (arith, sum_by-cons (own_len store) r.value (held rows), sum_by-cons (λ (b : Box KeyEntry). own_len store b.value) r rows, held_sum store rows)

pub own_sum : (rows : List (Box KeyEntry)) (store first end : ℕ) → IsBorder (is_before_store false store) rows first → IsBorder (is_before_store true store) rows end
    → sum_by (own_len store) (held rows) ≡ sum_by (λ r. len_if_live r.value.entry) (take (end - first) (drop first rows))
own_sum rows store first end low high =
    let le : first ≤ end = first_to_end rows store first end low high in
    held_sum store rows
    ∙ sum_of_part (λ r. own_len store r.value) (λ r. len_if_live r.value.entry) rows first (end - first)
    (λ j d l m. low_of store (get_or rows j d).value.store (len_if_live (get_or rows j d).value.entry) (low.before j d l))
    (λ j d l m o. own_of store (get_or rows j d).value.store (len_if_live (get_or rows j d).value.entry) (low.behind j d l o) (high.before j d (omega arith)))
    (λ j d l m. high_of store (get_or rows j d).value.store (len_if_live (get_or rows j d).value.entry) (high.behind j d (omega arith) m))
