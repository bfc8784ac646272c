-- Lemmas on lists of plain data: sums over passes, elements at an index, and what holds of all elements.
use Rattle.std.proofs.Common.{◌≡◌, ◌≢◌, ℕ, zero, suc, ◌+◌, ◌<◌, ◌≤◌, Bool, true, false, cond, List, [], ◌∷◌, ◌++◌, map, length, get_or, drop, set, sym, refl, ap, ◌∙◌, subst, ◌⊎◌, inl, inr, ⊎_elim, arith, append_assoc}
use Rattle.std.specs.Prelude.{Some, slice_get, sum_by, Contains, filter}
use Rattle.std.specs.List.{AllByRecursion, flat_map}
use Rattle.std.proofs.lemmas.List.Sums.{sum_by-set, sum_by-append, sum_by-cons}
use mathlib.Core.Option.{some, some-injective, some-ne-none}
use lib.ListN.{get_elem?}
use Rattle.atomic_table.proofs.Lists.{at_set, at_snoc}

module _ {A : Type 0} where
  pub at_within : (l : List A) (i : ℕ) (a : A) → get_elem? l i ≡ some a → i < length l
  at_within [] i a e = absurd (some-ne-none a (sym e))
  at_within (x ∷ xs) zero a e = omega arith
  at_within (x ∷ xs) (suc i) a e = let h = at_within xs i a e in omega arith

  pub at_or : (l : List A) (i : ℕ) (a : A) → get_elem? l i ≡ some a → get_or l i a ≡ a
  at_or [] i a e = refl
  at_or (x ∷ xs) zero a e = some-injective x a e
  at_or (x ∷ xs) (suc i) a e = at_or xs i a e

  -- the sum after a change of one element
  pub sum_set : (f : A → ℕ) (l : List A) (i : ℕ) (a b : A) → get_elem? l i ≡ some a → sum_by f (set l i b) + f a ≡ sum_by f l + f b
  sum_set f l i a b e = subst (λ (z : A). sum_by f (set l i b) + f z ≡ sum_by f l + f b) (at_or l i a e) (sum_by-set f l i b a (at_within l i a e))

  pub sum_snoc : (f : A → ℕ) (l : List A) (a : A) → sum_by f (l ++ a ∷ []) ≡ sum_by f l + f a
  sum_snoc f l a = let h : sum_by f (l ++ a ∷ []) ≡ sum_by f l + (0 + f a) = sum_by-append f l (a ∷ []) in omega arith

  -- one element counts for no more than all
  pub at_most_sum : (f : A → ℕ) (l : List A) (i : ℕ) (a : A) → get_elem? l i ≡ some a → f a ≤ sum_by f l
  at_most_sum f [] i a e = absurd (some-ne-none a (sym e))
  at_most_sum f (x ∷ xs) zero a e = subst (λ (z : A). f z ≤ sum_by f (x ∷ xs)) (some-injective x a e) (let h = sum_by-cons f x xs in omega arith)
  at_most_sum f (x ∷ xs) (suc i) a e = let h = sum_by-cons f x xs in let k = at_most_sum f xs i a e in omega arith

  pub sum_nothing : (f : A → ℕ) (l : List A) → ((i : ℕ) (a : A) → get_elem? l i ≡ some a → f a ≡ 0) → sum_by f l ≡ 0
  sum_nothing f [] none = refl
  sum_nothing f (x ∷ xs) none = let h = sum_by-cons f x xs in let k = none 0 x refl in let t = sum_nothing f xs (λ i a e. none (suc i) a e) in omega arith

  -- where all others count for nothing, the one counts for all
  pub sum_alone : (f : A → ℕ) (l : List A) (i : ℕ) (a : A) → get_elem? l i ≡ some a → ((j : ℕ) (b : A) → j ≢ i → get_elem? l j ≡ some b → f b ≡ 0) → sum_by f l ≡ f a
  sum_alone f [] i a e others = absurd (some-ne-none a (sym e))
  sum_alone f (x ∷ xs) zero a e others =
      let h = sum_by-cons f x xs in let t = sum_nothing f xs (λ i b at. others (suc i) b (λ z. omega arith) at) in let s : f x ≡ f a = ap f (some-injective x a e) in omega arith
  sum_alone f (x ∷ xs) (suc i) a e others =
      let h = sum_by-cons f x xs in let k = others 0 x (λ z. omega arith) refl in let t = sum_alone f xs i a e (λ j b n at. others (suc j) b (λ z. n (omega arith)) at) in omega arith

  -- two elements count for no more than all
  pub others_nothing : (f : A → ℕ) (l : List A) (i : ℕ) (a : A) → get_elem? l i ≡ some a → sum_by f l ≡ f a → (j : ℕ) (b : A) → j ≢ i → get_elem? l j ≡ some b → f b ≡ 0
  others_nothing f [] i a e s j b n at = absurd (some-ne-none a (sym e))
  others_nothing f (x ∷ xs) zero a e s zero b n at = absurd (n refl)
  others_nothing f (x ∷ xs) zero a e s (suc j) b n at =
      let h = sum_by-cons f x xs in let k = at_most_sum f xs j b at in let q : f x ≡ f a = ap f (some-injective x a e) in omega arith
  others_nothing f (x ∷ xs) (suc i) a e s zero b n at =
      let h = sum_by-cons f x xs in let k = at_most_sum f xs i a e in let q : f x ≡ f b = ap f (some-injective x b at) in omega arith
  others_nothing f (x ∷ xs) (suc i) a e s (suc j) b n at =
      let h = sum_by-cons f x xs in let k = at_most_sum f xs i a e in others_nothing f xs i a e (omega arith) j b (λ z. n (ap suc z)) at

  -- what holds of all after a change of one
  pub each_set : (P : ℕ → A → Type 0) (l : List A) (i : ℕ) (b : A) → P i b → ((j : ℕ) (a : A) → get_elem? l j ≡ some a → P j a) → (j : ℕ) (a : A) → get_elem? (set l i b) j ≡ some a → P j a
  each_set P l i b mine others j a at =
      ⊎_elim (λ (t : (j ≡ i) × (b ≡ a)). subst (λ (z : ℕ × A). P z.0 z.1) (λ k. (sym t.0 k, t.1 k)) mine) (λ (t : (j ≢ i) × (get_elem? l j ≡ some a)). others j a t.1) (at_set l i j b a at)

  pub each_snoc : (P : A → Type 0) (l : List A) (b : A) → P b → ((j : ℕ) (a : A) → get_elem? l j ≡ some a → P a) → (j : ℕ) (a : A) → get_elem? (l ++ b ∷ []) j ≡ some a → P a
  each_snoc P l b mine others j a at = ⊎_elim (λ (e : get_elem? l j ≡ some a). others j a e) (λ (e : b ≡ a). subst P e mine) (at_snoc l b a j at)

  pub all_append : (P : A → Type 0) (xs ys : List A) → AllByRecursion P xs → AllByRecursion P ys → AllByRecursion P (xs ++ ys)
  all_append P [] ys h k = k
  all_append P (x ∷ xs) ys h k = (h.0, all_append P xs ys h.1 k)

  pub all_first : (P : A → Type 0) (xs ys : List A) → AllByRecursion P (xs ++ ys) → AllByRecursion P xs
  all_first P [] ys h = tt
  all_first P (x ∷ xs) ys h = (h.0, all_first P xs ys h.1)

  pub all_second : (P : A → Type 0) (xs ys : List A) → AllByRecursion P (xs ++ ys) → AllByRecursion P ys
  all_second P [] ys h = h
  all_second P (x ∷ xs) ys h = all_second P xs ys h.1

  pub all_map : (P Q : A → Type 0) → ((a : A) → P a → Q a) → (xs : List A) → AllByRecursion P xs → AllByRecursion Q xs
  all_map P Q f [] h = tt
  all_map P Q f (x ∷ xs) h = (f x h.0, all_map P Q f xs h.1)

  pub flat_append : {B : Type 0} (f : B → List A) (xs ys : List B) → flat_map f (xs ++ ys) ≡ flat_map f xs ++ flat_map f ys
  flat_append f [] ys = refl
  flat_append f (x ∷ xs) ys = ap (λ (z : List A). f x ++ z) (flat_append f xs ys) ∙ sym (append_assoc (f x) (flat_map f xs) (flat_map f ys))

  pub get_longer : (l m : List A) (i : ℕ) (a : A) → slice_get l i ≡ Some a → slice_get (l ++ m) i ≡ Some a
  get_longer [] m i a e = cc
  get_longer (x ∷ xs) m zero a e = e
  get_longer (x ∷ xs) m (suc i) a e = get_longer xs m i a e

  pub get_last : (l : List A) (a : A) (n : ℕ) → n ≡ length l → slice_get (l ++ a ∷ []) n ≡ Some a
  get_last [] a zero e = refl
  get_last [] a (suc n) e = absurd (omega arith)
  get_last (x ∷ xs) a zero e = absurd (omega arith)
  get_last (x ∷ xs) a (suc n) e = get_last xs a n (omega arith)

  pub drop_last : (l : List A) (a : A) (n : ℕ) → n ≡ length l → drop n (l ++ a ∷ []) ≡ a ∷ []
  drop_last [] a zero e = refl
  drop_last [] a (suc n) e = absurd (omega arith)
  drop_last (x ∷ xs) a zero e = absurd (omega arith)
  drop_last (x ∷ xs) a (suc n) e = drop_last xs a n (omega arith)

  -- an element of a list stands in each part of it that begins no later
  pub in_drop : {B : Type 0} (f : A → B) (l : List A) (k n : ℕ) (a : A) → slice_get l k ≡ Some a → n ≤ k → Contains (map f (drop n l)) (f a)
  in_drop f [] k n a e h = cc
  in_drop f (x ∷ xs) zero zero a e h = (0, omega arith, (let q : x ≡ a = cc in ap f q))
  in_drop f (x ∷ xs) zero (suc n) a e h = absurd (omega arith)
  in_drop f (x ∷ xs) (suc k) zero a e h = let t = in_drop f xs k 0 a e (omega arith) in (suc t.0, (let q = t.1 in omega arith), t.2)
  in_drop f (x ∷ xs) (suc k) (suc n) a e h = in_drop f xs k n a e (omega arith)

  pub drop_snoc : {B : Type 0} (f : A → B) (l : List A) (a : A) (n : ℕ) → n ≤ length l → map f (drop n (l ++ a ∷ [])) ≡ map f (drop n l) ++ f a ∷ []
  drop_snoc f [] a zero h = refl
  drop_snoc f [] a (suc n) h = absurd (omega arith)
  drop_snoc f (x ∷ xs) a zero h = ap (λ z. f x ∷ z) (drop_snoc f xs a 0 (omega arith))
  drop_snoc f (x ∷ xs) a (suc n) h = drop_snoc f xs a n (omega arith)

  pub map_snoc : {B : Type 0} (f : A → B) (l : List A) (a : A) → map f (l ++ a ∷ []) ≡ map f l ++ f a ∷ []
  map_snoc f [] a = refl
  map_snoc f (x ∷ xs) a = ap (λ z. f x ∷ z) (map_snoc f xs a)

  pub in_first : (xs ys : List A) (a : A) → Contains xs a → Contains (xs ++ ys) a
  in_first [] ys a (k, lt, e) = absurd (omega arith)
  in_first (x ∷ xs) ys a (zero, lt, e) = (0, omega arith, e)
  in_first (x ∷ xs) ys a (suc k, lt, e) = let t = in_first xs ys a (k, omega arith, e) in (suc t.0, (let q = t.1 in omega arith), t.2)

  pub in_second : (xs ys : List A) (a : A) → Contains ys a → Contains (xs ++ ys) a
  in_second [] ys a h = h
  in_second (x ∷ xs) ys a h = let t = in_second xs ys a h in (suc t.0, (let q = t.1 in omega arith), t.2)

  pub in_pair : (a b : A) (long : List A) → Contains long a → Contains long b → (d : A) → Contains (a ∷ b ∷ []) d → Contains long d
  in_pair a b long ha hb d (zero, lt, e) = subst (Contains long) e ha
  in_pair a b long ha hb d (suc zero, lt, e) = subst (Contains long) e hb
  in_pair a b long ha hb d (suc (suc k), lt, e) = absurd (omega arith)

  filtered : (b : Bool) (x : A) (xs ys zs : List A) → length zs ≡ length xs + length ys → length (cond b (x ∷ zs) zs) ≡ length (cond b (x ∷ xs) xs) + length ys
  filtered true x xs ys zs h = omega arith
  filtered false x xs ys zs h = h

  pub filter_append : (p : A → Bool) (xs ys : List A) → length (filter p (xs ++ ys)) ≡ length (filter p xs) + length (filter p ys)
  filter_append p [] ys = omega arith
  filter_append p (x ∷ xs) ys = filtered (p x) x (filter p xs) (filter p ys) (filter p (xs ++ ys)) (filter_append p xs ys)

pub le_split : (a b : ℕ) → a ≤ b → (a < b) ⊎ (a ≡ b)
le_split zero zero h = inr refl
le_split zero (suc b) h = inl (omega arith)
le_split (suc a) zero h = absurd (omega arith)
le_split (suc a) (suc b) h = ⊎_elim (λ t. inl (omega arith)) (λ t. inr (ap suc t)) (le_split a b (omega arith))
