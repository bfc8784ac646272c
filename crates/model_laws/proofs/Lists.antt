-- What holds of each element, and of each and each later one, after a change of the list.
use Rattle.std.proofs.Common.{◌≡◌, ◌≤◌, Bool, true, false, cond, List, [], ◌∷◌, ◌++◌, map, length, Some, None, refl, sym, ap, subst, arith}
use Rattle.std.specs.List.{AllByRecursion, filter, find}
use Rattle.std.proofs.lemmas.Option.{same_Some, none-some}
use Rattle.forest_model.specs.State.{EachLater}

module _ {X : Type 0} where
  pub all_weaker : (P Q : X → Type 0) → ((x : X) → P x → Q x) → (xs : List X) → AllByRecursion P xs → AllByRecursion Q xs
  all_weaker P Q h [] a = tt
  all_weaker P Q h (x ∷ xs) a = (h x a.0, all_weaker P Q h xs a.1)

  pub all_both : (P Q : X → Type 0) (xs : List X) → AllByRecursion P xs → AllByRecursion Q xs → AllByRecursion (λ x. P x × Q x) xs
  all_both P Q [] a b = tt
  all_both P Q (x ∷ xs) a b = ((a.0, b.0), all_both P Q xs a.1 b.1)

  pub all_mapped : (P Q : X → Type 0) (f : X → X) → ((x : X) → P x → Q (f x)) → (xs : List X) → AllByRecursion P xs → AllByRecursion Q (map f xs)
  all_mapped P Q f h [] a = tt
  all_mapped P Q f h (x ∷ xs) a = (h x a.0, all_mapped P Q f h xs a.1)

  pub all_added : (P : X → Type 0) (xs : List X) (y : X) → AllByRecursion P xs → P y → AllByRecursion P (xs ++ y ∷ [])
  all_added P [] y a h = (h, tt)
  all_added P (x ∷ xs) y a h = (a.0, all_added P xs y a.1 h)

  pub all_filtered : (P : X → Type 0) (p : X → Bool) (xs : List X) → AllByRecursion P xs → AllByRecursion P (filter p xs)
  all_filtered P p [] a = tt
  all_filtered P p (x ∷ xs) a = by (p x) (all_filtered P p xs a.1)
    where
      by : (b : Bool) → AllByRecursion P (filter p xs) → AllByRecursion P (cond b (x ∷ filter p xs) (filter p xs))
      by true h = (a.0, h)
      by false h = h

  pub later_mapped : (R : X → X → Type 0) (f : X → X) → ((x y : X) → R x y → R (f x) (f y)) → (xs : List X) → EachLater R xs → EachLater R (map f xs)
  later_mapped R f h [] a = tt
  later_mapped R f h (x ∷ xs) a = (all_mapped (R x) (R (f x)) f (h x) xs a.0, later_mapped R f h xs a.1)

  pub later_added : (R : X → X → Type 0) (xs : List X) (y : X) → EachLater R xs → AllByRecursion (λ x. R x y) xs → EachLater R (xs ++ y ∷ [])
  later_added R [] y a h = (tt, tt)
  later_added R (x ∷ xs) y a h = (all_added (R x) xs y a.0 h.0, later_added R xs y a.1 h.1)

  pub later_filtered : (R : X → X → Type 0) (p : X → Bool) (xs : List X) → EachLater R xs → EachLater R (filter p xs)
  later_filtered R p [] a = tt
  later_filtered R p (x ∷ xs) a = by (p x) (later_filtered R p xs a.1)
    where
      by : (b : Bool) → EachLater R (filter p xs) → EachLater R (cond b (x ∷ filter p xs) (filter p xs))
      by true h = (all_filtered (R x) p xs a.0, h)
      by false h = h

  -- of those behind a front
  pub all_behind : (P : X → Type 0) (front xs : List X) → AllByRecursion P (front ++ xs) → AllByRecursion P xs
  all_behind P [] xs a = a
  all_behind P (x ∷ front) xs a = all_behind P front xs a.1

  pub later_behind : (R : X → X → Type 0) (front xs : List X) → EachLater R (front ++ xs) → EachLater R xs
  later_behind R [] xs a = a
  later_behind R (x ∷ front) xs a = later_behind R front xs a.1

  pub no_longer : (p : X → Bool) (xs : List X) → length (filter p xs) ≤ length xs
  no_longer p [] = omega arith
  no_longer p (x ∷ xs) = by (p x) (no_longer p xs)
    where
      by : (b : Bool) → length (filter p xs) ≤ length xs → length (cond b (x ∷ filter p xs) (filter p xs)) ≤ length (x ∷ xs)
      by true h = omega arith
      by false h = omega arith

  -- what is found passes, and what holds of each holds of it
  pub found_passes : (p : X → Bool) (xs : List X) (y : X) → find p xs ≡ Some y → p y ≡ true
  found_passes p [] y e = absurd (none-some y e)
  found_passes p (x ∷ xs) y e = by (p x) refl e (found_passes p xs y)
    where
      by : (b : Bool) → p x ≡ b → cond b (Some x) (find p xs) ≡ Some y → (find p xs ≡ Some y → p y ≡ true) → p y ≡ true
      by true t f later = subst (λ z. p z ≡ true) (same_Some x y f) t
      by false t f later = later f

  pub found_has : (P : X → Type 0) (p : X → Bool) (xs : List X) (y : X) → AllByRecursion P xs → find p xs ≡ Some y → P y
  found_has P p [] y a e = absurd (none-some y e)
  found_has P p (x ∷ xs) y a e = by (p x) e (found_has P p xs y a.1)
    where
      by : (b : Bool) → cond b (Some x) (find p xs) ≡ Some y → (find p xs ≡ Some y → P y) → P y
      by true f later = subst P (same_Some x y f) a.0
      by false f later = later f

  pub none_passes : (p : X → Bool) (xs : List X) → find p xs ≡ None → AllByRecursion (λ x. p x ≡ false) xs
  none_passes p [] e = tt
  none_passes p (x ∷ xs) e = by (p x) refl e (none_passes p xs)
    where
      by : (b : Bool) → p x ≡ b → cond b (Some x) (find p xs) ≡ None → (find p xs ≡ None → AllByRecursion (λ x. p x ≡ false) xs) → (p x ≡ false) × AllByRecursion (λ x. p x ≡ false) xs
      by true t f later = absurd (none-some x (sym f))
      by false t f later = (t, later f)

  -- what is found has a front in which none passes
  pub record IsFirst (p : X → Bool) (xs : List X) (y : X) : Type 0 where
    pub front : List X
    pub back : List X
    pub among : xs ≡ front ++ y ∷ back
    pub none : AllByRecursion (λ x. p x ≡ false) front

  pub found_first : (p : X → Bool) (xs : List X) (y : X) → find p xs ≡ Some y → IsFirst p xs y
  found_first p [] y e = absurd (none-some y e)
  found_first p (x ∷ xs) y e = by (p x) refl e (found_first p xs y)
    where
      by : (b : Bool) → p x ≡ b → cond b (Some x) (find p xs) ≡ Some y → (find p xs ≡ Some y → IsFirst p xs y) → IsFirst p (x ∷ xs) y
      by true t f later = record { front = []; back = xs; among = ap (λ z. z ∷ xs) (same_Some x y f); none = tt }
      by false t f later = let h = later f in record { front = x ∷ h.front; back = h.back; among = ap (λ l. x ∷ l) h.among; none = (t, h.none) }
