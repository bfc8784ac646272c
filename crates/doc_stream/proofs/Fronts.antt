-- Lists that begin with others, and what stands at a place of one.
use Rattle.std.proofs.Common.{◌≡◌, ◌≢◌, ◌⊎◌, ℕ, zero, suc, ◌≤◌, List, [], ◌∷◌, ◌++◌, length, take, drop, Some, slice_get, refl, sym, ◌∙◌, ap, subst, inl, inr, arith, length-append, append_assoc, take-append-drop, take_at}
use Rattle.std.proofs.lemmas.List.{append_cancel_left, take-append-le, nil_from_length}
use Rattle.std.proofs.lemmas.Option.{none-some, same_Some}
use Rattle.std.specs.List.{AllByRecursion}

module _ {X : Type 0} where
  pub cons≢nil : (x : X) (xs : List X) → x ∷ xs ≢ []
  cons≢nil x xs e = absurd (omega (arith, ap length e))

  pub cases_nil : (xs : List X) → (xs ≡ []) ⊎ (xs ≢ [])
  cases_nil [] = inl refl
  cases_nil (x ∷ xs) = inr (cons≢nil x xs)

  pub nil_front : (xs ys : List X) → xs ++ ys ≡ [] → xs ≡ []
  nil_front xs ys e = nil_from_length xs (omega (arith, length-append xs ys, ap length e))

  pub nil_rest : (xs ys : List X) → xs ++ ys ≡ [] → ys ≡ []
  nil_rest xs ys e = nil_from_length ys (omega (arith, length-append xs ys, ap length e))

  -- of two fronts of one list the longer begins with the shorter
  pub split_front : (a b c d : List X) → a ++ b ≡ c ++ d → length a ≤ length c → (rest : List X) × (c ≡ a ++ rest) × (b ≡ rest ++ d)
  split_front a b c d e le =
      let front : take (length a) c ≡ a = sym (take-append-le (length a) c d le) ∙ ap (take (length a)) (sym e) ∙ take_at a b (length a) refl in
      let whole : c ≡ a ++ drop (length a) c = sym (take-append-drop (length a) c) ∙ ap (λ (l : List X). l ++ drop (length a) c) front in
      (drop (length a) c, whole, append_cancel_left a b (drop (length a) c ++ d) (e ∙ ap (λ (l : List X). l ++ d) whole ∙ append_assoc a (drop (length a) c) d))

  pub got_still : (xs ys : List X) (n : ℕ) (x : X) → slice_get xs n ≡ Some x → slice_get (xs ++ ys) n ≡ Some x
  got_still [] ys n x e = absurd (none-some x e)
  got_still (y ∷ xs) ys zero x e = e
  got_still (y ∷ xs) ys (suc n) x e = got_still xs ys n x e

  got_first : (xs ys : List X) (y : X) → slice_get (xs ++ y ∷ ys) (length xs) ≡ Some y
  got_first [] ys y = refl
  got_first (x ∷ xs) ys y = got_first xs ys y

  pub got_at : (xs ys : List X) (y : X) (n : ℕ) → n ≡ length xs → slice_get (xs ++ y ∷ ys) n ≡ Some y
  got_at xs ys y n e = subst (λ (k : ℕ). slice_get (xs ++ y ∷ ys) k ≡ Some y) (sym e) (got_first xs ys y)

  -- what holds of each element
  pub got_holds : (P : X → Type 0) (xs : List X) (n : ℕ) (x : X) → AllByRecursion P xs → slice_get xs n ≡ Some x → P x
  got_holds P [] n x all e = absurd (none-some x e)
  got_holds P (y ∷ xs) zero x all e = subst P (same_Some y x e) all.0
  got_holds P (y ∷ xs) (suc n) x all e = got_holds P xs n x all.1 e

  pub all_weaker : (P Q : X → Type 0) → ((x : X) → P x → Q x) → (xs : List X) → AllByRecursion P xs → AllByRecursion Q xs
  all_weaker P Q h [] all = tt
  all_weaker P Q h (x ∷ xs) all = (h x all.0, all_weaker P Q h xs all.1)

  pub all_added : (P : X → Type 0) (xs : List X) (y : X) → AllByRecursion P xs → P y → AllByRecursion P (xs ++ y ∷ [])
  all_added P [] y all h = (h, tt)
  all_added P (x ∷ xs) y all h = (all.0, all_added P xs y all.1 h)
