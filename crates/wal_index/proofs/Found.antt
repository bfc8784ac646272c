-- The first entry, or the last, that passes a test.
use Rattle.std.proofs.Common.{◌≡◌, ℕ, zero, suc, ◌<◌, Bool, true, false, cond, List, [], ◌∷◌, length, map, refl, sym, ap, ◌∙◌, arith, get_or}
use Rattle.std.specs.Prelude.{Some, None, find, reverse}
use Rattle.std.specs.Option.{option_or}
use Rattle.std.proofs.lemmas.List.Folds.{find-append}
use Rattle.std.proofs.lemmas.Grind.{reverse_onto}

module _ {A X : Type 0} (f : A → X) (p : X → Bool) where
  pub first_at : (rs : List A) (i : ℕ) (r : A) → i < length rs → r ≡ get_or rs i r → p (f r) ≡ true → ((j : ℕ) (d : A) → j < i → p (f (get_or rs j d)) ≡ false) → find p (map f rs) ≡ Some (f r)
  first_at [] i r within is here before = absurd (omega arith)
  first_at (a ∷ rs) zero r within is here before = ap (λ b. cond (p (f b)) (Some (f b)) (find p (map f rs))) (sym is) ∙ ap (λ b. cond b (Some (f r)) (find p (map f rs))) here
  first_at (a ∷ rs) (suc i) r within is here before =
      ap (λ b. cond b (Some (f a)) (find p (map f rs))) (before 0 a (omega arith)) ∙ first_at rs i r (omega arith) is here (λ j d l. before (suc j) d (omega arith))

  pub no_first : (rs : List A) → ((j : ℕ) (d : A) → j < length rs → p (f (get_or rs j d)) ≡ false) → find p (map f rs) ≡ None
  no_first [] all = refl
  no_first (a ∷ rs) all = ap (λ b. cond b (Some (f a)) (find p (map f rs))) (all 0 a (omega arith)) ∙ no_first rs (λ j d l. all (suc j) d (omega arith))

  pub no_last : (rs : List A) → ((j : ℕ) (d : A) → j < length rs → p (f (get_or rs j d)) ≡ false) → find p (reverse (map f rs)) ≡ None
  no_last [] all = refl
  no_last (a ∷ rs) all =
      ap (find p) (reverse_onto (map f rs) (f a) [])
      ∙ find-append p (reverse (map f rs)) (f a ∷ [])
      ∙ ap (λ o. option_or o (find p (f a ∷ []))) (no_last rs (λ j d l. all (suc j) d (omega arith)))
      ∙ ap (λ b. cond b (Some (f a)) None) (all 0 a (omega arith))

  pub last_at : (rs : List A) (i : ℕ) (r : A) → i < length rs → r ≡ get_or rs i r → p (f r) ≡ true → ((j : ℕ) (d : A) → i < j → j < length rs → p (f (get_or rs j d)) ≡ false) → find p (reverse (map f rs)) ≡ Some (f r)
  last_at [] i r within is here behind = absurd (omega arith)
  last_at (a ∷ rs) zero r within is here behind =
      ap (find p) (reverse_onto (map f rs) (f a) [])
      ∙ find-append p (reverse (map f rs)) (f a ∷ [])
      ∙ ap (λ o. option_or o (find p (f a ∷ []))) (no_last rs (λ j d l. behind (suc j) d (omega arith) (omega arith)))
      ∙ ap (λ b. cond (p (f b)) (Some (f b)) None) (sym is)
      ∙ ap (λ b. cond b (Some (f r)) None) here
  last_at (a ∷ rs) (suc i) r within is here behind =
      ap (find p) (reverse_onto (map f rs) (f a) [])
      ∙ find-append p (reverse (map f rs)) (f a ∷ [])
      ∙ ap (λ o. option_or o (find p (f a ∷ []))) (last_at rs i r (omega arith) is here (λ j d l m. behind (suc j) d (omega arith) (omega arith)))
