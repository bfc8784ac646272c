-- The first and the last row of two lists of rows.
use Rattle.std.proofs.Common.{◌≡◌, ℕ, ◌<◌, ◌+◌, true, false, T, List, [], ◌∷◌, ◌++◌, length, map, refl, ap, ◌∙◌, subst, arith, get_or}
use Rattle.std.proofs.lemmas.List.{map-append, get_or_at, length-append}
use Rattle.std.specs.Cmp.{IsTotalOrder}
use Rattle.std.specs.FinMap as finite
use Rattle.std.specs.Ordering.{is_lt}
use Rattle.std.specs.declared.cmp.Ordering.{Ordering}
use Rattle.std.specs.declared.cmp.Ordering.TheVariants.{Less, Equal, Greater}
use Rattle.wal_index.specs.Merged.{merged, AreApart}
use Rattle.wal_index.proofs.Merged.{found_here, apart_front}
use Rattle.wal_index.proofs.MergedEnds.{front_first, front_second, below_more, sorted_front, not_tied}
use Rattle.wal_index.proofs.Sorted.{first, both, below, turned_greater}

lower : (r : Ordering) → true ≡ is_lt r → r ≡ Less
lower Less h = refl
lower Equal h = cc
lower Greater h = cc

higher : (r : Ordering) → false ≡ is_lt r → (r ≡ Equal → ⊥) → r ≡ Greater
higher Less h apart = cc
higher Equal h apart = absurd (apart refl)
higher Greater h apart = refl

module _ {K X A : Type 0} {R : K → K → Ordering} (o : IsTotalOrder R) (f : A → K × X) where
  -- ---- the first

  pub first_of_settled : (xs rest ys : List A) (r : A) → xs ≡ r ∷ rest → T (finite.is_sorted R (map f ys)) → (0 < length ys → (d : A) → true ≡ is_lt (R (f (get_or xs 0 d)).0 (f (get_or ys 0 d)).0)) → merged R (map f xs) (map f ys) ≡ f r ∷ merged R (map f rest) (map f ys)
  first_of_settled xs rest [] r is h low = ap (map f) is
  first_of_settled xs rest (y ∷ ys) r is h low =
      let less : R (f r).0 (f y).0 ≡ Less = lower _ (low (omega arith) y ∙ ap (λ zs. is_lt (R (f (get_or zs 0 y)).0 (f y).0)) is) in
      ap (λ zs. merged R (map f zs) (map f (y ∷ ys))) is
      ∙ front_first o (map f rest) (map f (y ∷ ys)) (f r) (both _ _ (below _ less) (below_more o (f r).0 (f y).0 (map f ys) less (first _ _ h)))

  pub first_of_recent : (xs ys rest : List A) (r : A) → ys ≡ r ∷ rest → T (finite.is_sorted R (map f xs)) → T (finite.is_sorted R (map f ys)) → AreApart R (map f xs) (map f ys) → (0 < length xs → (d : A) → false ≡ is_lt (R (f (get_or xs 0 d)).0 (f (get_or ys 0 d)).0))
      → merged R (map f xs) (map f ys) ≡ f r ∷ merged R (map f xs) (map f rest)
  first_of_recent [] ys rest r is g h apart low = ap (λ zs. merged R [] (map f zs)) is ∙ front_second o [] (map f rest) (f r) tt (first _ _ (subst (λ zs. T (finite.is_sorted R (map f zs))) is h))
  first_of_recent (x ∷ xs) ys rest r is g h apart low =
      let tie : R (f x).0 (f r).0 ≡ Equal → ⊥ = not_tied o (map f (x ∷ xs)) (f r ∷ map f rest) (f x).0 (f r).0 (subst (λ zs. AreApart R (map f (x ∷ xs)) (map f zs)) is apart) (found_here o (f x) (map f xs)) (found_here o (f r) (map f rest)) in
      let less = turned_greater o (f x).0 (f r).0 (higher _ (low (omega arith) x ∙ ap (λ zs. is_lt (R (f x).0 (f (get_or zs 0 x)).0)) is) tie) in
      ap (λ zs. merged R (map f (x ∷ xs)) (map f zs)) is
      ∙ front_second o (map f (x ∷ xs)) (map f rest) (f r) (both _ _ (below _ less) (below_more o (f r).0 (f x).0 (map f xs) less (first _ _ g))) (first _ _ (subst (λ zs. T (finite.is_sorted R (map f zs))) is h))

  -- ---- the last

  pub pairs_snoc : (xs front : List A) (r : A) → xs ≡ front ++ r ∷ [] → map f xs ≡ map f front ++ f r ∷ []
  pairs_snoc xs front r is = ap (map f) is ∙ map-append f front (r ∷ [])

  pub last_there : (xs front : List A) (r : A) (at : ℕ) (d : A) → xs ≡ front ++ r ∷ [] → at + 1 ≡ length xs → get_or xs at d ≡ r
  last_there xs front r at d is len = ap (λ zs. get_or zs at d) is ∙ get_or_at front r [] d at (omega (arith, len, ap length is, length-append front (r ∷ [])))

  pub without_last : (xs front : List A) (r : A) → xs ≡ front ++ r ∷ [] → T (finite.is_sorted R (map f xs)) → T (finite.is_sorted R (map f front))
  without_last xs front r is h = sorted_front o (map f front) (f r) (subst (λ zs. T (finite.is_sorted R zs)) (pairs_snoc xs front r is) h)

  pub apart_without_last : (es : List (K × X)) (xs front : List A) (r : A) → xs ≡ front ++ r ∷ [] → AreApart R es (map f xs) → AreApart R es (map f front)
  apart_without_last es xs front r is apart = apart_front o es (map f front) (f r) (subst (λ zs. AreApart R es zs) (pairs_snoc xs front r is) apart)
