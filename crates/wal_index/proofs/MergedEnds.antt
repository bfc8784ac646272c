-- The first and the last of two lists of entries in order, seen as one.
use Rattle.std.proofs.Common.{◌≡◌, ◌⊎◌, inl, inr, Bool, true, false, cond, ◌&&◌, T, List, [], ◌∷◌, ◌++◌, filter, refl, sym, ap, ◌∙◌, subst}
use Rattle.std.specs.Prelude.{Option, Some, None, is_some, find, reverse, if◌then◌else◌}
use Rattle.std.specs.Option.{option_or}
use Rattle.std.specs.Cmp.{IsTotalOrder}
use Rattle.std.specs.FinMap as finite
use Rattle.std.specs.FinMap.Entries.{by_order, below_all, where_key, is_sorted-where_key, find_tied}
use Rattle.std.specs.Ordering.{is_lt, is_gt}
use Rattle.std.specs.declared.cmp.Ordering.{Ordering}
use Rattle.std.specs.declared.cmp.Ordering.TheVariants.{Less, Equal, Greater}
use Rattle.std.proofs.lemmas.List.{reverse-append}
use Rattle.std.proofs.lemmas.List.Folds.{find-append}
use Rattle.std.proofs.lemmas.Grind.{reverse_onto}
use Rattle.wal_index.specs.Merged.{merged, AreApart, nearer}
use Rattle.wal_index.proofs.Merged.{filter_merged, apart_where, found_here, found_last}
use Rattle.wal_index.proofs.Sorted.{first, second, both, less, below, turned_less, turned_greater}

-- the keys of all these are lower
abbrev pub above_all : {K X : Type 0} → (K → K → Ordering) → K → List (K × X) → Bool
above_all R x [] = true
above_all R x (e ∷ es) = is_lt (R e.0 x) && above_all R x es

module _ {K X : Type 0} {R : K → K → Ordering} (o : IsTotalOrder R) where
  -- ---- the first

  put_front : (f : K × X) (es : List (K × X)) → T (below_all R f.0 es) → finite.put R f.0 f.1 es ≡ f ∷ es
  put_front f [] h = refl
  put_front f (e ∷ es) h = ap (λ r. by_order r (f ∷ e ∷ es) ((e.0, f.1) ∷ es) (e ∷ finite.put R f.0 f.1 es)) (less _ (first _ _ h))

  below_put : (x k : K) (v : X) (es : List (K × X)) → T (is_lt (R x k)) → T (below_all R x es) → T (below_all R x (finite.put R k v es))
  below_put x k v [] p h = both _ _ p tt
  below_put x k v (e ∷ es) p h =
      elim (R k e.0) as (λ r. T (below_all R x (by_order r ((k, v) ∷ e ∷ es) ((e.0, v) ∷ es) (e ∷ finite.put R k v es)))) [
        | Less ↦ both _ _ p h
        | Equal ↦ h
        | Greater ↦ both _ _ (first _ _ h) (below_put x k v es p (second _ _ h))
      ]

  below_merged : (x : K) (es fs : List (K × X)) → T (below_all R x es) → T (below_all R x fs) → T (below_all R x (merged R es fs))
  below_merged x es [] g h = g
  below_merged x es (f ∷ fs) g h = below_put x f.0 f.1 (merged R es fs) (first _ _ h) (below_merged x es fs g (second _ _ h))

  pub below_more : (x y : K) (es : List (K × X)) → R x y ≡ Less → T (below_all R y es) → T (below_all R x es)
  below_more x y [] l h = tt
  below_more x y (e ∷ es) l h = both _ _ (below _ (o.trans x y e.0 l (less _ (first _ _ h)))) (below_more x y es l (second _ _ h))

  pub front_second : (es fs : List (K × X)) (f : K × X) → T (below_all R f.0 es) → T (below_all R f.0 fs) → merged R es (f ∷ fs) ≡ f ∷ merged R es fs
  front_second es fs f g h = put_front f (merged R es fs) (below_merged f.0 es fs g h)

  pub front_first : (es fs : List (K × X)) (e : K × X) → T (below_all R e.0 fs) → merged R (e ∷ es) fs ≡ e ∷ merged R es fs
  front_first es [] e h = refl
  front_first es (f ∷ fs) e h =
      ap (finite.put R f.0 f.1) (front_first es fs e (second _ _ h))
      ∙ ap (λ r. by_order r (f ∷ e ∷ merged R es fs) ((e.0, f.1) ∷ merged R es fs) (e ∷ finite.put R f.0 f.1 (merged R es fs))) (turned_less o e.0 f.0 (less _ (first _ _ h)))

  -- ---- the last

  put_back : (f : K × X) (es : List (K × X)) → T (above_all R f.0 es) → finite.put R f.0 f.1 es ≡ es ++ f ∷ []
  put_back f [] h = refl
  put_back f (e ∷ es) h =
      ap (λ r. by_order r (f ∷ e ∷ es) ((e.0, f.1) ∷ es) (e ∷ finite.put R f.0 f.1 es)) (turned_less o e.0 f.0 (less _ (first _ _ h)))
      ∙ ap (λ xs. e ∷ xs) (put_back f es (second _ _ h))

  put_before : (g : K × X) (es hs : List (K × X)) → T (below_all R g.0 hs) → finite.put R g.0 g.1 (es ++ hs) ≡ finite.put R g.0 g.1 es ++ hs
  put_before g [] hs h = put_front g hs h
  put_before g (x ∷ es) hs h =
      elim (R g.0 x.0) as (λ r. by_order r (g ∷ x ∷ (es ++ hs)) ((x.0, g.1) ∷ (es ++ hs)) (x ∷ finite.put R g.0 g.1 (es ++ hs)) ≡ by_order r (g ∷ x ∷ es) ((x.0, g.1) ∷ es) (x ∷ finite.put R g.0 g.1 es) ++ hs) [
        | Less ↦ refl
        | Equal ↦ refl
        | Greater ↦ ap (λ xs. x ∷ xs) (put_before g es hs h)
      ]

  pub merged_snoc : (es fs : List (K × X)) (f : K × X) → merged R es (fs ++ f ∷ []) ≡ merged R (finite.put R f.0 f.1 es) fs
  merged_snoc es [] f = refl
  merged_snoc es (g ∷ fs) f = ap (finite.put R g.0 g.1) (merged_snoc es fs f)

  -- those from e on stay behind
  pub merged_before : (es hs fs : List (K × X)) (e : K × X) → T (above_all R e.0 fs) → T (below_all R e.0 hs) → merged R (es ++ e ∷ hs) fs ≡ merged R es fs ++ e ∷ hs
  merged_before es hs [] e g h = refl
  merged_before es hs (f ∷ fs) e g h =
      ap (finite.put R f.0 f.1) (merged_before es hs fs e (second _ _ g) h)
      ∙ put_before f (merged R es fs) (e ∷ hs) (both _ _ (first _ _ g) (below_more f.0 e.0 hs (less _ (first _ _ g)) h))

  pub back_first : (es fs : List (K × X)) (e : K × X) → T (above_all R e.0 fs) → merged R (es ++ e ∷ []) fs ≡ merged R es fs ++ e ∷ []
  back_first es fs e h = merged_before es [] fs e h tt

  pub back_second : (es fs : List (K × X)) (f : K × X) → T (above_all R f.0 es) → T (above_all R f.0 fs) → merged R es (fs ++ f ∷ []) ≡ merged R es fs ++ f ∷ []
  back_second es fs f g h = merged_snoc es fs f ∙ ap (λ xs. merged R xs fs) (put_back f es g) ∙ back_first es fs f h

  -- ---- order without the last

  below_front : (x : K) (es : List (K × X)) (e : K × X) → T (below_all R x (es ++ e ∷ [])) → T (below_all R x es)
  below_front x [] e h = tt
  below_front x (y ∷ es) e h = both _ _ (first _ _ h) (below_front x es e (second _ _ h))

  below_last : (x : K) (es : List (K × X)) (e : K × X) → T (below_all R x (es ++ e ∷ [])) → T (is_lt (R x e.0))
  below_last x [] e h = first _ _ h
  below_last x (y ∷ es) e h = below_last x es e (second _ _ h)

  pub sorted_front : (es : List (K × X)) (e : K × X) → T (finite.is_sorted R (es ++ e ∷ [])) → T (finite.is_sorted R es)
  sorted_front [] e h = tt
  sorted_front (x ∷ es) e h = both _ _ (below_front x.0 es e (first _ _ h)) (sorted_front es e (second _ _ h))

  pub above_front : (es : List (K × X)) (e : K × X) → T (finite.is_sorted R (es ++ e ∷ [])) → T (above_all R e.0 es)
  above_front [] e h = tt
  above_front (x ∷ es) e h = both _ _ (below_last x.0 es e (first _ _ h)) (above_front es e (second _ _ h))

  pub above_more : (x y : K) (es : List (K × X)) → R y x ≡ Less → T (above_all R y es) → T (above_all R x es)
  above_more x y [] l h = tt
  above_more x y (e ∷ es) l h = both _ _ (below _ (o.trans e.0 y x (less _ (first _ _ h)) l)) (above_more x y es l (second _ _ h))

  pub above_last : (x : K) (es : List (K × X)) (e : K × X) → R e.0 x ≡ Less → T (above_all R x es) → T (above_all R x (es ++ e ∷ []))
  above_last x [] e l h = both _ _ (below _ l) tt
  above_last x (y ∷ es) e l h = both _ _ (first _ _ h) (above_last x es e l (second _ _ h))

  -- ---- which is the first, and which the last

  pub not_tied : (es fs : List (K × X)) (a b : K) → AreApart R es fs → is_some (finite.find R a es) ≡ true → is_some (finite.find R b fs) ≡ true → R a b ≡ Equal → ⊥
  not_tied es fs a b apart x y t = apart b (ap is_some (find_tied R o a b t es) ∙ x) y

pub snoc_cases : {X : Type 0} (xs : List X) → (xs ≡ []) ⊎ ((ys : List X) × (y : X) × (xs ≡ ys ++ y ∷ []))
snoc_cases [] = inl refl
snoc_cases (x ∷ xs) = elim (snoc_cases xs) [
  | inl e ↦ inr ([], x, ap (λ zs. x ∷ zs) e)
  | inr s ↦ inr (x ∷ s.0, s.1, ap (λ zs. x ∷ zs) s.2)
]

-- the first of all
abbrev pub head : {X : Type 0} → List X → Option X
head = find (λ _. true)

last_is : {X : Type 0} (ys : List X) (y : X) → head (reverse (ys ++ y ∷ [])) ≡ Some y
last_is ys y = ap head (reverse-append ys (y ∷ []))

module _ {K X : Type 0} {R : K → K → Ordering} (o : IsTotalOrder R) where
  merged_head : (es fs : List (K × X)) → T (finite.is_sorted R es) → T (finite.is_sorted R fs) → AreApart R es fs → head (merged R es fs) ≡ nearer R true (head es) (head fs)
  merged_head [] [] g h apart = refl
  merged_head (e ∷ es) [] g h apart = refl
  merged_head [] (f ∷ fs) g h apart = ap head (front_second o [] fs f tt (first _ _ h))
  merged_head (e ∷ es) (f ∷ fs) g h apart =
      elim (R e.0 f.0) as (λ r. R e.0 f.0 ≡ r → head (merged R (e ∷ es) (f ∷ fs)) ≡ cond (is_lt r) (Some e) (Some f)) [
        | Less ↦ λ l. ap head (front_first o es (f ∷ fs) e (both _ _ (below _ l) (below_more o e.0 f.0 fs l (first _ _ h))))
        | Equal ↦ λ t. absurd (not_tied o (e ∷ es) (f ∷ fs) e.0 f.0 apart (found_here o e es) (found_here o f fs) t)
        | Greater ↦ λ l.
            let m = turned_greater o e.0 f.0 l in
            ap head (front_second o (e ∷ es) fs f (both _ _ (below _ m) (below_more o f.0 e.0 es m (first _ _ g))) (first _ _ h))
      ] refl

  last_both : (es fs : List (K × X)) (e f : K × X) → T (finite.is_sorted R (es ++ e ∷ [])) → T (finite.is_sorted R (fs ++ f ∷ [])) → AreApart R (es ++ e ∷ []) (fs ++ f ∷ [])
      → head (reverse (merged R (es ++ e ∷ []) (fs ++ f ∷ []))) ≡ nearer R false (Some e) (Some f)
  last_both es fs e f g h apart =
      elim (R e.0 f.0) as (λ r. R e.0 f.0 ≡ r → head (reverse (merged R (es ++ e ∷ []) (fs ++ f ∷ []))) ≡ cond (is_gt r) (Some e) (Some f)) [
        | Less ↦ λ l.
            ap (λ xs. head (reverse xs)) (back_second o (es ++ e ∷ []) fs f (above_last o f.0 es e l (above_more o f.0 e.0 es l (above_front o es e g))) (above_front o fs f h))
            ∙ last_is (merged R (es ++ e ∷ []) fs) f
        | Equal ↦ λ t. absurd (not_tied o (es ++ e ∷ []) (fs ++ f ∷ []) e.0 f.0 apart (found_last o e es) (found_last o f fs) t)
        | Greater ↦ λ l.
            let m = turned_greater o e.0 f.0 l in
            ap (λ xs. head (reverse xs)) (back_first o es (fs ++ f ∷ []) e (above_last o e.0 fs f m (above_more o e.0 f.0 fs m (above_front o fs f h))))
            ∙ last_is (merged R es (fs ++ f ∷ [])) e
      ] refl

  merged_last : (es fs : List (K × X)) → T (finite.is_sorted R es) → T (finite.is_sorted R fs) → AreApart R es fs → head (reverse (merged R es fs)) ≡ nearer R false (head (reverse es)) (head (reverse fs))
  merged_last es fs g h apart = elim (snoc_cases es) [
    | inl none ↦ elim (snoc_cases fs) [
      | inl no_other ↦ ap (λ xs. head (reverse (merged R xs fs))) none ∙ ap (λ xs. head (reverse (merged R [] xs))) no_other ∙ sym (ap (λ xs. nearer R false (head (reverse xs)) (head (reverse fs))) none ∙ ap (λ xs. nearer R false None (head (reverse xs))) no_other)
      | inr s ↦
          ap (λ xs. head (reverse (merged R xs fs))) none ∙ ap (λ xs. head (reverse (merged R [] xs))) s.2
          ∙ ap (λ xs. head (reverse xs)) (back_second o [] s.0 s.1 tt (above_front o s.0 s.1 (subst (λ xs. T (finite.is_sorted R xs)) s.2 h)))
          ∙ last_is (merged R [] s.0) s.1
          ∙ sym (ap (λ xs. nearer R false (head (reverse xs)) (head (reverse fs))) none ∙ ap (λ xs. nearer R false None (head (reverse xs))) s.2 ∙ ap (nearer R false None) (last_is s.0 s.1))
    ]
    | inr t ↦ elim (snoc_cases fs) [
      | inl no_other ↦
          ap (λ xs. head (reverse (merged R es xs))) no_other ∙ ap (λ xs. head (reverse xs)) t.2 ∙ last_is t.0 t.1
          ∙ sym (ap (λ xs. nearer R false (head (reverse es)) (head (reverse xs))) no_other ∙ ap (λ xs. nearer R false (head (reverse xs)) None) t.2 ∙ ap (λ a. nearer R false a None) (last_is t.0 t.1))
      | inr s ↦
          ap (λ xs. head (reverse (merged R xs fs))) t.2 ∙ ap (λ xs. head (reverse (merged R (t.0 ++ t.1 ∷ []) xs))) s.2
          ∙ last_both t.0 s.0 t.1 s.1 (subst (λ xs. T (finite.is_sorted R xs)) t.2 g) (subst (λ xs. T (finite.is_sorted R xs)) s.2 h) (subst (λ xs. AreApart R xs (s.0 ++ s.1 ∷ [])) t.2 (subst (λ xs. AreApart R es xs) s.2 apart))
          ∙ sym (ap (λ xs. nearer R false (head (reverse xs)) (head (reverse fs))) t.2 ∙ ap (λ xs. nearer R false (head (reverse (t.0 ++ t.1 ∷ []))) (head (reverse xs))) s.2 ∙ ap (λ a. nearer R false a (head (reverse (s.0 ++ s.1 ∷ [])))) (last_is t.0 t.1) ∙ ap (nearer R false (Some t.1)) (last_is s.0 s.1))
    ]
  ]

-- ---- the first and the last that pass a test

module _ {X : Type 0} (p : X → Bool) where
  find_head : (xs : List X) → find p xs ≡ head (filter p xs)
  find_head [] = refl
  find_head (x ∷ xs) = elim (p x) as (λ b. cond b (Some x) (find p xs) ≡ head (cond b (x ∷ filter p xs) (filter p xs))) [ true ↦ refl | false ↦ find_head xs ]

  or_none : (x : Option X) → option_or x None ≡ x
  or_none None = refl
  or_none (Some v) = refl

  find_last : (xs : List X) → find p (reverse xs) ≡ head (reverse (filter p xs))
  find_last [] = refl
  find_last (x ∷ xs) =
      ap (find p) (reverse_onto xs x [])
      ∙ find-append p (reverse xs) (x ∷ [])
      ∙ ap (λ r. option_or r (find p (x ∷ []))) (find_last xs)
      ∙ elim (p x) as (λ b. option_or (head (reverse (filter p xs))) (cond b (Some x) None) ≡ head (reverse (cond b (x ∷ filter p xs) (filter p xs)))) [
        | true ↦ sym (ap head (reverse_onto (filter p xs) x []) ∙ find-append (λ _. true) (reverse (filter p xs)) (x ∷ []))
        | false ↦ or_none (head (reverse (filter p xs)))
      ]

module _ {K X : Type 0} {R : K → K → Ordering} (o : IsTotalOrder R) (exact : (x y : K) → R x y ≡ Equal → x ≡ y) (p : K → Bool) where
  pub nearest_merged : (up : Bool) (es fs : List (K × X)) → T (finite.is_sorted R es) → T (finite.is_sorted R fs) → AreApart R es fs
      → find (λ e. p e.0) (if up then merged R es fs else reverse (merged R es fs)) ≡ nearer R up (find (λ e. p e.0) (if up then es else reverse es)) (find (λ e. p e.0) (if up then fs else reverse fs))
  nearest_merged true es fs g h apart =
      find_head (λ e. p e.0) (merged R es fs)
      ∙ ap head (sym (filter_merged o exact p es fs g))
      ∙ merged_head o (where_key R p es) (where_key R p fs) (is_sorted-where_key R p es g) (is_sorted-where_key R p fs h) (apart_where o p exact es fs apart)
      ∙ ap (λ a. nearer R true a (head (where_key R p fs))) (sym (find_head (λ e. p e.0) es))
      ∙ ap (nearer R true (find (λ e. p e.0) es)) (sym (find_head (λ e. p e.0) fs))
  nearest_merged false es fs g h apart =
      find_last (λ e. p e.0) (merged R es fs)
      ∙ ap (λ xs. head (reverse xs)) (sym (filter_merged o exact p es fs g))
      ∙ merged_last o (where_key R p es) (where_key R p fs) (is_sorted-where_key R p es g) (is_sorted-where_key R p fs h) (apart_where o p exact es fs apart)
      ∙ ap (λ a. nearer R false a (head (reverse (where_key R p fs)))) (sym (find_last (λ e. p e.0) es))
      ∙ ap (nearer R false (find (λ e. p e.0) (reverse es))) (sym (find_last (λ e. p e.0) fs))
