-- Lists whose keys rise: what stands where, and what a new entry does.
use Rattle.std.proofs.Common.{◌≡◌, ℕ, zero, suc, ◌<◌, ◌≤◌, ◌+◌, Bool, true, false, cond, ◌&&◌, T, List, [], ◌∷◌, ◌++◌, length, take, drop, map, filter, refl, sym, ap, ◌∙◌, subst, arith, get_or}
use Rattle.std.proofs.Math.ListN.{set}
use Rattle.std.specs.Prelude.{Some, None, is_some, not}
use Rattle.std.specs.Cmp.{IsTotalOrder, alike_right, tied_back}
use Rattle.std.specs.FinMap as finite
use Rattle.std.specs.FinMap.Entries.{by_order, below_all}
use Rattle.std.specs.Ordering.{is_lt, is_eq, ordering_index, ordering_reverse}
use Rattle.std.specs.declared.cmp.Ordering.{Ordering}
use Rattle.std.specs.declared.cmp.Ordering.TheVariants.{Less, Equal, Greater}

pub first : (a b : Bool) → T (a && b) → T a
first true b p = tt
first false b p = p

pub second : (a b : Bool) → T (a && b) → T b
second true b p = p
second false b p = absurd p

pub both : (a b : Bool) → T a → T b → T (a && b)
both true b p q = q
both false b p q = p

pub less : (o : Ordering) → T (is_lt o) → o ≡ Less
less Less p = refl
less Equal p = absurd p
less Greater p = absurd p

pub below : (o : Ordering) → o ≡ Less → T (is_lt o)
below o is = subst (λ r. T (is_lt r)) (sym is) tt

module _ {K X A : Type 0} (R : K → K → Ordering) (f : A → K × X) where
  -- ---- what stands where

  pub found_at : (q : K) (rs : List A) (i : ℕ) (r : A) → i < length rs → ((d : A) → R q (f (get_or rs i d)).0 ≡ Equal) → ((j : ℕ) (d : A) → j < i → R q (f (get_or rs j d)).0 ≡ Greater)
      → r ≡ get_or rs i r → finite.find R q (map f rs) ≡ Some (f r).1
  found_at q [] i r within here before is = absurd (omega arith)
  found_at q (a ∷ rs) zero r within here before is =
      ap (λ o. cond (is_eq o) (Some (f a).1) (finite.find R q (map f rs))) (here a) ∙ ap (λ b. Some (f b).1) (sym is)
  found_at q (a ∷ rs) (suc i) r within here before is =
      ap (λ o. cond (is_eq o) (Some (f a).1) (finite.find R q (map f rs))) (before 0 a (omega arith))
      ∙ found_at q rs i r (omega arith) here (λ j d l. before (suc j) d (omega arith)) is

  pub found_there : (q : K) (rs : List A) (i : ℕ) → i < length rs → ((d : A) → R q (f (get_or rs i d)).0 ≡ Equal) → ((j : ℕ) (d : A) → j < i → R q (f (get_or rs j d)).0 ≡ Greater)
      → is_some (finite.find R q (map f rs)) ≡ true
  found_there q [] i within here before = absurd (omega arith)
  found_there q (a ∷ rs) zero within here before = ap (λ o. is_some (cond (is_eq o) (Some (f a).1) (finite.find R q (map f rs)))) (here a)
  found_there q (a ∷ rs) (suc i) within here before =
      ap (λ o. is_some (cond (is_eq o) (Some (f a).1) (finite.find R q (map f rs)))) (before 0 a (omega arith))
      ∙ found_there q rs i (omega arith) here (λ j d l. before (suc j) d (omega arith))

  pub found_nowhere : (q : K) (rs : List A) (i : ℕ) → ((j : ℕ) (d : A) → j < i → R q (f (get_or rs j d)).0 ≡ Greater) → ((j : ℕ) (d : A) → i ≤ j → j < length rs → R q (f (get_or rs j d)).0 ≡ Less)
      → finite.find R q (map f rs) ≡ None
  found_nowhere q [] i before behind = refl
  found_nowhere q (a ∷ rs) zero before behind =
      ap (λ o. cond (is_eq o) (Some (f a).1) (finite.find R q (map f rs))) (behind 0 a (omega arith) (omega arith))
      ∙ found_nowhere q rs zero (λ j d l. absurd (omega arith)) (λ j d l m. behind (suc j) d (omega arith) (omega arith))
  found_nowhere q (a ∷ rs) (suc i) before behind =
      ap (λ o. cond (is_eq o) (Some (f a).1) (finite.find R q (map f rs))) (before 0 a (omega arith))
      ∙ found_nowhere q rs i (λ j d l. before (suc j) d (omega arith)) (λ j d l m. behind (suc j) d (omega arith) (omega arith))

  -- ---- a new entry

  pub put_between : (r : A) (rs : List A) (i : ℕ) → i ≤ length rs → ((j : ℕ) (d : A) → j < i → R (f r).0 (f (get_or rs j d)).0 ≡ Greater)
      → ((j : ℕ) (d : A) → i ≤ j → j < length rs → R (f r).0 (f (get_or rs j d)).0 ≡ Less) → map f (take i rs ++ r ∷ drop i rs) ≡ finite.put R (f r).0 (f r).1 (map f rs)
  put_between r [] zero within before behind = refl
  put_between r [] (suc i) within before behind = absurd (omega arith)
  put_between r (a ∷ rs) zero within before behind =
      ap (λ o. by_order o (f r ∷ f a ∷ map f rs) (((f a).0, (f r).1) ∷ map f rs) (f a ∷ finite.put R (f r).0 (f r).1 (map f rs))) (sym (behind 0 a (omega arith) (omega arith)))
  put_between r (a ∷ rs) (suc i) within before behind =
      ap (λ xs. f a ∷ xs) (put_between r rs i (omega arith) (λ j d l. before (suc j) d (omega arith)) (λ j d l m. behind (suc j) d (omega arith) (omega arith)))
      ∙ ap (λ o. by_order o (f r ∷ f a ∷ map f rs) (((f a).0, (f r).1) ∷ map f rs) (f a ∷ finite.put R (f r).0 (f r).1 (map f rs))) (sym (before 0 a (omega arith)))

  pub put_over : ((x y : K) → R x y ≡ Equal → x ≡ y) → (r : A) (rs : List A) (i : ℕ) → i < length rs → ((d : A) → R (f r).0 (f (get_or rs i d)).0 ≡ Equal)
      → ((j : ℕ) (d : A) → j < i → R (f r).0 (f (get_or rs j d)).0 ≡ Greater) → map f (set rs i r) ≡ finite.put R (f r).0 (f r).1 (map f rs)
  put_over exact r [] i within here before = absurd (omega arith)
  put_over exact r (a ∷ rs) zero within here before =
      ap (λ (k : K). (k, (f r).1) ∷ map f rs) (exact (f r).0 (f a).0 (here a))
      ∙ ap (λ o. by_order o (f r ∷ f a ∷ map f rs) (((f a).0, (f r).1) ∷ map f rs) (f a ∷ finite.put R (f r).0 (f r).1 (map f rs))) (sym (here a))
  put_over exact r (a ∷ rs) (suc i) within here before =
      ap (λ xs. f a ∷ xs) (put_over exact r rs i (omega arith) here (λ j d l. before (suc j) d (omega arith)))
      ∙ ap (λ o. by_order o (f r ∷ f a ∷ map f rs) (((f a).0, (f r).1) ∷ map f rs) (f a ∷ finite.put R (f r).0 (f r).1 (map f rs))) (sym (before 0 a (omega arith)))

  -- ---- without an entry

  pub kept_between : (q : K) (rs : List A) (i : ℕ) → ((j : ℕ) (d : A) → j < i → R q (f (get_or rs j d)).0 ≡ Greater) → ((j : ℕ) (d : A) → i ≤ j → j < length rs → R q (f (get_or rs j d)).0 ≡ Less)
      → map f rs ≡ filter (λ e. not (is_eq (R q e.0))) (map f rs)
  kept_between q [] i before behind = refl
  kept_between q (a ∷ rs) zero before behind =
      ap (λ xs. f a ∷ xs) (kept_between q rs zero (λ j d l. absurd (omega arith)) (λ j d l m. behind (suc j) d (omega arith) (omega arith)))
      ∙ ap (λ o. cond (not (is_eq o)) (f a ∷ filter (λ e. not (is_eq (R q e.0))) (map f rs)) (filter (λ e. not (is_eq (R q e.0))) (map f rs))) (sym (behind 0 a (omega arith) (omega arith)))
  kept_between q (a ∷ rs) (suc i) before behind =
      ap (λ xs. f a ∷ xs) (kept_between q rs i (λ j d l. before (suc j) d (omega arith)) (λ j d l m. behind (suc j) d (omega arith) (omega arith)))
      ∙ ap (λ o. cond (not (is_eq o)) (f a ∷ filter (λ e. not (is_eq (R q e.0))) (map f rs)) (filter (λ e. not (is_eq (R q e.0))) (map f rs))) (sym (before 0 a (omega arith)))

  pub removed_at : (q : K) (rs : List A) (i : ℕ) → i < length rs → ((d : A) → R q (f (get_or rs i d)).0 ≡ Equal) → ((j : ℕ) (d : A) → j < i → R q (f (get_or rs j d)).0 ≡ Greater)
      → ((j : ℕ) (d : A) → i + 1 ≤ j → j < length rs → R q (f (get_or rs j d)).0 ≡ Less) → map f (take i rs ++ drop (suc i) rs) ≡ filter (λ e. not (is_eq (R q e.0))) (map f rs)
  removed_at q [] i within here before behind = absurd (omega arith)
  removed_at q (a ∷ rs) zero within here before behind =
      kept_between q rs zero (λ j d l. absurd (omega arith)) (λ j d l m. behind (suc j) d (omega arith) (omega arith))
      ∙ ap (λ o. cond (not (is_eq o)) (f a ∷ filter (λ e. not (is_eq (R q e.0))) (map f rs)) (filter (λ e. not (is_eq (R q e.0))) (map f rs))) (sym (here a))
  removed_at q (a ∷ rs) (suc i) within here before behind =
      ap (λ xs. f a ∷ xs) (removed_at q rs i (omega arith) here (λ j d l. before (suc j) d (omega arith)) (λ j d l m. behind (suc j) d (omega arith) (omega arith)))
      ∙ ap (λ o. cond (not (is_eq o)) (f a ∷ filter (λ e. not (is_eq (R q e.0))) (map f rs)) (filter (λ e. not (is_eq (R q e.0))) (map f rs))) (sym (before 0 a (omega arith)))

  -- ---- order

  below_at : (x : K) (rs : List A) → T (below_all R x (map f rs)) → (j : ℕ) (d : A) → j < length rs → R x (f (get_or rs j d)).0 ≡ Less
  below_at x [] below j d within = absurd (omega arith)
  below_at x (a ∷ rs) below zero d within = less _ (first _ _ below)
  below_at x (a ∷ rs) below (suc j) d within = below_at x rs (second _ _ below) j d (omega arith)

  pub rising : (rs : List A) → T (finite.is_sorted R (map f rs)) → (i j : ℕ) (d : A) → i < j → j < length rs → R (f (get_or rs i d)).0 (f (get_or rs j d)).0 ≡ Less
  rising [] sorted i j d l m = absurd (omega arith)
  rising (a ∷ rs) sorted zero zero d l m = absurd (omega arith)
  rising (a ∷ rs) sorted zero (suc j) d l m = below_at (f a).0 rs (first _ _ sorted) j d (omega arith)
  rising (a ∷ rs) sorted (suc i) zero d l m = absurd (omega arith)
  rising (a ∷ rs) sorted (suc i) (suc j) d l m = rising rs (second _ _ sorted) i j d (omega arith) (omega arith)

-- ---- an order around q

module _ {K : Type 0} {R : K → K → Ordering} (o : IsTotalOrder R) where
  -- what is below something that isn't above q is below q
  pub below_too : (x y q : K) → R x y ≡ Less → (r : Ordering) → R y q ≡ r → ordering_index (R x q) ≤ ordering_index r
  below_too x y q l Less is = let e : R x q ≡ Less = o.trans x y q l is in subst (λ s. ordering_index s ≤ 0) (sym e) (omega arith)
  below_too x y q l Equal is = let e : R x q ≡ Less = sym (alike_right o y q x is) ∙ l in subst (λ s. ordering_index s ≤ 1) (sym e) (omega arith)
  below_too x y q l Greater is = at_most (R x q)
    where
      at_most : (s : Ordering) → ordering_index s ≤ 2
      at_most Less = omega arith
      at_most Equal = omega arith
      at_most Greater = omega arith

  pub turned_less : (x q : K) → R x q ≡ Less → R q x ≡ Greater
  turned_less x q e = o.antisymm q x ∙ ap ordering_reverse e

  pub turned_greater : (x q : K) → R x q ≡ Greater → R q x ≡ Less
  turned_greater x q e = o.antisymm q x ∙ ap ordering_reverse e

  -- before what ties with q, and behind it
  pub before_tied : (x y q : K) → R x y ≡ Less → R y q ≡ Equal → R q x ≡ Greater
  before_tied x y q l e = turned_less x q (sym (alike_right o y q x e) ∙ l)

  pub behind_tied : (x y q : K) → R y x ≡ Less → R y q ≡ Equal → R q x ≡ Less
  behind_tied x y q l e = o.congr q y x (tied_back o y q e) ∙ l
