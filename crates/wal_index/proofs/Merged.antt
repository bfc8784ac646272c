-- Two lists of entries in order, seen as one.
use Rattle.std.proofs.Common.{◌≡◌, ℕ, ◌+◌, Bool, true, false, cond, T, List, [], ◌∷◌, ◌++◌, length, sum_by, refl, sym, ap, ◌∙◌, arith}
use Rattle.std.specs.Prelude.{Option, Some, None, is_some}
use Rattle.std.specs.Option.{option_or}
use Rattle.std.specs.Cmp.{IsTotalOrder, Equal-is, tied_itself}
use Rattle.std.specs.FinMap as finite
use Rattle.std.specs.FinMap.Entries.{by_order, below_all, where_key, is_sorted-put, is_sorted-where_key, find-put, find-where_key, find_tied, length-put, same_entries}
use Rattle.std.specs.Ordering.{is_eq, eq_by_cmp}
use Rattle.std.specs.declared.cmp.Ordering.{Ordering}
use Rattle.std.specs.declared.cmp.Ordering.TheVariants.{Less, Equal, Greater}
use Rattle.std.proofs.lemmas.List.Sums.{sum_by-cons}
use Rattle.wal_index.specs.Merged.{merged, AreApart}
use Rattle.wal_index.proofs.Sorted.{first, second, less}

over_or : {X : Type 0} (b : Bool) (v : X) (x y : Option X) → cond b (Some v) (option_or x y) ≡ option_or (cond b (Some v) x) y
over_or true v x y = refl
over_or false v x y = refl

where_or : {X : Type 0} (b : Bool) (x y : Option X) → option_or (cond b x None) (cond b y None) ≡ cond b (option_or x y) None
where_or true x y = refl
where_or false x y = refl

under_or : {X : Type 0} (b : Bool) (v : X) (x y : Option X) → (b ≡ true → x ≡ None) → option_or x (cond b (Some v) y) ≡ cond b (Some v) (option_or x y)
under_or true v x y h = ap (λ o. option_or o (Some v)) (h refl)
under_or false v x y h = refl

-- a look-up that finds nothing
not_found : {X : Type 0} (x : Option X) → (is_some x ≡ true → ⊥) → x ≡ None
not_found None h = refl
not_found (Some v) h = absurd (h refl)

some_where : {X : Type 0} (b : Bool) (x : Option X) → is_some (cond b x None) ≡ true → is_some x ≡ true
some_where true x h = h
some_where false x h = cc

is_equal : (r : Ordering) → is_eq r ≡ true → r ≡ Equal
is_equal r t = (Equal-is r).0 t

module _ {K X : Type 0} {R : K → K → Ordering} (o : IsTotalOrder R) where
  -- ---- what is in it

  pub merged_sorted : (es fs : List (K × X)) → T (finite.is_sorted R es) → T (finite.is_sorted R (merged R es fs))
  merged_sorted es [] h = h
  merged_sorted es (f ∷ fs) h = is_sorted-put R o f.0 f.1 (merged R es fs) (merged_sorted es fs h)

  pub find_merged : (q : K) (es fs : List (K × X)) → finite.find R q (merged R es fs) ≡ option_or (finite.find R q fs) (finite.find R q es)
  find_merged q es [] = refl
  find_merged q es (f ∷ fs) =
      find-put R o q f.0 f.1 (merged R es fs)
      ∙ ap (cond (eq_by_cmp R q f.0) (Some f.1)) (find_merged q es fs)
      ∙ over_or (eq_by_cmp R q f.0) f.1 (finite.find R q fs) (finite.find R q es)

  pub put_second : ((x y : K) → R x y ≡ Equal → x ≡ y) → (es fs : List (K × X)) (k : K) (v : X) → T (finite.is_sorted R es) → merged R es (finite.put R k v fs) ≡ finite.put R k v (merged R es fs)
  put_second exact es fs k v h =
      same_entries R o exact _ _ (merged_sorted es (finite.put R k v fs) h) (is_sorted-put R o k v (merged R es fs) (merged_sorted es fs h)) (λ q.
      find_merged q es (finite.put R k v fs)
      ∙ ap (λ x. option_or x (finite.find R q es)) (find-put R o q k v fs)
      ∙ sym (over_or (eq_by_cmp R q k) v (finite.find R q fs) (finite.find R q es))
      ∙ ap (cond (eq_by_cmp R q k) (Some v)) (sym (find_merged q es fs))
      ∙ sym (find-put R o q k v (merged R es fs)))

  pub put_first : ((x y : K) → R x y ≡ Equal → x ≡ y) → (es fs : List (K × X)) (k : K) (v : X) → T (finite.is_sorted R es) → finite.find R k fs ≡ None → merged R (finite.put R k v es) fs ≡ finite.put R k v (merged R es fs)
  put_first exact es fs k v h none =
      same_entries R o exact _ _ (merged_sorted (finite.put R k v es) fs (is_sorted-put R o k v es h)) (is_sorted-put R o k v (merged R es fs) (merged_sorted es fs h)) (λ q.
      find_merged q (finite.put R k v es) fs
      ∙ ap (option_or (finite.find R q fs)) (find-put R o q k v es)
      ∙ under_or (eq_by_cmp R q k) v (finite.find R q fs) (finite.find R q es) (λ t. sym (find_tied R o q k (is_equal (R q k) t) fs) ∙ none)
      ∙ ap (cond (eq_by_cmp R q k) (Some v)) (sym (find_merged q es fs))
      ∙ sym (find-put R o q k v (merged R es fs)))

  pub filter_merged : ((x y : K) → R x y ≡ Equal → x ≡ y) → (p : K → Bool) (es fs : List (K × X)) → T (finite.is_sorted R es) → merged R (where_key R p es) (where_key R p fs) ≡ where_key R p (merged R es fs)
  filter_merged exact p es fs h =
      let alike : (q x : K) → R q x ≡ Equal → p x ≡ p q = λ q x t. ap p (sym (exact q x t)) in
      same_entries R o exact _ _ (merged_sorted (where_key R p es) (where_key R p fs) (is_sorted-where_key R p es h)) (is_sorted-where_key R p (merged R es fs) (merged_sorted es fs h)) (λ q.
      find_merged q (where_key R p es) (where_key R p fs)
      ∙ ap (λ x. option_or x (finite.find R q (where_key R p es))) (find-where_key R p q (alike q) fs)
      ∙ ap (option_or (cond (p q) (finite.find R q fs) None)) (find-where_key R p q (alike q) es)
      ∙ where_or (p q) (finite.find R q fs) (finite.find R q es)
      ∙ ap (λ x. cond (p q) x None) (sym (find_merged q es fs))
      ∙ sym (find-where_key R p q (alike q) (merged R es fs)))

  -- ---- keys that are apart

  pub apart_turned : (es fs : List (K × X)) → AreApart R es fs → AreApart R fs es
  apart_turned es fs apart q a b = apart q b a

  pub apart_none : (es fs : List (K × X)) (q : K) → AreApart R es fs → is_some (finite.find R q es) ≡ true → finite.find R q fs ≡ None
  apart_none es fs q apart a = not_found (finite.find R q fs) (apart q a)

  pub apart_put : (es fs : List (K × X)) (k : K) (v : X) → AreApart R es fs → finite.find R k es ≡ None → AreApart R es (finite.put R k v fs)
  apart_put es fs k v apart none q a b =
      elim (eq_by_cmp R q k) as (λ t. eq_by_cmp R q k ≡ t → is_some (cond t (Some v) (finite.find R q fs)) ≡ true → ⊥) [
        | true ↦ λ t s. let wrong : true ≡ false = sym a ∙ ap is_some (sym (find_tied R o q k (is_equal (R q k) t) es) ∙ none) in cc
        | false ↦ λ t s. apart q a s
      ] refl (ap is_some (sym (find-put R o q k v fs)) ∙ b)

  pub apart_where : (p : K → Bool) → ((x y : K) → R x y ≡ Equal → x ≡ y) → (es fs : List (K × X)) → AreApart R es fs → AreApart R (where_key R p es) (where_key R p fs)
  apart_where p exact es fs apart q a b =
      let alike : (x : K) → R q x ≡ Equal → p x ≡ p q = λ x t. ap p (sym (exact q x t)) in
      apart q (some_where (p q) (finite.find R q es) (ap is_some (sym (find-where_key R p q alike es)) ∙ a)) (some_where (p q) (finite.find R q fs) (ap is_some (sym (find-where_key R p q alike fs)) ∙ b))

  some_cons : (q : K) (e : K × X) (es : List (K × X)) → is_some (finite.find R q es) ≡ true → is_some (finite.find R q (e ∷ es)) ≡ true
  some_cons q e es h = elim (eq_by_cmp R q e.0) as (λ b. is_some (cond b (Some e.1) (finite.find R q es)) ≡ true) [ true ↦ refl | false ↦ h ]

  apart_rest : (es fs : List (K × X)) (f : K × X) → AreApart R es (f ∷ fs) → AreApart R es fs
  apart_rest es fs f apart q a b = apart q a (some_cons q f fs b)

  some_snoc : (q : K) (e : K × X) (es : List (K × X)) → is_some (finite.find R q es) ≡ true → is_some (finite.find R q (es ++ e ∷ [])) ≡ true
  some_snoc q e [] h = cc
  some_snoc q e (x ∷ es) h = elim (eq_by_cmp R q x.0) as (λ b. is_some (cond b (Some x.1) (finite.find R q es)) ≡ true → is_some (cond b (Some x.1) (finite.find R q (es ++ e ∷ []))) ≡ true) [ true ↦ λ _. refl | false ↦ some_snoc q e es ] h

  pub apart_front : (es fs : List (K × X)) (f : K × X) → AreApart R es (fs ++ f ∷ []) → AreApart R es fs
  apart_front es fs f apart q a b = apart q a (some_snoc q f fs b)

  pub found_here : (e : K × X) (es : List (K × X)) → is_some (finite.find R e.0 (e ∷ es)) ≡ true
  found_here e es = ap (λ r. is_some (cond (is_eq r) (Some e.1) (finite.find R e.0 es))) (tied_itself o e.0)

  pub found_last : (e : K × X) (es : List (K × X)) → is_some (finite.find R e.0 (es ++ e ∷ [])) ≡ true
  found_last e [] = found_here e []
  found_last e (x ∷ es) = some_cons e.0 x (es ++ e ∷ []) (found_last e es)

  -- ---- how much is in it

  pub none_below : (q : K) (es : List (K × X)) → T (below_all R q es) → finite.find R q es ≡ None
  none_below q [] h = refl
  none_below q (e ∷ es) h = ap (λ r. cond (is_eq r) (Some e.1) (finite.find R q es)) (less _ (first _ _ h)) ∙ none_below q es (second _ _ h)

  head_new : (es fs : List (K × X)) (f : K × X) → T (finite.is_sorted R (f ∷ fs)) → AreApart R es (f ∷ fs) → finite.find R f.0 (merged R es fs) ≡ None
  head_new es fs f sorted apart =
      find_merged f.0 es fs
      ∙ ap (λ x. option_or x (finite.find R f.0 es)) (none_below f.0 fs (first _ _ sorted))
      ∙ apart_none (f ∷ fs) es f.0 (apart_turned es (f ∷ fs) apart) (found_here f fs)

  pub merged_length : (es fs : List (K × X)) → T (finite.is_sorted R es) → T (finite.is_sorted R fs) → AreApart R es fs → length (merged R es fs) ≡ length es + length fs
  merged_length es [] g h apart = omega arith
  merged_length es (f ∷ fs) g h apart =
      let rest : length (merged R es fs) ≡ length es + length fs = merged_length es fs g (second (below_all R f.0 fs) (finite.is_sorted R fs) h) (apart_rest es fs f apart) in
      let more : length (merged R es (f ∷ fs)) ≡ length (merged R es fs) + 1 = length-put R o f.0 f.1 (merged R es fs) (merged_sorted es fs g) ∙ ap (λ x. cond (is_some x) (length (merged R es fs)) (length (merged R es fs) + 1)) (head_new es fs f h apart) in
      omega (arith, rest, more)

  sum_put : (g : K × X → ℕ) (k : K) (v : X) (es : List (K × X)) → finite.find R k es ≡ None → sum_by g (finite.put R k v es) ≡ g (k, v) + sum_by g es
  sum_put g k v [] none = sum_by-cons g (k, v) []
  sum_put g k v (e ∷ es) none =
      elim (R k e.0) as (λ r. cond (is_eq r) (Some e.1) (finite.find R k es) ≡ None → sum_by g (by_order r ((k, v) ∷ e ∷ es) ((e.0, v) ∷ es) (e ∷ finite.put R k v es)) ≡ g (k, v) + sum_by g (e ∷ es)) [
        | Less ↦ λ n. sum_by-cons g (k, v) (e ∷ es)
        | Equal ↦ λ n. cc
        | Greater ↦ λ n. omega (arith, sum_put g k v es n, sum_by-cons g e (finite.put R k v es), sum_by-cons g e es)
      ] none

  pub merged_sum : (g : K × X → ℕ) (es fs : List (K × X)) → T (finite.is_sorted R fs) → AreApart R es fs → sum_by g (merged R es fs) ≡ sum_by g es + sum_by g fs
  merged_sum g es [] h apart = omega arith
  merged_sum g es (f ∷ fs) h apart =
      omega (arith, merged_sum g es fs (second _ _ h) (apart_rest es fs f apart), sum_put g f.0 f.1 (merged R es fs) (head_new es fs f h apart), sum_by-cons g f fs)
