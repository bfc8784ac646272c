-- A map's entries, and the finite map that they make.
use Rattle.std.proofs.Common.{◌≡◌, Bool, true, cond, List, [], ◌∷◌, length, filter, refl, sym, ap, ◌∙◌, arith}
use Rattle.std.specs.Prelude.{Some, None}
use Rattle.std.specs.BTreeMap.{is_at}
use Rattle.std.specs.Cmp.{IsTotalOrder, eq_by_cmp_equiv}
use Rattle.std.specs.FinMap.{empty, entries, get, insert, remove, retain_keys, from_entries, find, put, len-empty, len-entries, entries-insert, get-insert, get-remove, get-retain_keys, get-from_entries, same_map}
use Rattle.std.specs.FinMap.Entries.{by_order}
use Rattle.std.specs.List.Sorted.{IsStrictlySortedBy}
use Rattle.std.specs.Map.{keys_of, lookup}
use Rattle.std.specs.Ordering.{is_eq}
use Rattle.std.specs.declared.cmp.Ordering.{Ordering}
use Rattle.std.specs.declared.cmp.Ordering.TheVariants.{Less, Equal, Greater}
use Rattle.std.proofs.lemmas.Map.Entries.{lookup-filter-keys}
use Rattle.std.proofs.lemmas.Map.Keys.{sorted_head, sorted_tail}
use Rattle.std.proofs.lemmas.Map.Lookups.{CmpEqualImpliesEq}

nothing : {A : Type 0} (xs : List A) → length xs ≡ 0 → xs ≡ []
nothing [] e = refl
nothing (x ∷ xs) e = absurd (omega arith)

tied : (r : Ordering) → is_eq r ≡ true → r ≡ Equal
tied Less h = cc
tied Equal h = refl
tied Greater h = cc

module _ {K X : Type 0} (R : K → K → Ordering) where
  pub find_is_lookup : (es : List (K × X)) (q : K) → find R q es ≡ lookup (is_at (R q)) es
  find_is_lookup [] q = refl
  find_is_lookup (e ∷ es) q = ap (cond (is_at (R q) e.0) (Some e.1)) (find_is_lookup es q)

  -- the first entry stays the first
  put_first : (e : K × X) (es : List (K × X)) → IsStrictlySortedBy R (keys_of (e ∷ es)) → put R e.0 e.1 es ≡ e ∷ es
  put_first e [] s = refl
  put_first e (f ∷ fs) s = ap (λ r. by_order r ((e.0, e.1) ∷ f ∷ fs) ((f.0, e.1) ∷ fs) (f ∷ put R e.0 e.1 fs)) (sorted_head R e.0 (keys_of (f ∷ fs)) s).0

module _ {K X : Type 0} {R : K → K → Ordering} (o : IsTotalOrder R) where
  -- the map that entries make has at a key what they have
  pub get_is_lookup : (es : List (K × X)) (q : K) → get (from_entries {R = R} es) q ≡ lookup (is_at (R q)) es
  get_is_lookup es q = get-from_entries o es q ∙ find_is_lookup R es q

  -- entries in order are those of the map that they make
  pub entries_are : (es : List (K × X)) → IsStrictlySortedBy R (keys_of es) → entries (from_entries {R = R} es) ≡ es
  entries_are [] s = nothing _ (sym (len-entries (empty {X = X} {R = R})) ∙ len-empty R X)
  entries_are (e ∷ es) s =
      entries-insert o (from_entries es) e.0 e.1 ∙ ap (put R e.0 e.1) (entries_are es (sorted_tail R e.0 (keys_of es) s)) ∙ put_first R e es s

  module _ (exact : CmpEqualImpliesEq R) where
    -- entries that differ at one key make maps that differ there
    pub one_put : (es fs : List (K × X)) (k : K) (v : X) → ((q : K) → lookup (is_at (R q)) fs ≡ cond (is_at (R k) q) (Some v) (lookup (is_at (R q)) es)) → from_entries {R = R} fs ≡ insert (from_entries es) k v
    one_put es fs k v h = same_map o exact _ _ (λ q.
        get_is_lookup fs q ∙ h q ∙ ap (λ b. cond b (Some v) (lookup (is_at (R q)) es)) ((eq_by_cmp_equiv o).symm k q)
        ∙ sym (get-insert o (from_entries es) k v q ∙ ap (cond (is_at (R q) k) (Some v)) (get_is_lookup es q)))

    pub one_removed : (es fs : List (K × X)) (k : K) → ((q : K) → lookup (is_at (R q)) fs ≡ cond (is_at (R k) q) None (lookup (is_at (R q)) es)) → from_entries {R = R} fs ≡ remove (from_entries es) k
    one_removed es fs k h = same_map o exact _ _ (λ q.
        get_is_lookup fs q ∙ h q ∙ ap (λ b. cond b None (lookup (is_at (R q)) es)) ((eq_by_cmp_equiv o).symm k q)
        ∙ sym (get-remove o (from_entries es) k q ∙ ap (cond (is_at (R q) k) None) (get_is_lookup es q)))

    -- a filter by the keys makes the map that keeps those keys
    pub some_kept : (es : List (K × X)) (p : K → Bool) → from_entries {R = R} (filter (λ e. p e.0) es) ≡ retain_keys (from_entries es) p
    some_kept es p = same_map o exact _ _ (λ q.
        get_is_lookup _ q ∙ lookup-filter-keys (is_at (R q)) p (p q) (λ k t. ap p (sym (exact q k (tied (R q k) t)))) es
        ∙ sym (get-retain_keys (from_entries es) p q (λ x t. ap p (sym (exact q x t))) ∙ ap (λ v. cond (p q) v None) (get_is_lookup es q)))
