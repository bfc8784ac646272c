-- What a map by store and key has once a value is put, and what a sum over it comes to.
use Rattle.std.proofs.Common.{◌≡◌, ◌≢◌, ℕ, ◌+◌, ◌≤◌, Bool, true, false, cond, List, [], ◌∷◌, Option, Some, None, refl, sym, ap, subst, ◌∙◌, arith, inl, inr}
use Rattle.std.specs.Prelude.{sum_by, IsTrue, ◌&&◌, ◌⊎◌, T}
use Rattle.std.specs.Option.{option_map_or}
use Rattle.std.specs.FinMap as finite
use Rattle.std.specs.FinMap.Entries.{below_all, by_order}
use Rattle.std.specs.Ordering.{nat_cmp, is_eq, is_lt, eq_by_cmp}
use Rattle.std.specs.Cmp.{IsTotalOrder, Equal-is, eq_by_cmp_equiv, nat_cmp_total, on_total, then_total}
use Rattle.std.specs.Cmp.Lexicographic.{slice_cmp, nat_list_cmp_total}
use Rattle.std.specs.declared.cmp.Ordering.{Ordering}
use Rattle.std.specs.declared.cmp.Ordering.TheVariants.{Less, Equal, Greater}
use Rattle.std.proofs.lemmas.Map.Lookups.{CmpEqualImpliesEq, exact_unsigned, exact_bytes, exact_pairs}
use Rattle.std.proofs.lemmas.Bool.{false≢true, false_from_ne_true, eq-eqb, ne_eqb}
use Rattle.std.proofs.lemmas.List.Sums.{sum_by-cons}
use Rattle.forest_model.specs.Key.{key_cmp}
use Rattle.forest_model.specs.Documents.{Map, Entry, is_of, count_of}
use Rattle.forest_model.specs.declared.documents.DocKey.{DocKey}
use Rattle.forest_model.specs.declared.documents.Doc.{Doc}
use Rattle.file_image.specs.Commits.{live_of, live_bytes}

pub exact_keys : CmpEqualImpliesEq key_cmp
exact_keys a b h =
    ap (λ (p : ℕ × List ℕ). record { store = p.0; key = p.1 }) (exact_pairs nat_cmp (slice_cmp nat_cmp) exact_unsigned exact_bytes (a.store, a.key) (b.store, b.key) h)

pub keys_total : IsTotalOrder key_cmp
keys_total = then_total (on_total (λ k. k.store) nat_cmp_total) (on_total (λ k. k.key) nat_list_cmp_total)

pub same_key : (a b : DocKey) → eq_by_cmp key_cmp a b ≡ true → a ≡ b
same_key a b h = exact_keys a b ((Equal-is (key_cmp a b)).0 h)

pub same_or_other : (a b : DocKey) → (a ≡ b) ⊎ (a ≢ b)
same_or_other a b = by (eq_by_cmp key_cmp a b) refl where
  by : (t : Bool) → eq_by_cmp key_cmp a b ≡ t → (a ≡ b) ⊎ (a ≢ b)
  by true e = inl (same_key a b e)
  by false e = inr (λ same. false≢true (sym e ∙ ap (λ (x : DocKey). eq_by_cmp key_cmp a x) (sym same) ∙ (eq_by_cmp_equiv keys_total).refl a))

pub both : (a b : Bool) → IsTrue (a && b) → IsTrue a × IsTrue b
both true b t = (refl, t)
both false b t = absurd (false≢true t)

pub less : (o : Ordering) → IsTrue (is_lt o) → o ≡ Less
less Less t = refl
less Equal t = absurd (false≢true t)
less Greater t = absurd (false≢true t)

pub is_true : (b : Bool) → T b → IsTrue b
is_true true t = refl
is_true false t = absurd t

module _ {X : Type 0} where
  pub got_own : (m : finite.FinMap key_cmp X) (k : DocKey) (x : X) → finite.get (finite.insert m k x) k ≡ Some x
  got_own m k x = finite.get-insert keys_total m k x k ∙ ap (λ b. cond b (Some x) (finite.get m k)) ((eq_by_cmp_equiv keys_total).refl k)

  pub got_other : (m : finite.FinMap key_cmp X) (k q : DocKey) (x : X) → q ≢ k → finite.get (finite.insert m k x) q ≡ finite.get m q
  got_other m k q x n =
      finite.get-insert keys_total m k x q ∙ ap (λ b. cond b (Some x) (finite.get m q)) (false_from_ne_true (eq_by_cmp key_cmp q k) (λ e. n (same_key q k e)))

  -- a key below all others isn't among them
  pub none_below : (k : DocKey) (es : List (DocKey × X)) → IsTrue (below_all key_cmp k es) → finite.find key_cmp k es ≡ None
  none_below k [] below = refl
  none_below k (e ∷ es) below =
      let here = both (is_lt (key_cmp k e.0)) _ below in
      ap (λ o. cond (is_eq o) (Some e.1) (finite.find key_cmp k es)) (less (key_cmp k e.0) here.0) ∙ none_below k es here.1

  -- a key below another is below all that lie above that one
  pub below_less : (x y : DocKey) (es : List (DocKey × X)) → key_cmp x y ≡ Less → IsTrue (below_all key_cmp y es) → IsTrue (below_all key_cmp x es)
  below_less x y [] is below = refl
  below_less x y (e ∷ es) is below =
      let here = both (is_lt (key_cmp y e.0)) _ below in
      join (is_lt (key_cmp x e.0)) (subst (λ (o : Ordering). IsTrue (is_lt o)) (sym (keys_total.trans x y e.0 is (less (key_cmp y e.0) here.0))) refl) (below_less x y es is here.1) where
        join : (a : Bool) {b : Bool} → IsTrue a → IsTrue b → IsTrue (a && b)
        join true t u = u
        join false t u = absurd (false≢true t)

  -- what a value that may be there adds to a sum
  abbrev pub part : (DocKey × X → ℕ) → DocKey → Option X → ℕ
  part f k o = option_map_or (λ x. f (k, x)) o 0

  sum-put : (f : DocKey × X → ℕ) (es : List (DocKey × X)) (k : DocKey) (v : X) → IsTrue (finite.is_sorted key_cmp es) → sum_by f (finite.put key_cmp k v es) + part f k (finite.find key_cmp k es) ≡ sum_by f es + f (k, v)
  sum-put f [] k v sorted = omega (arith, sum_by-cons f (k, v) [])
  sum-put f ((q, w) ∷ es) k v sorted = by (key_cmp k q) refl (sum-put f es k v (both (below_all key_cmp q es) _ sorted).1) where
    by : (o : Ordering) → key_cmp k q ≡ o → sum_by f (finite.put key_cmp k v es) + part f k (finite.find key_cmp k es) ≡ sum_by f es + f (k, v)
        → sum_by f (by_order o ((k, v) ∷ (q, w) ∷ es) ((q, v) ∷ es) ((q, w) ∷ finite.put key_cmp k v es)) + part f k (cond (is_eq o) (Some w) (finite.find key_cmp k es)) ≡ sum_by f ((q, w) ∷ es) + f (k, v)
    by Less is later =
        let none = none_below k es (below_less k q es is (both (below_all key_cmp q es) _ sorted).0) in
        omega (arith, sum_by-cons f (k, v) ((q, w) ∷ es), ap (part f k) none)
    by Equal is later =
        omega (arith, sum_by-cons f (q, w) es, sum_by-cons f (q, v) es, ap (λ (x : DocKey). f (x, v)) (exact_keys k q is), ap (λ (x : DocKey). f (x, w)) (exact_keys k q is))
    by Greater is later = omega (arith, later, sum_by-cons f (q, w) es, sum_by-cons f (q, w) (finite.put key_cmp k v es))

  pub sum-insert : (f : DocKey × X → ℕ) (m : finite.FinMap key_cmp X) (k : DocKey) (v : X) → sum_by f (finite.entries (finite.insert m k v)) + part f k (finite.get m k) ≡ sum_by f (finite.entries m) + f (k, v)
  sum-insert f m k v =
      ap (λ es. sum_by f es + part f k (finite.get m k)) (finite.entries-insert keys_total m k v)
      ∙ ap (λ o. sum_by f (finite.put key_cmp k v (finite.entries m)) + part f k o) (finite.get-entries m k)
      ∙ sum-put f (finite.entries m) k v (is_true _ (finite.entries_sorted m))

  part-find : (f : DocKey × X → ℕ) (es : List (DocKey × X)) (k : DocKey) → part f k (finite.find key_cmp k es) ≤ sum_by f es
  part-find f [] k = omega arith
  part-find f ((q, w) ∷ es) k = by (key_cmp k q) refl (part-find f es k) where
    by : (o : Ordering) → key_cmp k q ≡ o → part f k (finite.find key_cmp k es) ≤ sum_by f es → part f k (cond (is_eq o) (Some w) (finite.find key_cmp k es)) ≤ sum_by f ((q, w) ∷ es)
    by Less is later = omega (arith, later, sum_by-cons f (q, w) es)
    by Equal is later = omega (arith, sum_by-cons f (q, w) es, ap (λ (x : DocKey). f (x, w)) (exact_keys k q is))
    by Greater is later = omega (arith, later, sum_by-cons f (q, w) es)

-- the bytes of live records
pub live-part : (m : Map) (k : DocKey) → part live_of k (finite.get m k) ≤ live_bytes m
unfolding live_bytes
live-part m k = subst (λ (o : Option Doc). part live_of k o ≤ sum_by live_of (finite.entries m)) (sym (finite.get-entries m k)) (part-find live_of (finite.entries m) k)

pub live-insert : (m : Map) (k : DocKey) (v : Doc) → live_bytes (finite.insert m k v) + part live_of k (finite.get m k) ≡ live_bytes m + live_of (k, v)
unfolding live_bytes
live-insert m k v = sum-insert live_of m k v

-- how many documents a store has
abbrev ones : ℕ → Entry → ℕ
ones store e = cond (is_of store e) 1 0

own_part : (k : DocKey) (o : Option Doc) → part (ones k.store) k o ≡ option_map_or (λ _. 1) o 0
own_part k None = refl
own_part k (Some d) = ap (λ b. cond b 1 0) (eq-eqb k.store k.store refl)

other_part : (k : DocKey) (store : ℕ) → k.store ≢ store → (o : Option Doc) → part (ones store) k o ≡ 0
other_part k store other None = refl
other_part k store other (Some d) = ap (λ b. cond b 1 0) (ne_eqb k.store store other)

pub count-insert : (m : Map) (k : DocKey) (v : Doc) → count_of (finite.insert m k v) k.store + option_map_or (λ _. 1) (finite.get m k) 0 ≡ count_of m k.store + 1
count-insert m k v =
    ap (λ n. count_of (finite.insert m k v) k.store + n) (sym (own_part k (finite.get m k))) ∙ sum-insert (ones k.store) m k v
    ∙ ap (λ b. count_of m k.store + cond b 1 0) (eq-eqb k.store k.store refl)

pub count-other : (m : Map) (k : DocKey) (v : Doc) (store : ℕ) → k.store ≢ store → count_of (finite.insert m k v) store ≡ count_of m store
count-other m k v store other =
    omega (arith, sum-insert (ones store) m k v, other_part k store other (finite.get m k), other_part k store other (Some v))

-- each document's record has bytes
fewer : (store : ℕ) (es : List Entry) → sum_by (ones store) es ≤ sum_by live_of es
fewer store [] = omega arith
fewer store (e ∷ es) = omega (arith, sum_by-cons (ones store) e es, sum_by-cons live_of e es, fewer store es, one (is_of store e)) where
  one : (b : Bool) → cond b 1 0 ≤ 1
  one true = omega arith
  one false = omega arith

pub count-live : (m : Map) (store : ℕ) → count_of m store ≤ live_bytes m
unfolding live_bytes
count-live m store = fewer store (finite.entries m)
