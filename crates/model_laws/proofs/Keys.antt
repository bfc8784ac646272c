-- The order of documents tells all keys apart, and what a changed map has of each.
use Rattle.std.proofs.Common.{◌≡◌, ◌≢◌, ℕ, Bool, true, false, cond, List, Some, None, ◌⊎◌, inl, inr, refl, sym, ap, ◌∙◌}
use Rattle.std.specs.Ordering.{nat_cmp, eq_by_cmp}
use Rattle.std.specs.Cmp.{IsTotalOrder, Equal-is, eq_by_cmp_equiv}
use Rattle.std.specs.Cmp.Lexicographic.{slice_cmp}
use Rattle.std.specs.FinMap as finite
use Rattle.std.proofs.lemmas.Bool.{false_from_ne_true}
use Rattle.std.proofs.lemmas.Cmp.{then_total, on_total, nat_cmp_total, nat_list_cmp_total}
use Rattle.std.proofs.lemmas.Map.Lookups.{CmpEqualImpliesEq, exact_pairs, exact_unsigned, exact_bytes}
use Rattle.std.proofs.lemmas.Option.{same_Some, none-some}
use Rattle.forest_model.specs.Key.{key_cmp}
use Rattle.forest_model.specs.Documents.{Map}
use Rattle.forest_model.specs.declared.documents.DocKey.{DocKey}
use Rattle.forest_model.specs.declared.documents.Doc.{Doc}

pub exact_keys : CmpEqualImpliesEq key_cmp
exact_keys a b h =
    ap (λ (p : ℕ × List ℕ). record { store = p.0; key = p.1 })
    (exact_pairs nat_cmp (slice_cmp nat_cmp) exact_unsigned exact_bytes (a.store, a.key) (b.store, b.key) h)

pub keys_total : IsTotalOrder key_cmp
keys_total = then_total (on_total (λ k. k.store) nat_cmp_total) (on_total (λ k. k.key) nat_list_cmp_total)

pub same_key : (a b : DocKey) → eq_by_cmp key_cmp a b ≡ true → a ≡ b
same_key a b h = exact_keys a b ((Equal-is (key_cmp a b)).0 h)

-- a document that is set is got, and each other stays
pub got_own : (m : Map) (k : DocKey) (d : Doc) → finite.get (finite.insert m k d) k ≡ Some d
got_own m k d = finite.get-insert keys_total m k d k ∙ ap (λ b. cond b (Some d) (finite.get m k)) ((eq_by_cmp_equiv keys_total).refl k)

pub got_other : (m : Map) (k q : DocKey) (d : Doc) → q ≢ k → finite.get (finite.insert m k d) q ≡ finite.get m q
got_other m k q d n =
    finite.get-insert keys_total m k d q ∙ ap (λ b. cond b (Some d) (finite.get m q)) (false_from_ne_true (eq_by_cmp key_cmp q k) (λ e. n (same_key q k e)))

-- what is got afterwards was there before, or is new
pub got_inserted : (m : Map) (k q : DocKey) (v d : Doc) → finite.get (finite.insert m k v) q ≡ Some d → ((q ≡ k) × (v ≡ d)) ⊎ (finite.get m q ≡ Some d)
got_inserted m k q v d e = by (eq_by_cmp key_cmp q k) refl (sym (finite.get-insert keys_total m k v q) ∙ e)
  where
    by : (b : Bool) → eq_by_cmp key_cmp q k ≡ b → cond b (Some v) (finite.get m q) ≡ Some d → ((q ≡ k) × (v ≡ d)) ⊎ (finite.get m q ≡ Some d)
    by true t f = inl (same_key q k t, same_Some v d f)
    by false t f = inr f

pub got_removed : (m : Map) (k q : DocKey) (d : Doc) → finite.get (finite.remove m k) q ≡ Some d → finite.get m q ≡ Some d
got_removed m k q d e = by (eq_by_cmp key_cmp q k) (sym (finite.get-remove keys_total m k q) ∙ e)
  where
    by : (b : Bool) → cond b None (finite.get m q) ≡ Some d → finite.get m q ≡ Some d
    by true f = absurd (none-some d f)
    by false f = f

pub removed_own : (m : Map) (k : DocKey) → finite.get (finite.remove m k) k ≡ None
removed_own m k = finite.get-remove keys_total m k k ∙ ap (λ b. cond b None (finite.get m k)) ((eq_by_cmp_equiv keys_total).refl k)

pub removed_other : (m : Map) (k q : DocKey) → q ≢ k → finite.get (finite.remove m k) q ≡ finite.get m q
removed_other m k q n =
    finite.get-remove keys_total m k q ∙ ap (λ b. cond b None (finite.get m q)) (false_from_ne_true (eq_by_cmp key_cmp q k) (λ e. n (same_key q k e)))

pub retained_is : (m : Map) (p : DocKey → Bool) (q : DocKey) (b : Bool) → p q ≡ b → finite.get (finite.retain_keys m p) q ≡ cond b (finite.get m q) None
retained_is m p q b e = finite.get-retain_keys m p q (λ x t. ap p (sym (exact_keys q x t))) ∙ ap (λ c. cond c (finite.get m q) None) e

pub got_retained : (m : Map) (p : DocKey → Bool) (q : DocKey) (d : Doc) → finite.get (finite.retain_keys m p) q ≡ Some d → (p q ≡ true) × (finite.get m q ≡ Some d)
got_retained m p q d e = by (p q) refl (sym (finite.get-retain_keys m p q (λ x t. ap p (sym (exact_keys q x t)))) ∙ e)
  where
    by : (b : Bool) → p q ≡ b → cond b (finite.get m q) None ≡ Some d → (p q ≡ true) × (finite.get m q ≡ Some d)
    by true t f = (t, f)
    by false t f = absurd (none-some d f)
