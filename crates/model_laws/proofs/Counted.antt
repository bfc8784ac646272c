-- The documents of a store are as many as the keys at which it has one.
use Rattle.std.proofs.Common.{◌≡◌, ◌≢◌, ℕ, ◌+◌, T, Bool, true, false, cond, List, [], ◌∷◌, length, Some, inl, inr, refl, sym, ap, subst, ◌∙◌, arith}
use Rattle.std.specs.Prelude.{◌==◌, count_by}
use Rattle.std.specs.List.{AllByRecursion}
use Rattle.std.specs.Ordering.{eq_by_cmp, is_eq}
use Rattle.std.specs.Cmp.{eq_by_cmp_equiv}
use Rattle.std.specs.FinMap as finite
use Rattle.std.specs.FinMap.Entries as entries
use Rattle.std.specs.declared.cmp.Ordering.TheVariants.{Less}
use Rattle.std.proofs.lemmas.Bool.{true≢false, eqb-true, eq-eqb}
use Rattle.std.proofs.lemmas.List.Sums.{sum_by-cons}
use Rattle.std.proofs.lemmas.Option.{none-some}
use Rattle.forest_model.specs.Key.{key_cmp}
use Rattle.forest_model.specs.Documents.{Map, Entry, key_at, is_of, count_of}
use Rattle.forest_model.specs.State.{EachLater}
use Rattle.forest_model.specs.declared.documents.DocKey.{DocKey}
use Rattle.forest_model.specs.declared.documents.Doc.{Doc}
use Rattle.model_laws.specs.Reads.{IsAmong, AreKeysOf}
use Rattle.model_laws.proofs.Keys.{keys_total, same_key}
use Rattle.model_laws.proofs.Numbered.{both_hold, less}

-- the keys of a store among entries
abbrev keys_in : ℕ → List Entry → List (List ℕ)
keys_in id [] = []
keys_in id (e ∷ es) = cond (e.0.store == id) (e.0.key ∷ keys_in id es) (keys_in id es)

as_many : (id : ℕ) (es : List Entry) → count_by (is_of id) es ≡ length (keys_in id es)
as_many id [] = refl
as_many id (e ∷ es) = sum_by-cons (λ y. cond (is_of id y) 1 0) e es ∙ by (e.0.store == id) (as_many id es)
  where
    by : (b : Bool) → count_by (is_of id) es ≡ length (keys_in id es) → cond b 1 0 + count_by (is_of id) es ≡ length (cond b (e.0.key ∷ keys_in id es) (keys_in id es))
    by true later = omega (arith, later)
    by false later = omega (arith, later)

-- a key that is listed has a document
there : (id : ℕ) (key : List ℕ) (es : List Entry) → IsAmong key (keys_in id es) → (d : Doc) × (entries.find key_cmp (key_at id key) es ≡ Some d)
there id key [] h = absurd h
there id key (x ∷ es) h = by (x.0.store == id) refl h (there id key es)
  where
    some : (b : Bool) → (d : Doc) × (entries.find key_cmp (key_at id key) es ≡ Some d) → (d : Doc) × (cond b (Some x.1) (entries.find key_cmp (key_at id key) es) ≡ Some d)
    some true later = (x.1, refl)
    some false later = later

    by : (b : Bool) → (x.0.store == id) ≡ b → IsAmong key (cond b (x.0.key ∷ keys_in id es) (keys_in id es))
        → (IsAmong key (keys_in id es) → (d : Doc) × (entries.find key_cmp (key_at id key) es ≡ Some d))
        → (d : Doc) × (cond (eq_by_cmp key_cmp (key_at id key) x.0) (Some x.1) (entries.find key_cmp (key_at id key) es) ≡ Some d)
    by true e (inl is) later =
        let same : x.0 ≡ key_at id key = λ i. record { store = eqb-true x.0.store id e i; key = is i } in
        let tied : eq_by_cmp key_cmp (key_at id key) x.0 ≡ true = subst (λ (k : DocKey). eq_by_cmp key_cmp (key_at id key) k ≡ true) (sym same) ((eq_by_cmp_equiv keys_total).refl (key_at id key)) in
        (x.1, ap (λ b. cond b (Some x.1) (entries.find key_cmp (key_at id key) es)) tied)
    by true e (inr rest) later = some (eq_by_cmp key_cmp (key_at id key) x.0) (later rest)
    by false e rest later = some (eq_by_cmp key_cmp (key_at id key) x.0) (later rest)

-- and a key that has one is listed
listed : (id : ℕ) (key : List ℕ) (d : Doc) (es : List Entry) → entries.find key_cmp (key_at id key) es ≡ Some d → IsAmong key (keys_in id es)
listed id key d [] f = absurd (none-some d f)
listed id key d (x ∷ es) f = by (eq_by_cmp key_cmp (key_at id key) x.0) refl f (listed id key d es)
  where
    more : (b : Bool) → IsAmong key (keys_in id es) → IsAmong key (cond b (x.0.key ∷ keys_in id es) (keys_in id es))
    more true later = inr later
    more false later = later

    by : (b : Bool) → eq_by_cmp key_cmp (key_at id key) x.0 ≡ b → cond b (Some x.1) (entries.find key_cmp (key_at id key) es) ≡ Some d
        → (entries.find key_cmp (key_at id key) es ≡ Some d → IsAmong key (keys_in id es)) → IsAmong key (cond (x.0.store == id) (x.0.key ∷ keys_in id es) (keys_in id es))
    by true t g later =
        let same : key_at id key ≡ x.0 = same_key (key_at id key) x.0 t in
        let of_store : (x.0.store == id) ≡ true = eq-eqb x.0.store id (ap (λ (k : DocKey). k.store) (sym same)) in
        subst (λ b. IsAmong key (cond b (x.0.key ∷ keys_in id es) (keys_in id es))) (sym of_store) (inl (ap (λ (k : DocKey). k.key) (sym same)))
    by false t g later = more (x.0.store == id) (later g)

-- those behind a key are other keys
others : (id : ℕ) (k : DocKey) (es : List Entry) → k.store ≡ id → T (entries.below_all key_cmp k es) → AllByRecursion (λ key. k.key ≢ key) (keys_in id es)
others id k [] at s = tt
others id k (x ∷ es) at s = by (x.0.store == id) refl (others id k es at (both_hold _ _ s).1)
  where
    lower : key_cmp k x.0 ≡ Less
    lower = less _ (both_hold _ _ s).0

    by : (b : Bool) → (x.0.store == id) ≡ b → AllByRecursion (λ key. k.key ≢ key) (keys_in id es) → AllByRecursion (λ key. k.key ≢ key) (cond b (x.0.key ∷ keys_in id es) (keys_in id es))
    by true e later = (
      λ is.
          let stores : k.store ≡ x.0.store = at ∙ sym (eqb-true x.0.store id e) in
          let same : k ≡ x.0 = λ i. record { store = stores i; key = is i } in
          let tied : eq_by_cmp key_cmp k x.0 ≡ true = subst (λ (q : DocKey). eq_by_cmp key_cmp k q ≡ true) same ((eq_by_cmp_equiv keys_total).refl k) in
          true≢false (sym tied ∙ ap is_eq lower),
      later,
    )
    by false e later = later

all_apart : (id : ℕ) (es : List Entry) → T (entries.is_sorted key_cmp es) → EachLater (λ a b. a ≢ b) (keys_in id es)
all_apart id [] s = tt
all_apart id (x ∷ es) s = by (x.0.store == id) refl (all_apart id es (both_hold _ _ s).1)
  where
    behind : T (entries.below_all key_cmp x.0 es)
    behind = subst T (sym (both_hold _ _ s).0) tt

    by : (b : Bool) → (x.0.store == id) ≡ b → EachLater (λ a b. a ≢ b) (keys_in id es) → EachLater (λ a b. a ≢ b) (cond b (x.0.key ∷ keys_in id es) (keys_in id es))
    by true e later = (others id x.0 es (eqb-true x.0.store id e) behind, later)
    by false e later = later

abbrev pub keys_of : Map → ℕ → List (List ℕ)
keys_of m id = keys_in id (finite.entries m)

pub keys_counted : (m : Map) (id : ℕ) → count_of m id ≡ length (keys_of m id)
keys_counted m id = as_many id (finite.entries m)

pub are_keys : (m : Map) (id : ℕ) → AreKeysOf m id (keys_of m id)
are_keys m id = record {
  apart = all_apart id (finite.entries m) (finite.entries_sorted m);
  each = λ key. (
    λ h. let d = there id key (finite.entries m) h in (d.0, finite.get-entries m (key_at id key) ∙ d.1),
    λ h. listed id key h.0 (finite.entries m) (sym (finite.get-entries m (key_at id key)) ∙ h.1),
  );
}
