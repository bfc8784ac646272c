-- The document of a number, in a map of which no two documents of a store share one.
use Rattle.std.proofs.Common.{◌≡◌, ℕ, Bool, true, false, cond, ◌&&◌, T, List, [], ◌∷◌, refl, sym, ap, ◌∙◌, subst}
use Rattle.std.specs.Prelude.{Some, None, find, ◌==◌}
use Rattle.std.specs.Cmp.{IsTotalOrder, tied_itself}
use Rattle.std.specs.FinMap as finite
use Rattle.std.specs.FinMap.Entries.{below_all, find_tied}
use Rattle.std.specs.Ordering.{is_lt, is_eq}
use Rattle.std.specs.declared.cmp.Ordering.{Ordering}
use Rattle.std.specs.declared.cmp.Ordering.TheVariants.{Less, Equal, Greater}
use Rattle.std.proofs.lemmas.Bool.{eqb-true, eq-eqb}
use Rattle.std.proofs.lemmas.Map.Lookups.{CmpEqualImpliesEq}
use Rattle.forest_model.proofs.KeyOrder.{keys_total, exact_keys}
use Rattle.forest_model.specs.Documents.{Map, Entry, is_numbered, doc_numbered}
use Rattle.forest_model.specs.declared.documents.DocKey.{DocKey}
use Rattle.forest_model.specs.declared.documents.Doc.{Doc}

first : (a b : Bool) → T (a && b) → T a
first true b p = tt
first false b p = p

second : (a b : Bool) → T (a && b) → T b
second true b p = p
second false b p = absurd p

less : (o : Ordering) → T (is_lt o) → o ≡ Less
less Less p = refl
less Equal p = absurd p
less Greater p = absurd p

both_true : (a b : Bool) → a && b ≡ true → (a ≡ true) × (b ≡ true)
both_true true b is = (refl, is)
both_true false b is = cc

pub passes : {A : Type 0} (p : A → Bool) (xs : List A) (x : A) → find p xs ≡ Some x → p x ≡ true
passes p [] x is = cc
passes p (y ∷ ys) x is =
    elim (p y) as (λ b. p y ≡ b → cond b (Some y) (find p ys) ≡ Some x → p x ≡ true) [
      | true ↦ λ here same. let y_is : y ≡ x = cc in ap p (sym y_is) ∙ here
      | false ↦ λ other rest. passes p ys x rest
    ] refl is

module _ {K X : Type 0} {R : K → K → Ordering} (o : IsTotalOrder R) where
  none_above : (k : K) (es : List (K × X)) → T (below_all R k es) → finite.find R k es ≡ None
  none_above k [] below = refl
  none_above k (e ∷ es) below =
      ap (λ r. cond (is_eq r) (Some e.1) (finite.find R k es)) (less (R k e.0) (first _ _ below)) ∙ none_above k es (second _ _ below)

  -- an entry is what a look-up of its key finds
  pub is_found : (p : K × X → Bool) (es : List (K × X)) (e : K × X) → T (finite.is_sorted R es) → find p es ≡ Some e → finite.find R e.0 es ≡ Some e.1
  is_found p [] e sorted is = cc
  is_found p (f ∷ fs) e sorted is =
      elim (p f) as (λ b. cond b (Some f) (find p fs) ≡ Some e → cond (is_eq (R e.0 f.0)) (Some f.1) (finite.find R e.0 fs) ≡ Some e.1) [
        | true ↦ λ same.
            let f_is : f ≡ e = cc in
            subst (λ (x : K × X). cond (is_eq (R x.0 f.0)) (Some f.1) (finite.find R x.0 fs) ≡ Some x.1) f_is (ap (λ r. cond (is_eq r) (Some f.1) (finite.find R f.0 fs)) (tied_itself o f.0))
        | false ↦ λ rest.
            let later : finite.find R e.0 fs ≡ Some e.1 = is_found p fs e (second (below_all R f.0 fs) (finite.is_sorted R fs) sorted) rest in
            elim (R e.0 f.0) as (λ r. R e.0 f.0 ≡ r → cond (is_eq r) (Some f.1) (finite.find R e.0 fs) ≡ Some e.1) [
              | Less ↦ λ _. later
              | Equal ↦ λ tied.
                  let wrong : None ≡ Some e.1 = sym (none_above f.0 fs (first (below_all R f.0 fs) (finite.is_sorted R fs) sorted)) ∙ find_tied R o e.0 f.0 tied fs ∙ later in
                  cc
              | Greater ↦ λ _. later
            ] refl
      ] is

  -- what a look-up finds is an entry
  fails_too : CmpEqualImpliesEq R → (p : K × X → Bool) (es : List (K × X)) (k : K) (v : X) → find p es ≡ None → finite.find R k es ≡ Some v → p (k, v) ≡ false
  fails_too exact p [] k v none is = cc
  fails_too exact p (f ∷ fs) k v none is =
      elim (p f) as (λ b. p f ≡ b → cond b (Some f) (find p fs) ≡ None → p (k, v) ≡ false) [
        | true ↦ λ _ wrong. cc
        | false ↦ λ fails rest.
            elim (R k f.0) as (λ r. R k f.0 ≡ r → cond (is_eq r) (Some f.1) (finite.find R k fs) ≡ Some v → p (k, v) ≡ false) [
              | Less ↦ λ _ there. fails_too exact p fs k v rest there
              | Equal ↦ λ tied here.
                  let value : f.1 ≡ v = cc in
                  subst (λ x. p (x, v) ≡ false) (sym (exact k f.0 tied)) (subst (λ y. p (f.0, y) ≡ false) value fails)
              | Greater ↦ λ _ there. fails_too exact p fs k v rest there
            ] refl is
      ] refl none

-- a document that is found by its number is there
pub numbered_is : (m : Map) (store seq : ℕ) (e : Entry) → doc_numbered m store seq ≡ Some e → (finite.get m e.0 ≡ Some e.1) × (e.0.store ≡ store) × (e.1.seq ≡ seq)
numbered_is m store seq e is =
    let tests = both_true (e.0.store == store) (e.1.seq == seq) (passes (is_numbered store seq) (finite.entries m) e is) in (
      finite.get-entries m e.0 ∙ is_found keys_total (is_numbered store seq) (finite.entries m) e (finite.entries_sorted m) is,
      eqb-true e.0.store store tests.0,
      eqb-true e.1.seq seq tests.1,
    )

pub none_numbered : (m : Map) (store seq : ℕ) → ((k : DocKey) (d : Doc) → finite.get m k ≡ Some d → k.store ≡ store → d.seq ≡ seq → ⊥) → doc_numbered m store seq ≡ None
none_numbered m store seq apart =
    elim (doc_numbered m store seq) as (λ o. doc_numbered m store seq ≡ o → o ≡ None) [
      | None ↦ λ is. refl
      | Some e ↦ λ is. let there = numbered_is m store seq e is in absurd (apart e.0 e.1 there.0 there.1 there.2)
    ] refl

-- no two documents of a store share a number
abbrev pub AreApart : Map → Type 0
AreApart m = (k l : DocKey) (d e : Doc) → finite.get m k ≡ Some d → finite.get m l ≡ Some e → k.store ≡ l.store → d.seq ≡ e.seq → k ≡ l

pub the_numbered : (m : Map) → AreApart m → (k : DocKey) (d : Doc) → finite.get m k ≡ Some d → doc_numbered m k.store d.seq ≡ Some (k, d)
the_numbered m apart k d is =
    elim (doc_numbered m k.store d.seq) as (λ o. doc_numbered m k.store d.seq ≡ o → o ≡ Some (k, d)) [
      | None ↦ λ none.
          let fails = fails_too keys_total exact_keys (is_numbered k.store d.seq) (finite.entries m) k d none (sym (finite.get-entries m k) ∙ is) in
          let holds : is_numbered k.store d.seq (k, d) ≡ true = ap (λ b. b && (d.seq == d.seq)) (eq-eqb k.store k.store refl) ∙ eq-eqb d.seq d.seq refl in
          let wrong : true ≡ false = sym holds ∙ fails in
          cc
      | Some e ↦ λ found.
          let there = numbered_is m k.store d.seq e found in
          let key : e.0 ≡ k = apart e.0 k e.1 d there.0 is there.1 there.2 in
          let same : Some e.1 ≡ Some d = sym (subst (λ q. finite.get m q ≡ Some e.1) key there.0) ∙ is in
          let value : e.1 ≡ d = cc in
          ap (λ q. Some (q, e.1)) key ∙ ap (λ v. Some (k, v)) value
    ] refl
