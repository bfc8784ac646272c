-- A document is found by its number exactly where one with it is there by its key.
use Rattle.std.proofs.Common.{◌≡◌, ℕ, T, Bool, true, false, cond, List, [], ◌∷◌, ◌&&◌, Some, ◌↔◌, refl, sym, ap, subst, ◌∙◌}
use Rattle.std.specs.List.{find}
use Rattle.std.specs.Option.{is_none}
use Rattle.std.specs.Ordering.{eq_by_cmp, is_eq, is_lt, ordering_reverse}
use Rattle.std.specs.Cmp.{eq_by_cmp_equiv}
use Rattle.std.specs.FinMap as finite
use Rattle.std.specs.FinMap.Entries as entries
use Rattle.std.specs.declared.cmp.Ordering.{Ordering}
use Rattle.std.specs.declared.cmp.Ordering.TheVariants.{Less, Equal, Greater}
use Rattle.std.proofs.lemmas.Bool.{and_parts, and_from, cond-true, cond-false, eqb-true, eq-eqb}
use Rattle.std.proofs.lemmas.Option.{same_Some, none-some}
use Rattle.forest_model.specs.Key.{key_cmp}
use Rattle.forest_model.specs.Documents.{Map, Entry, key_at, doc_at, is_numbered, doc_numbered}
use Rattle.forest_model.specs.declared.documents.DocKey.{DocKey}
use Rattle.forest_model.specs.declared.documents.Doc.{Doc}
use Rattle.model_laws.proofs.Conditions.{some_is}
use Rattle.model_laws.proofs.Keys.{keys_total, same_key}
use Rattle.model_laws.proofs.Lists.{found_passes}

pub both_hold : (a b : Bool) → T (a && b) → (a ≡ true) × T b
both_hold true b h = (refl, h)
both_hold false b h = absurd h

pub less : (o : Ordering) → is_lt o ≡ true → o ≡ Less
less Less e = refl
less Equal e = absurd (subst T (sym e) tt)
less Greater e = absurd (subst T (sym e) tt)

-- an entry that is found behind a lower key is above it
lower : (k : DocKey) (p : Entry → Bool) (es : List Entry) (e : Entry) → T (entries.below_all key_cmp k es) → find p es ≡ Some e → key_cmp k e.0 ≡ Less
lower k p [] e s f = absurd (none-some e f)
lower k p (x ∷ es) e s f = by (p x) f (lower k p es e (both_hold _ _ s).1)
  where
    by : (b : Bool) → cond b (Some x) (find p es) ≡ Some e → (find p es ≡ Some e → key_cmp k e.0 ≡ Less) → key_cmp k e.0 ≡ Less
    by true f later = subst (λ (y : Entry). key_cmp k y.0 ≡ Less) (same_Some x e f) (less _ (both_hold _ _ s).0)
    by false f later = later f

-- what is found by a test is found by its key
by_key : (p : Entry → Bool) (es : List Entry) (e : Entry) → T (entries.is_sorted key_cmp es) → find p es ≡ Some e → entries.find key_cmp e.0 es ≡ Some e.1
by_key p [] e s f = absurd (none-some e f)
by_key p (x ∷ es) e s f = by (p x) f (by_key p es e (both_hold _ _ s).1)
  where
    below : T (entries.below_all key_cmp x.0 es)
    below = subst T (sym (both_hold _ _ s).0) tt

    by : (b : Bool) → cond b (Some x) (find p es) ≡ Some e → (find p es ≡ Some e → entries.find key_cmp e.0 es ≡ Some e.1)
        → cond (eq_by_cmp key_cmp e.0 x.0) (Some x.1) (entries.find key_cmp e.0 es) ≡ Some e.1
    by true f later =
        subst (λ (y : Entry). cond (eq_by_cmp key_cmp y.0 x.0) (Some x.1) (entries.find key_cmp y.0 es) ≡ Some y.1) (same_Some x e f)
        (cond-true _ _ _ ((eq_by_cmp_equiv keys_total).refl x.0))
    by false f later =
        cond-false _ _ _ (ap is_eq (keys_total.antisymm e.0 x.0 ∙ ap ordering_reverse (lower x.0 p es e below f))) ∙ later f

-- the document of a number
pub record IsNumbered (m : Map) (id seq : ℕ) (e : Entry) : Type 0 where
  pub store : e.0.store ≡ id
  pub numbered : e.1.seq ≡ seq
  pub there : doc_at m id e.0.key ≡ Some e.1

pub numbered_there : (m : Map) (id seq : ℕ) (e : Entry) → doc_numbered m id seq ≡ Some e → IsNumbered m id seq e
numbered_there m id seq e f =
    let p = and_parts _ _ (found_passes (is_numbered id seq) (finite.entries m) e f) in
    let at : e.0.store ≡ id = eqb-true e.0.store id p.0 in
    record {
      store = at;
      numbered = eqb-true e.1.seq seq p.1;
      there = subst (λ n. finite.get m (key_at n e.0.key) ≡ Some e.1) at (finite.get-entries m e.0 ∙ by_key (is_numbered id seq) (finite.entries m) e (finite.entries_sorted m) f);
    }

-- where an entry by its key passes a test, one is found by the test
passes_by_key : (p : Entry → Bool) (k : DocKey) (d : Doc) (es : List Entry) → p (k, d) ≡ true → entries.find key_cmp k es ≡ Some d → is_none (find p es) ≡ false
passes_by_key p k d [] t f = absurd (none-some d f)
passes_by_key p k d (x ∷ es) t f = by (eq_by_cmp key_cmp k x.0) refl f (passes_by_key p k d es t)
  where
    skip : (b : Bool) → is_none (find p es) ≡ false → is_none (cond b (Some x) (find p es)) ≡ false
    skip true h = refl
    skip false h = h

    by : (b : Bool) → eq_by_cmp key_cmp k x.0 ≡ b → cond b (Some x.1) (entries.find key_cmp k es) ≡ Some d → (entries.find key_cmp k es ≡ Some d → is_none (find p es) ≡ false)
        → is_none (cond (p x) (Some x) (find p es)) ≡ false
    by true e f later =
        let v : d ≡ x.1 = sym (same_Some x.1 d f) in
        let same : ◌≡◌ {A = Entry} (k, d) x = λ i. (same_key k x.0 e i, v i) in
        ap (λ b. is_none (cond b (Some x) (find p es))) (ap p (sym same) ∙ t)
    by false e f later = skip (p x) (later f)

pub seq_is : (m : Map) (id seq : ℕ) → (is_none (doc_numbered m id seq) ≡ false) ↔ ((key : List ℕ) × (d : Doc) × (doc_at m id key ≡ Some d) × (d.seq ≡ seq))
seq_is m id seq = (
  λ e. let found = (some_is (doc_numbered m id seq)).0 e in let h = numbered_there m id seq found.0 found.1 in (found.0.0.key, found.0.1, h.there, h.numbered),
  λ h. passes_by_key (is_numbered id seq) (key_at id h.0) h.1 (finite.entries m) (and_from _ _ (eq-eqb id id refl) (eq-eqb h.1.seq seq h.3)) (sym (finite.get-entries m (key_at id h.0)) ∙ h.2),
)
