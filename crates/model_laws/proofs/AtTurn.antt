-- The deletes of a batch find their keys exactly where the items leave documents.
use Rattle.std.proofs.Common.{◌≡◌, ℕ, ◌+◌, Bool, true, false, cond, not, ◌&&◌, ◌||◌, List, [], ◌∷◌, Option, Some, None, nat_eq, ◌↔◌, refl, sym, ap, subst, ◌∙◌}
use Rattle.std.specs.Bool.{IsTrue}
use Rattle.std.specs.Option.{is_none, is_some}
use Rattle.std.specs.Ordering.{eq_by_cmp}
use Rattle.std.specs.Cmp.{eq_by_cmp_equiv}
use Rattle.std.specs.Cmp.Lexicographic.{pointwise, bytes_decides}
use Rattle.std.specs.FinMap as finite
use Rattle.std.proofs.lemmas.Bool.{true≢false}
use Rattle.std.proofs.lemmas.Bool.Decides.{same_from_decides}
use Rattle.forest_model.specs.Key.{key_cmp}
use Rattle.forest_model.specs.Documents.{Map, key_at, doc_of, doc_at, after_items}
use Rattle.forest_model.specs.declared.call.Item.{Item}
use Rattle.forest_model.specs.declared.call.Item.TheVariants.{Put, Del}
use Rattle.forest_model.specs.declared.documents.Doc.{Doc}
use Rattle.model_laws.specs.Answered.{FindsEach}
use Rattle.model_laws.proofs.Keys.{keys_total, same_key}

-- keys of one store are the same exactly where their bytes are
same_bytes : (id : ℕ) (k key : List ℕ) → eq_by_cmp key_cmp (key_at id k) (key_at id key) ≡ pointwise nat_eq k key
same_bytes id k key = same_from_decides _ _ (
  λ t i. (same_key (key_at id k) (key_at id key) t i).key,
  λ e. subst (λ y. eq_by_cmp key_cmp (key_at id k) (key_at id y) ≡ true) e ((eq_by_cmp_equiv keys_total).refl (key_at id k)),
) (bytes_decides k key)

-- whether a key is there after a change
there_put : (m : Map) (id : ℕ) (key : List ℕ) (d : Doc) (k : List ℕ) → is_some (doc_at (finite.insert m (key_at id key) d) id k) ≡ (pointwise nat_eq k key || is_some (doc_at m id k))
there_put m id key d k =
    ap is_some (finite.get-insert keys_total m (key_at id key) d (key_at id k)) ∙ ap (λ b. is_some (cond b (Some d) (doc_at m id k))) (same_bytes id k key) ∙ by (pointwise nat_eq k key)
  where
    by : (b : Bool) → is_some (cond b (Some d) (doc_at m id k)) ≡ (b || is_some (doc_at m id k))
    by true = refl
    by false = refl

there_del : (m : Map) (id : ℕ) (key k : List ℕ) → is_some (doc_at (finite.remove m (key_at id key)) id k) ≡ (not (pointwise nat_eq k key) && is_some (doc_at m id k))
there_del m id key k =
    ap is_some (finite.get-remove keys_total m (key_at id key) (key_at id k)) ∙ ap (λ b. is_some (cond b None (doc_at m id k))) (same_bytes id k key) ∙ by (pointwise nat_eq k key)
  where
    by : (b : Bool) → is_some (cond b None (doc_at m id k)) ≡ (not b && is_some (doc_at m id k))
    by true = refl
    by false = refl

finds_del : (id : ℕ) (key : List ℕ) (items : List Item) (o : Option (ℕ × Map)) (m : Map)
    → (is_none o ≡ false) ↔ FindsEach (λ k. is_some (doc_at (finite.remove m (key_at id key)) id k)) items
    → (is_none (cond (is_some (doc_at m id key)) o None) ≡ false) ↔ FindsEach (λ k. is_some (doc_at m id k)) (Del key ∷ items)
finds_del id key items o m later = by (is_some (doc_at m id key)) (subst (λ there. (is_none o ≡ false) ↔ FindsEach there items) (λ i k. there_del m id key k i) later)
  where
    by : (b : Bool) → (is_none o ≡ false) ↔ FindsEach (λ k. not (pointwise nat_eq k key) && is_some (doc_at m id k)) items
        → (is_none (cond b o None) ≡ false) ↔ (IsTrue b × FindsEach (λ k. not (pointwise nat_eq k key) && is_some (doc_at m id k)) items)
    by true l = (λ e. (refl, l.0 e), λ h. l.1 h.1)
    by false l = (λ e. absurd (true≢false e), λ h. absurd (true≢false (sym h.0)))

pub finds_each : (id : ℕ) (items : List Item) (seq : ℕ) (m : Map) → (is_none (after_items id items seq m) ≡ false) ↔ FindsEach (λ key. is_some (doc_at m id key)) items
finds_each id [] seq m = (λ e. tt, λ h. refl)
finds_each id (Put key meta body ∷ items) seq m =
    subst (λ there. (is_none (after_items id items (seq + 1) (finite.insert m (key_at id key) (doc_of (seq + 1) meta body))) ≡ false) ↔ FindsEach there items)
    (λ i k. there_put m id key (doc_of (seq + 1) meta body) k i)
    (finds_each id items (seq + 1) (finite.insert m (key_at id key) (doc_of (seq + 1) meta body)))
finds_each id (Del key ∷ items) seq m =
    finds_del id key items (after_items id items (seq + 1) (finite.remove m (key_at id key))) m (finds_each id items (seq + 1) (finite.remove m (key_at id key)))
