-- The items of a batch, one after another: what a look-back and the search for an absent key have at the next one, and that
-- the search finds one exactly where the items leave nothing.
use Rattle.std.proofs.Common.{◌≡◌, ◌≢◌, ℕ, ◌+◌, ◌<◌, Bool, true, false, cond, not, List, [], ◌∷◌, ◌++◌, length, take, drop, get_or, Option, Some, None, nat_eq, refl, sym, ap, subst, ◌∙◌}
use Rattle.std.specs.Prelude.{◌&&◌, ◌||◌, is_none, is_some}
use Rattle.std.specs.Ordering.{nat_cmp, eq_by_cmp}
use Rattle.std.specs.Cmp.{IsTotalOrder, Equal-is, eq_by_cmp_equiv}
use Rattle.std.specs.Cmp.Lexicographic.{slice_cmp, pointwise, bytes_decides}
use Rattle.std.specs.FinMap as finite
use Rattle.std.proofs.lemmas.Bool.Decides.{same_from_decides}
use Rattle.std.proofs.lemmas.Cmp.{then_total, on_total, nat_cmp_total, nat_list_cmp_total}
use Rattle.std.proofs.lemmas.List.{drop_more, take_more}
use Rattle.std.proofs.lemmas.Map.Lookups.{exact_pairs, exact_unsigned, exact_bytes}
use Rattle.forest_model.specs.Key.{key_cmp}
use Rattle.forest_model.specs.Documents.{Map, key_at, doc_of, doc_at, after_items}
use Rattle.forest_model.specs.declared.call.Item.{Item}
use Rattle.forest_model.specs.declared.call.Item.TheVariants.{Put, Del}
use Rattle.forest_model.specs.declared.documents.DocKey.{DocKey}
use Rattle.forest_model.specs.declared.documents.Doc.{Doc}
use Rattle.forest_oracle.specs.AtTurn.{lives_behind, misses}

-- ---- the next item

lives_next : (item : Item) (items : List Item) (key : List ℕ) (before : Bool) → lives_behind (item ∷ items) key before ≡ lives_behind items key (lives_behind (item ∷ []) key before)
lives_next (Put k meta body) items key before = refl
lives_next (Del k) items key before = refl

pub lives_more : (xs : List Item) (i : ℕ) (d : Item) (key : List ℕ) (before : Bool) → i < length xs
    → lives_behind (drop i xs) key before ≡ lives_behind (drop (i + 1) xs) key (lives_behind (get_or xs i d ∷ []) key before)
lives_more xs i d key before within = ap (λ ys. lives_behind ys key before) (drop_more xs i d within) ∙ lives_next (get_or xs i d) (drop (i + 1) xs) key before

either : (b x : Bool) → (b || x) ≡ ((b || false) || x)
either true x = refl
either false x = refl

misses_next : (documents : Map) (store : ℕ) (front : List Item) (item : Item) (items : List Item)
    → misses documents store front (item ∷ items) ≡ (misses documents store front (item ∷ []) || misses documents store (front ++ item ∷ []) items)
misses_next documents store front (Put k meta body) items = refl
misses_next documents store front (Del k) items = either _ (misses documents store (front ++ Del k ∷ []) items)

pub misses_more : (documents : Map) (store : ℕ) (xs : List Item) (i : ℕ) (d : Item) → i < length xs
    → misses documents store (take i xs) (drop i xs) ≡ (misses documents store (take i xs) (get_or xs i d ∷ []) || misses documents store (take (i + 1) xs) (drop (i + 1) xs))
misses_more documents store xs i d within =
    ap (misses documents store (take i xs)) (drop_more xs i d within)
    ∙ misses_next documents store (take i xs) (get_or xs i d) (drop (i + 1) xs)
    ∙ ap (λ front. misses documents store (take i xs) (get_or xs i d ∷ []) || misses documents store front (drop (i + 1) xs)) (sym (take_more xs i d within))

-- ---- keys of one store

keys_total : IsTotalOrder key_cmp
keys_total = then_total (on_total (λ k. k.store) nat_cmp_total) (on_total (λ k. k.key) nat_list_cmp_total)

same_key : (a b : DocKey) → eq_by_cmp key_cmp a b ≡ true → a ≡ b
same_key a b h =
    ap (λ (p : ℕ × List ℕ). record { store = p.0; key = p.1 })
    (exact_pairs nat_cmp (slice_cmp nat_cmp) exact_unsigned exact_bytes (a.store, a.key) (b.store, b.key) ((Equal-is (key_cmp a b)).0 h))

-- they are the same exactly where their bytes are
same_bytes : (id : ℕ) (k key : List ℕ) → eq_by_cmp key_cmp (key_at id k) (key_at id key) ≡ pointwise nat_eq key k
same_bytes id k key = same_from_decides _ _ (
  λ t i. (sym (same_key (key_at id k) (key_at id key) t) i).key,
  λ e. subst (λ y. eq_by_cmp key_cmp (key_at id k) (key_at id y) ≡ true) (sym e) ((eq_by_cmp_equiv keys_total).refl (key_at id k)),
) (bytes_decides key k)

lives_put : (m : Map) (store : ℕ) (k key : List ℕ) (d : Doc) → is_some (doc_at (finite.insert m (key_at store k) d) store key) ≡ (pointwise nat_eq k key || is_some (doc_at m store key))
lives_put m store k key d =
    ap is_some (finite.get-insert keys_total m (key_at store k) d (key_at store key)) ∙ ap (λ b. is_some (cond b (Some d) (doc_at m store key))) (same_bytes store key k) ∙ by (pointwise nat_eq k key)
  where
    by : (b : Bool) → is_some (cond b (Some d) (doc_at m store key)) ≡ (b || is_some (doc_at m store key))
    by true = refl
    by false = refl

lives_deleted : (m : Map) (store : ℕ) (k key : List ℕ) → is_some (doc_at (finite.remove m (key_at store k)) store key) ≡ (not (pointwise nat_eq k key) && is_some (doc_at m store key))
lives_deleted m store k key =
    ap is_some (finite.get-remove keys_total m (key_at store k) (key_at store key)) ∙ ap (λ b. is_some (cond b None (doc_at m store key))) (same_bytes store key k) ∙ by (pointwise nat_eq k key)
  where
    by : (b : Bool) → is_some (cond b None (doc_at m store key)) ≡ (not b && is_some (doc_at m store key))
    by true = refl
    by false = refl

-- ---- an absent key

-- whether a key has a document behind one item
abbrev lives_with : Item → List ℕ → Bool → Bool
lives_with (Put k meta body) key before = pointwise nat_eq k key || before
lives_with (Del k) key before = not (pointwise nat_eq k key) && before

lives_last : (front : List Item) (item : Item) (key : List ℕ) (before : Bool) → lives_behind (front ++ item ∷ []) key before ≡ lives_with item key (lives_behind front key before)
lives_last [] (Put k meta body) key before = refl
lives_last [] (Del k) key before = refl
lives_last (Put k meta body ∷ front) item key before = lives_last front item key (pointwise nat_eq k key || before)
lives_last (Del k ∷ front) item key before = lives_last front item key (not (pointwise nat_eq k key) && before)

-- among items behind others, whose documents are those of `m`, one deletes an absent key exactly where they leave nothing
misses_is : (documents : Map) (store : ℕ) (items front : List Item) (seq : ℕ) (m : Map) → ((key : List ℕ) → lives_behind front key (is_some (doc_at documents store key)) ≡ is_some (doc_at m store key))
    → misses documents store front items ≡ is_none (after_items store items seq m)
misses_is documents store [] front seq m lives = refl
misses_is documents store (Put k meta body ∷ items) front seq m lives =
    misses_is documents store items (front ++ Put k meta body ∷ []) (seq + 1) (finite.insert m (key_at store k) (doc_of (seq + 1) meta body)) (λ key.
    lives_last front (Put k meta body) key (is_some (doc_at documents store key)) ∙ ap (λ b. pointwise nat_eq k key || b) (lives key)
    ∙ sym (lives_put m store k key (doc_of (seq + 1) meta body)))
misses_is documents store (Del k ∷ items) front seq m lives =
    ap (λ b. not b || misses documents store (front ++ Del k ∷ []) items) (lives k)
    ∙ by (is_some (doc_at m store k)) (misses_is documents store items (front ++ Del k ∷ []) (seq + 1) (finite.remove m (key_at store k)) (λ key.
    lives_last front (Del k) key (is_some (doc_at documents store key)) ∙ ap (λ b. not (pointwise nat_eq k key) && b) (lives key) ∙ sym (lives_deleted m store k key))) where
      by : (b : Bool) → misses documents store (front ++ Del k ∷ []) items ≡ is_none (after_items store items (seq + 1) (finite.remove m (key_at store k)))
          → (not b || misses documents store (front ++ Del k ∷ []) items) ≡ is_none (cond b (after_items store items (seq + 1) (finite.remove m (key_at store k))) None)
      by true later = later
      by false later = refl

pub absent_is : (documents : Map) (store : ℕ) (items : List Item) (seq : ℕ) → misses documents store [] items ≡ is_none (after_items store items seq documents)
absent_is documents store items seq = misses_is documents store items [] seq documents (λ key. refl)
