-- Items of a batch, one after another: what a test, a look-back and the search for a missing key have at the next one.
use Rattle.std.proofs.Common.{◌≡◌, ℕ, ◌+◌, ◌<◌, Bool, true, false, List, [], ◌∷◌, ◌++◌, length, take, drop, get_or, refl, sym, ap, ◌∙◌}
use Rattle.std.specs.Prelude.{◌||◌}
use Rattle.std.specs.List.{list_any}
use Rattle.std.proofs.lemmas.List.{drop_more, take_more}
use Rattle.std.proofs.lemmas.List.Folds.{list_any_at}
use Rattle.forest_model.specs.declared.call.Item.{Item}
use Rattle.forest_model.specs.declared.call.Item.TheVariants.{Put, Del}
use Rattle.wal_index.specs.Index.{Map as Entries}
use Rattle.file_documents.specs.Batching.{lives_behind, misses}

not_true : (b c : Bool) → (b ≡ true → c ≡ true) → c ≡ false → b ≡ false
not_true true c up e = let t : c ≡ true = up refl in cc
not_true false c up e = refl

-- a test that no element passes
pub none_at : {X : Type 0} (p : X → Bool) (xs : List X) (i : ℕ) (d : X) → i < length xs → list_any p xs ≡ false → p (get_or xs i d) ≡ false
none_at p xs i d within none = not_true (p (get_or xs i d)) (list_any p xs) (list_any_at p xs i d within) none

lives_next : (item : Item) (items : List Item) (key : List ℕ) (before : Bool) → lives_behind (item ∷ items) key before ≡ lives_behind items key (lives_behind (item ∷ []) key before)
lives_next (Put k meta body) items key before = refl
lives_next (Del k) items key before = refl

pub lives_more : (xs : List Item) (i : ℕ) (d : Item) (key : List ℕ) (before : Bool) → i < length xs
    → lives_behind (drop i xs) key before ≡ lives_behind (drop (i + 1) xs) key (lives_behind (get_or xs i d ∷ []) key before)
lives_more xs i d key before within = ap (λ ys. lives_behind ys key before) (drop_more xs i d within) ∙ lives_next (get_or xs i d) (drop (i + 1) xs) key before

either : (b x : Bool) → (b || x) ≡ ((b || false) || x)
either true x = refl
either false x = refl

misses_next : (entries : Entries) (store : ℕ) (front : List Item) (item : Item) (items : List Item)
    → misses entries store front (item ∷ items) ≡ (misses entries store front (item ∷ []) || misses entries store (front ++ item ∷ []) items)
misses_next entries store front (Put k meta body) items = refl
misses_next entries store front (Del k) items = either _ (misses entries store (front ++ Del k ∷ []) items)

pub misses_more : (entries : Entries) (store : ℕ) (xs : List Item) (i : ℕ) (d : Item) → i < length xs
    → misses entries store (take i xs) (drop i xs) ≡ (misses entries store (take i xs) (get_or xs i d ∷ []) || misses entries store (take (i + 1) xs) (drop (i + 1) xs))
misses_more entries store xs i d within =
    ap (misses entries store (take i xs)) (drop_more xs i d within)
    ∙ misses_next entries store (take i xs) (get_or xs i d) (drop (i + 1) xs)
    ∙ ap (λ front. misses entries store (take i xs) (get_or xs i d ∷ []) || misses entries store front (drop (i + 1) xs)) (sym (take_more xs i d within))
