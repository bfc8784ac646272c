-- A list from a place on.
use Rattle.std.proofs.Common.{◌≡◌, ◌<◌, ◌≤◌, ◌+◌, ℕ, Bool, true, false, ◌&&◌, List, ◌∷◌, length, drop, Some, None, sym, ◌∙◌, ap, inl, inr, arith}
use Rattle.std.specs.List.{list_all, slice_get}
use Rattle.std.proofs.lemmas.List.{drop_more}
use Rattle.std.proofs.lemmas.Option.{slice_get_cases, none-some}
use Rattle.forest_model.specs.Stored.{StoreRow}
use Rattle.header_block.specs.Layout.{is_before, are_apart}

pub at_place : {X : Type 0} (xs : List X) (n : ℕ) → n < length xs → (x : X) × (slice_get xs n ≡ Some x) × (drop n xs ≡ x ∷ drop (n + 1) xs)
at_place {X} xs n within =
    elim (slice_get_cases xs n).1 [
      | inl here ↦ (here.0, here.2, drop_more xs n here.0 within ∙ ap (λ (x : X). x ∷ drop (n + 1) xs) here.3)
      | inr past ↦ absurd (let le : length xs ≤ n = past.0 in omega arith)
    ]

pub some_within : {X : Type 0} (xs : List X) (n : ℕ) → n < length xs → slice_get xs n ≡ None → ⊥
some_within xs n within none = let here = at_place xs n within in none-some here.0 (sym none ∙ here.1)

-- a test of each element from a place on
pub list_all_passed : {X : Type 0} (p : X → Bool) (xs : List X) (n : ℕ) → n < length xs → ((x : X) → slice_get xs n ≡ Some x → true ≡ p x) → list_all p (drop n xs) ≡ list_all p (drop (n + 1) xs)
list_all_passed p xs n within passed =
    let here = at_place xs n within in
    ap (list_all p) here.2 ∙ ap (λ (b : Bool). b && list_all p (drop (n + 1) xs)) (sym (passed here.0 here.1))

pub list_all_failed : {X : Type 0} (p : X → Bool) (xs : List X) (n : ℕ) → n < length xs → ((x : X) → slice_get xs n ≡ Some x → false ≡ p x) → list_all p (drop n xs) ≡ false
list_all_failed p xs n within failed =
    let here = at_place xs n within in
    ap (list_all p) here.2 ∙ ap (λ (b : Bool). b && list_all p (drop (n + 1) xs)) (sym (failed here.0 here.1))

-- the same of each store against the later ones
pub are_apart_passed : (xs : List StoreRow) (n : ℕ) → n < length xs → ((s : StoreRow) → slice_get xs n ≡ Some s → true ≡ list_all (is_before s) (drop (n + 1) xs)) → are_apart (drop n xs) ≡ are_apart (drop (n + 1) xs)
are_apart_passed xs n within passed =
    let here = at_place xs n within in
    ap are_apart here.2 ∙ ap (λ (b : Bool). b && are_apart (drop (n + 1) xs)) (sym (passed here.0 here.1))

pub are_apart_failed : (xs : List StoreRow) (n : ℕ) → n < length xs → ((s : StoreRow) → slice_get xs n ≡ Some s → false ≡ list_all (is_before s) (drop (n + 1) xs)) → are_apart (drop n xs) ≡ false
are_apart_failed xs n within failed =
    let here = at_place xs n within in
    ap are_apart here.2 ∙ ap (λ (b : Bool). b && are_apart (drop (n + 1) xs)) (sym (failed here.0 here.1))
