-- Tables with the same stores at the same sequence numbers.
use Rattle.std.proofs.Common.{◌≡◌, ◌<◌, ◌≤◌, ◌+◌, ℕ, Bool, ◌&&◌, List, ◌∷◌, length, drop, Some, sym, ◌∙◌, ap, inl, inr, arith}
use Rattle.std.specs.List.{slice_get}
use Rattle.std.proofs.lemmas.List.{drop_more}
use Rattle.std.proofs.lemmas.Option.{slice_get_cases}
use Rattle.forest_model.specs.Stored.{StoreRow}
use Rattle.file_commit.specs.Committing.{is_same_row, are_same_rows}

pub at_place : {X : Type 0} (xs : List X) (n : ℕ) → n < length xs → (x : X) × (slice_get xs n ≡ Some x) × (drop n xs ≡ x ∷ drop (n + 1) xs)
at_place {X} xs n within =
    elim (slice_get_cases xs n).1 [
      | inl here ↦ (here.0, here.2, drop_more xs n here.0 within ∙ ap (λ (x : X). x ∷ drop (n + 1) xs) here.3)
      | inr past ↦ absurd (let le : length xs ≤ n = past.0 in omega arith)
    ]

-- two lists from a place on, where both have an element that is tested
pub same_from : (xs ys : List StoreRow) (n : ℕ) (t : Bool) → n < length xs → n < length ys → ((a b : StoreRow) → slice_get xs n ≡ Some a → slice_get ys n ≡ Some b → t ≡ is_same_row a b)
    → are_same_rows (drop n xs) (drop n ys) ≡ (t && are_same_rows (drop (n + 1) xs) (drop (n + 1) ys))
same_from xs ys n t x_within y_within tested =
    let x = at_place xs n x_within in
    let y = at_place ys n y_within in
    (λ i. are_same_rows (x.2 i) (y.2 i)) ∙ ap (λ (b : Bool). b && are_same_rows (drop (n + 1) xs) (drop (n + 1) ys)) (sym (tested x.0 y.0 x.1 y.1))
