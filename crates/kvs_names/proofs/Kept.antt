-- What `retain` keeps of rows, and rows that are replaced one after another.
use Rattle.std.proofs.Common.{◌≡◌, ℕ, suc, zero, ◌<◌, ◌≤◌, ◌+◌, Bool, true, false, cond, List, [], ◌∷◌, ◌++◌, length, take, drop, map, filter, refl, sym, ap, ◌∙◌, subst, inl, inr, arith, get_or}
use Rattle.std.proofs.Math.ListN.{set}
use Rattle.std.specs.Prelude.{Some, None, slice_get}
use Rattle.std.specs.List.{refill}
use Rattle.std.specs.List.Retain.{RetainsInTurn}
use Rattle.std.proofs.lemmas.List.{take_at, take_more, map-append}
use Rattle.std.proofs.lemmas.Option.{get_or_from_slice_get, slice_get_cases, none-some}
use Rattle.forest_model.specs.Stored.{StoreRow}
use Rattle.kvs_names.specs.declared.row.Row.{Row}
use Rattle.kvs_names.specs.Row.{row_of}

chosen : (b : Bool) (x : Row) (zs : List Row) → map row_of (cond b (x ∷ zs) zs) ≡ cond b (row_of x ∷ map row_of zs) (map row_of zs)
chosen true x zs = refl
chosen false x zs = refl

-- a closure that only tests, and stays as it was, leaves a filter
pub kept_rows : {F : Type 0} (T : F → Row → Bool → F → Row → Type 0) (p : StoreRow → Bool) (f : F) → ((r : Row) (b : Bool) (g : F) (q : Row) → T f r b g q → (b ≡ p (row_of r)) × (q ≡ r) × (g ≡ f))
    → (xs ys : List Row) → RetainsInTurn T f xs ys → map row_of ys ≡ filter p (map row_of xs)
kept_rows T p f same [] ys h = ap (map row_of) h
kept_rows T p f same (x ∷ xs) ys h =
    let s = same x h.0 h.1 h.2 h.3 in
    let rest : map row_of h.4 ≡ filter p (map row_of xs) = kept_rows T p f same xs h.4 (subst (λ g. RetainsInTurn T g xs h.4) s.2 h.5) in
    ap (map row_of) h.6
    ∙ ap (λ q. map row_of (cond h.0 (q ∷ h.4) h.4)) s.1
    ∙ chosen h.0 x h.4
    ∙ ap (λ b. cond b (row_of x ∷ map row_of h.4) (map row_of h.4)) s.0
    ∙ ap (λ zs. cond (p (row_of x)) (row_of x ∷ zs) zs) rest

-- one row after another is replaced by what f makes of it
pub next_mapped : {X : Type 0} (f : X → X) (xs : List X) (i : ℕ) (x : X) → i < length xs → get_or (map f (take i xs) ++ drop i xs) i x ≡ x
    → set (map f (take i xs) ++ drop i xs) i (f x) ≡ map f (take (suc i) xs) ++ drop (suc i) xs
next_mapped f [] i x l h = absurd (omega arith)
next_mapped f (y ∷ ys) zero x l h = ap (λ z. f z ∷ ys) (sym h)
next_mapped f (y ∷ ys) (suc i) x l h = ap (λ r. f y ∷ r) (next_mapped f ys i x (omega arith) h)

-- a slice that was written is the whole list
pub refilled : (xs ws : List Row) → length ws ≡ length xs → refill (length xs) xs ws ≡ ws
refilled xs ws same = take_at ws (drop (length ws) xs) (length xs) same

-- one store more was taken in
pub taken_more : (rows : List Row) (r : Row) (stores : List StoreRow) (s : StoreRow) (n : ℕ) → n < length stores → map row_of rows ≡ take n stores → slice_get stores n ≡ Some s → row_of r ≡ s
    → map row_of (rows ++ r ∷ []) ≡ take (n + 1) stores
taken_more rows r stores s n within so_far there is =
    map-append row_of rows (r ∷ [])
    ∙ ap (λ xs. xs ++ row_of r ∷ []) so_far
    ∙ ap (λ x. take n stores ++ x ∷ []) (is ∙ sym (get_or_from_slice_get stores n s s there))
    ∙ sym (take_more stores n s within)

pub some_within : (stores : List StoreRow) (n : ℕ) → n < length stores → slice_get stores n ≡ None → ⊥
some_within stores n within none =
    elim (slice_get_cases stores n).1 [
      | inl here ↦ none-some here.0 (sym none ∙ here.2)
      | inr past ↦ absurd (let le : length stores ≤ n = past.0 in omega arith)
    ]
