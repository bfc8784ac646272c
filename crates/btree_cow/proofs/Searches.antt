-- What a binary search for a chunk finds.
use Rattle.std.proofs.Common.{◌≡◌, ℕ, zero, suc, ◌<◌, ◌≤◌, Bool, true, false, List, [], ◌∷◌, length, take, drop, get_or, refl, arith}
use Rattle.std.specs.Prelude.{nat_lt}
use Rattle.std.specs.List.{list_all}
use Rattle.std.specs.List.Sorted.{IsPartitionPoint}
use Rattle.std.proofs.lemmas.Bool.{and_parts, and_from, ltb-true, ltb-false, le-leb}
use Rattle.node_page.specs.Nodes.{Entry, rises}
use Rattle.btree_cow.specs.Growing.{IsCount}
use Rattle.btree_cow.proofs.WithEntries.{is_over, is_under, is_from}

all_at : (p : Entry → Bool) (xs : List Entry) (n : ℕ) (d : Entry) → n < length xs → list_all p xs ≡ true → p (get_or xs n d) ≡ true
all_at p [] n d within all = absurd (omega arith)
all_at p (x ∷ xs) zero d within all = (and_parts (p x) (list_all p xs) all).0
all_at p (x ∷ xs) (suc n) d within all = all_at p xs n d (omega arith) (and_parts (p x) (list_all p xs) all).1

-- rising chunks are in order
pub rises_order : (xs : List Entry) → rises xs ≡ true → (i j : ℕ) (d : Entry) → i ≤ j → j < length xs → (get_or xs i d).0 ≤ (get_or xs j d).0
rises_order [] rise i j d le within = absurd (omega arith)
rises_order (x ∷ xs) rise zero zero d le within = omega arith
rises_order (x ∷ xs) rise zero (suc j) d le within =
    let over = (and_parts (list_all (is_over x.0) xs) (rises xs) rise).0 in
    let less : x.0 < (get_or xs j d).0 = ltb-true x.0 (get_or xs j d).0 (all_at (is_over x.0) xs j d (omega arith) over) in
    omega arith
rises_order (x ∷ xs) rise (suc i) zero d le within = absurd (omega arith)
rises_order (x ∷ xs) rise (suc i) (suc j) d le within = rises_order xs (and_parts (list_all (is_over x.0) xs) (rises xs) rise).1 i j d (omega arith) (omega arith)

all_taken : (p : Entry → Bool) (xs : List Entry) (n : ℕ) → n ≤ length xs → ((k : ℕ) (d : Entry) → k < n → p (get_or xs k d) ≡ true) → list_all p (take n xs) ≡ true
all_taken p xs zero within each = refl
all_taken p [] (suc n) within each = refl
all_taken p (x ∷ xs) (suc n) within each = and_from (p x) (list_all p (take n xs)) (each 0 x (omega arith)) (all_taken p xs n (omega arith) (λ k d h. each (suc k) d (omega arith)))

all_dropped : (p : Entry → Bool) (xs : List Entry) (n : ℕ) → ((k : ℕ) (d : Entry) → n ≤ k → k < length xs → p (get_or xs k d) ≡ true) → list_all p (drop n xs) ≡ true
all_dropped p [] zero each = refl
all_dropped p (x ∷ xs) zero each = and_from (p x) (list_all p xs) (each 0 x (omega arith) (omega arith)) (all_dropped p xs zero (λ k d low h. each (suc k) d (omega arith) (omega arith)))
all_dropped p [] (suc n) each = refl
all_dropped p (x ∷ xs) (suc n) each = all_dropped p xs n (λ k d low h. each (suc k) d (omega arith) (omega arith))

pub count_of : (xs : List Entry) (chunk n : ℕ) → n ≤ length xs → IsPartitionPoint (λ (e : Entry). nat_lt e.0 chunk ≡ true) (λ (e : Entry). nat_lt e.0 chunk ≡ false) xs n → IsCount xs chunk n
count_of xs chunk n within point = record {
  within = within;
  before = all_taken (is_under chunk) xs n within (λ k d h. point.0 k d (omega arith) h);
  behind = all_dropped (is_from chunk) xs n (λ k d low h. le-leb chunk (get_or xs k d).0 (ltb-false (get_or xs k d).0 chunk (point.1 k d low h)));
}
