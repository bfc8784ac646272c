-- A page that is written front first.
use Rattle.std.proofs.Common.{◌≡◌, ◌<◌, ◌+◌, ◌-◌, ◌^◌, ℕ, suc, true, get_or, List, [], ◌∷◌, ◌++◌, length, take, drop, replicate, refl, sym, ◌∙◌, ap, arith, append_assoc, length-append}
use Rattle.std.proofs.lemmas.List.{take_at, drop_at, take_more, drop-replicate, flat_map_more}
use Rattle.std.proofs.lemmas.List.Folds.{list_all_more}
use Rattle.std.proofs.lemmas.Bool.{and_from, lt-ltb}
use Rattle.std.specs.List.{flat_map, list_all}
use Rattle.node_page.specs.Nodes.{Entry, fits}
use Rattle.node_page.specs.Stems.{is_long}
use borrow.Rule.Slice.PartMut.{put_mid}

-- a part that is put behind the front
put_behind : (n : ℕ) (front part : List ℕ)
    → put_mid (length front) (length part) (front ++ replicate (n - length front) 0) part ≡ (front ++ part) ++ replicate (n - length (front ++ part)) 0
put_behind n front part =
    let zeros : List ℕ = replicate (n - length front) 0 in
    ap (λ (xs : List ℕ). xs ++ (part ++ drop (length part) (drop (length front) (front ++ zeros)))) (take_at front zeros (length front) refl)
    ∙ ap (λ (xs : List ℕ). front ++ (part ++ drop (length part) xs)) (drop_at front zeros (length front) refl)
    ∙ ap (λ (xs : List ℕ). front ++ (part ++ xs)) (drop-replicate (length part) (n - length front) 0)
    ∙ ap (λ (k : ℕ). front ++ (part ++ replicate k 0)) (omega (arith, length-append front part))
    ∙ sym (append_assoc front part (replicate (n - length (front ++ part)) 0))

pub put_page : (n : ℕ) (front part old new : List ℕ) (from : ℕ) → from ≡ length front → old ≡ front ++ replicate (n - length front) 0 → new ≡ part
    → put_mid from (from + length part - from) old new ≡ (front ++ part) ++ replicate (n - length (front ++ part)) 0
put_page n front part old new from from_is old_is new_is =
    ap (λ (k : ℕ). put_mid from k old new) (let e : from + length part - from ≡ length part = omega arith in e)
    ∙ ap (λ (xs : List ℕ). put_mid from (length part) old xs) new_is
    ∙ ap (λ (xs : List ℕ). put_mid from (length part) xs part) old_is
    ∙ ap (λ (k : ℕ). put_mid k (length part) (front ++ replicate (n - length front) 0) part) from_is
    ∙ put_behind n front part

-- one part more
pub one_more : {A : Type 0} (write : A → List ℕ) (front : List ℕ) (xs : List A) (n : ℕ) (d : A) → n < length xs
    → (front ++ flat_map write (take n xs)) ++ write (get_or xs n d) ≡ front ++ flat_map write (take (n + 1) xs)
one_more {A} write front xs n d within = flat_map_more write front (take n xs) (get_or xs n d) ∙ ap (λ (ys : List A). front ++ flat_map write ys) (sym (take_more xs n d within))

-- one entry more that fits
pub one_fits : (xs : List Entry) (n : ℕ) (d : Entry) → n < length xs → list_all fits (take n xs) ≡ true
    → (get_or xs n d).0 < 2 ^ 64 → (get_or xs n d).1 < 2 ^ 64 → list_all fits (take (n + 1) xs) ≡ true
one_fits xs n d within before chunk value =
    list_all_more fits xs n d within
    ∙ and_from (list_all fits (take n xs)) (fits (get_or xs n d)) before (and_from _ _ (lt-ltb (get_or xs n d).0 (2 ^ 64) chunk) (lt-ltb (get_or xs n d).1 (2 ^ 64) value))

-- numbers of a slice fit
pub all_long : (xs : List ℕ) → ((i : ℕ) → get_or xs i 0 < 2 ^ 64) → list_all is_long xs ≡ true
all_long [] small = refl
all_long (x ∷ xs) small = and_from (is_long x) (list_all is_long xs) (lt-ltb x (2 ^ 64) (small 0)) (all_long xs (λ i. small (suc i)))
