-- The bytes of a chunk as a window on the key.
use Rattle.std.proofs.Common.{◌≡◌, ℕ, zero, suc, ◌+◌, ◌<◌, ◌≤◌, min, List, [], ◌∷◌, ◌++◌, length, take, drop, replicate, nat_cmp, Ordering, Less, Greater, refl, sym, ap, ◌∙◌, arith}
use Rattle.std.specs.Ordering.{ordering_then, ordering_reverse}
use Rattle.std.specs.Cmp.Lexicographic.{slice_cmp, nat_list_cmp_total}
use Rattle.std.proofs.lemmas.Cmp.{tied_itself}
use Rattle.std.proofs.lemmas.Bool.Decides.{nat_tests}
use Rattle.key_chunks.specs.Chunks.{first_group, count_byte}
use Rattle.key_chunks.proofs.Horner.{AreBytes, then_then}

-- the first k bytes of a key, with zeros behind its end, and then how many were seen, one more where something follows
abbrev pub window : ℕ → ℕ → List ℕ → List ℕ
window zero seen [] = seen ∷ []
window zero seen (b ∷ bs) = (seen + 1) ∷ []
window (suc k) seen [] = 0 ∷ window k seen []
window (suc k) seen (b ∷ bs) = b ∷ window k (seen + 1) bs

pub length_window : (k seen : ℕ) (key : List ℕ) → length (window k seen key) ≡ suc k
length_window zero seen [] = refl
length_window zero seen (b ∷ bs) = refl
length_window (suc k) seen [] = omega (arith, length_window k seen [])
length_window (suc k) seen (b ∷ bs) = omega (arith, length_window k (seen + 1) bs)

pub small_window : (k seen : ℕ) (key : List ℕ) → seen + k + 1 < 256 → AreBytes key → AreBytes (window k seen key)
small_window zero seen [] few small = (omega arith, tt)
small_window zero seen (b ∷ bs) few small = (omega arith, tt)
small_window (suc k) seen [] few small = (omega arith, small_window k seen [] (omega arith) tt)
small_window (suc k) seen (b ∷ bs) few small = (small.0, small_window k (seen + 1) bs (omega arith) small.1)

window_is : (k m seen : ℕ) (key : List ℕ) → k ≤ m → window k seen key ≡ take k (key ++ replicate m 0) ++ (seen + min (length key) (suc k)) ∷ []
window_is zero m seen [] within = ap (λ (n : ℕ). n ∷ []) (let e : seen ≡ seen + min 0 1 = omega arith in e)
window_is zero m seen (b ∷ bs) within = ap (λ (n : ℕ). n ∷ []) (let e : seen + 1 ≡ seen + min (suc (length bs)) 1 = omega arith in e)
window_is (suc k) zero seen key within = absurd (omega arith)
window_is (suc k) (suc m) seen [] within =
    let e : seen + min 0 (suc k) ≡ seen + min 0 (suc (suc k)) = omega arith in
    ap (λ (r : List ℕ). 0 ∷ r) (window_is k m seen [] (omega arith) ∙ ap (λ (n : ℕ). take k (replicate m 0) ++ n ∷ []) e)
window_is (suc k) (suc m) seen (b ∷ bs) within =
    let e : seen + 1 + min (length bs) (suc k) ≡ seen + min (suc (length bs)) (suc (suc k)) = omega arith in
    ap (λ (r : List ℕ). b ∷ r) (window_is k (suc m) (seen + 1) bs (omega arith) ∙ ap (λ (n : ℕ). take k (bs ++ replicate (suc m) 0) ++ n ∷ []) e)

count_is : (key : List ℕ) → count_byte key ≡ 0 + min (length key) 8
count_is key = grind (arith, nat_tests)

pub group_window : (key : List ℕ) → first_group key ++ count_byte key ∷ [] ≡ window 7 0 key
group_window key = ap (λ (n : ℕ). first_group key ++ n ∷ []) (count_is key) ∙ sym (window_is 7 7 0 key (omega arith))

-- ---- the order of windows

less : (a b : ℕ) → a < b → nat_cmp a b ≡ Less
less a b h = grind (arith, nat_tests)

-- what has ended stands before what has seen more
seen_less : (k a b : ℕ) (key : List ℕ) → a < b → slice_cmp nat_cmp (window k a []) (window k b key) ≡ Less
seen_less zero a b [] h = rw (less a b h) refl
seen_less zero a b (y ∷ ys) h = rw (less a (b + 1) (omega arith)) refl
seen_less (suc k) a b [] h = seen_less k a b [] h
seen_less (suc k) a b (zero ∷ ys) h = seen_less k a (b + 1) ys (omega arith)
seen_less (suc k) a b (suc y ∷ ys) h = rw (less 0 (suc y) (omega arith)) refl

ended : (k seen y : ℕ) (ys : List ℕ) → slice_cmp nat_cmp (window k seen []) (window k seen (y ∷ ys)) ≡ Less
ended zero seen y ys = rw (less seen (seen + 1) (omega arith)) refl
ended (suc k) seen zero ys = seen_less k seen (seen + 1) ys (omega arith)
ended (suc k) seen (suc y) ys = rw (less 0 (suc y) (omega arith)) refl

ended_back : (k seen x : ℕ) (xs : List ℕ) → slice_cmp nat_cmp (window k seen (x ∷ xs)) (window k seen []) ≡ Greater
ended_back k seen x xs = nat_list_cmp_total.antisymm (window k seen (x ∷ xs)) (window k seen []) ∙ ap ordering_reverse (ended k seen x xs)

-- the windows decide, and where they are alike what follows them does
pub windows : (k seen : ℕ) (x y : List ℕ) → ordering_then (slice_cmp nat_cmp (window k seen x) (window k seen y)) (slice_cmp nat_cmp (drop k x) (drop k y)) ≡ slice_cmp nat_cmp x y
windows zero seen [] [] = rw (tied_itself nat_list_cmp_total (window zero seen [])) refl
windows (suc k) seen [] [] = rw (tied_itself nat_list_cmp_total (window (suc k) seen [])) refl
windows k seen [] (y ∷ ys) = rw (ended k seen y ys) refl
windows k seen (x ∷ xs) [] = rw (ended_back k seen x xs) refl
windows zero seen (x ∷ xs) (y ∷ ys) = rw (tied_itself nat_list_cmp_total (window zero seen (x ∷ xs))) refl
windows (suc k) seen (x ∷ xs) (y ∷ ys) =
    then_then (nat_cmp x y) (slice_cmp nat_cmp (window k (seen + 1) xs) (window k (seen + 1) ys)) (slice_cmp nat_cmp (drop k xs) (drop k ys))
    ∙ ap (λ (o : Ordering). ordering_then (nat_cmp x y) o) (windows k (seen + 1) xs ys)
