-- What stands in the eight bytes of a chunk when they are filled in turn.
use Rattle.std.proofs.Common.{◌≡◌, ℕ, zero, suc, ◌≤◌, min, List, [], ◌∷◌, ◌++◌, length, take, drop, set, replicate, ap, ◌∙◌, arith}

-- zeros, the first of them overwritten by the key's first bytes, and the last one by a count
pub filled : (k m count : ℕ) (key : List ℕ) → k ≤ m → set (take (min (length key) k) key ++ drop (min (length key) k) (replicate (suc k) 0)) k count ≡ take k (key ++ replicate m 0) ++ count ∷ []
filled zero m count key within =
    let e : min (length key) 0 ≡ 0 = omega arith in
    ap (λ (n : ℕ). set (take n key ++ drop n (replicate 1 0)) 0 count) e
filled (suc k) zero count key within = absurd (omega arith)
filled (suc k) (suc m) count [] within =
    let e : min 0 (suc k) ≡ 0 = omega arith in
    let f : 0 ≡ min 0 k = omega arith in
    ap (λ (n : ℕ). set (take n [] ++ drop n (replicate (suc (suc k)) 0)) (suc k) count) e
    ∙ ap (λ (r : List ℕ). 0 ∷ r) (ap (λ (n : ℕ). set (take n [] ++ drop n (replicate (suc k) 0)) k count) f ∙ filled k m count [] (omega arith))
filled (suc k) (suc m) count (b ∷ bs) within =
    let e : min (suc (length bs)) (suc k) ≡ suc (min (length bs) k) = omega arith in
    ap (λ (n : ℕ). set (take n (b ∷ bs) ++ drop n (replicate (suc (suc k)) 0)) (suc k) count) e
    ∙ ap (λ (r : List ℕ). b ∷ r) (filled k (suc m) count bs (omega arith))
