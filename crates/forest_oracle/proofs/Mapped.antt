-- One element after another is replaced by what f makes of it.
use Rattle.std.proofs.Common.{◌≡◌, ℕ, suc, zero, ◌<◌, List, [], ◌∷◌, ◌++◌, length, take, drop, map, sym, ap, arith, get_or}
use Rattle.std.proofs.Math.ListN.{set}

pub next_mapped : {X : Type 0} (f : X → X) (xs : List X) (i : ℕ) (x : X) → i < length xs → get_or (map f (take i xs) ++ drop i xs) i x ≡ x
    → set (map f (take i xs) ++ drop i xs) i (f x) ≡ map f (take (suc i) xs) ++ drop (suc i) xs
next_mapped f [] i x l h = absurd (omega arith)
next_mapped f (y ∷ ys) zero x l h = ap (λ z. f z ∷ ys) (sym h)
next_mapped f (y ∷ ys) (suc i) x l h = ap (λ r. f y ∷ r) (next_mapped f ys i x (omega arith) h)
