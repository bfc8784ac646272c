-- Bytes that are put at the front of a room.
use Rattle.std.proofs.Common.{◌≡◌, ℕ, ◌+◌, List, ◌++◌, length, take, drop, sym, ◌∙◌, ap}
use Rattle.std.proofs.lemmas.List.{take_at, take-append-drop, drop-drop}

-- what is left is what was put there, and what is left behind it
pub split_front : (bytes front behind : List ℕ) (taken n : ℕ) → front ≡ take n (drop taken bytes) → length front ≡ n → drop taken bytes ≡ take n (front ++ behind) ++ drop (taken + n) bytes
split_front bytes front behind taken n is long =
    sym (take-append-drop n (drop taken bytes))
    ∙ ap (λ (xs : List ℕ). xs ++ drop n (drop taken bytes)) (sym is ∙ sym (take_at front behind n long))
    ∙ ap (λ (xs : List ℕ). take n (front ++ behind) ++ xs) (drop-drop n taken bytes)
