-- Bytes with zeros behind them.
use Rattle.std.proofs.Common.{◌≡◌, ℕ, ◌+◌, ◌-◌, ◌≤◌, List, [], ◌++◌, length, take, drop, refl, ◌∙◌, ap, arith, length-append}
use Rattle.std.proofs.lemmas.List.{length-replicate, drop-replicate, take-replicate, append-nil}
use Rattle.std.proofs.Math.Seq.{take-append-add, drop-append-add}
use Rattle.block_host.specs.Sealed.{zeros, padded}

pub length-zeros : (n : ℕ) → length (zeros n) ≡ n
unfolding zeros
length-zeros n = length-replicate n 0

pub zeros-none : zeros 0 ≡ []
unfolding zeros
zeros-none = refl

pub take-zeros : (m n : ℕ) → m ≤ n → take m (zeros n) ≡ zeros m
unfolding zeros
take-zeros m n le = take-replicate m n 0 le

pub drop-zeros : (m n : ℕ) → drop m (zeros n) ≡ zeros (n - m)
unfolding zeros
drop-zeros m n = drop-replicate m n 0

pub padded-none : (n : ℕ) → padded n [] ≡ zeros n
unfolding padded
padded-none n = ap zeros (omega arith)

pub length-padded : (n : ℕ) (bytes : List ℕ) → length bytes ≤ n → length (padded n bytes) ≡ n
unfolding padded
length-padded n bytes le = omega (arith, length-append bytes (zeros (n - length bytes)), length-zeros (n - length bytes))

pub padded-whole : (n : ℕ) (bytes : List ℕ) → length bytes ≡ n → padded n bytes ≡ bytes
unfolding padded
padded-whole n bytes is = ap (λ (k : ℕ). bytes ++ zeros k) (omega (arith, is)) ∙ ap (λ (zs : List ℕ). bytes ++ zs) zeros-none ∙ append-nil bytes

pub take-padded : (n at : ℕ) (bytes : List ℕ) → length bytes ≤ at → at ≤ n → take at (padded n bytes) ≡ padded at bytes
unfolding padded
take-padded n at bytes below within =
    ap (λ (k : ℕ). take k (bytes ++ zeros (n - length bytes))) (let e : at ≡ length bytes + (at - length bytes) = omega arith in e)
    ∙ take-append-add bytes (zeros (n - length bytes)) (at - length bytes)
    ∙ ap (λ (zs : List ℕ). bytes ++ zs) (take-zeros (at - length bytes) (n - length bytes) (omega arith))

pub drop-padded : (n at : ℕ) (bytes : List ℕ) → length bytes ≤ at → drop at (padded n bytes) ≡ zeros (n - at)
unfolding padded
drop-padded n at bytes below =
    ap (λ (k : ℕ). drop k (bytes ++ zeros (n - length bytes))) (let e : at ≡ length bytes + (at - length bytes) = omega arith in e)
    ∙ drop-append-add bytes (zeros (n - length bytes)) (at - length bytes)
    ∙ drop-zeros (at - length bytes) (n - length bytes)
    ∙ ap zeros (omega arith)

-- bytes put at a place behind which all is zero
pub put_padded : (n at : ℕ) (front part : List ℕ) → length front ≤ at → at + length part ≤ n → take at (padded n front) ++ part ++ drop (at + length part) (padded n front) ≡ padded n (padded at front ++ part)
unfolding padded
put_padded n at front part below within =
    ap (λ (xs : List ℕ). xs ++ part ++ drop (at + length part) (padded n front)) (take-padded n at front below (omega arith))
    ∙ ap (λ (xs : List ℕ). padded at front ++ part ++ xs) (drop-padded n (at + length part) front (omega arith))
    ∙ ap (λ (k : ℕ). padded at front ++ part ++ zeros k) (omega (arith, length-append (padded at front) part, length-padded at front below))

-- the same, where they are put at the end of what is written
pub put_on : (n at : ℕ) (front part bytes : List ℕ) → length front ≡ at → bytes ≡ padded n (padded at front ++ part) → bytes ≡ padded n (front ++ part)
put_on n at front part bytes is e = e ∙ ap (λ (xs : List ℕ). padded n (xs ++ part)) (padded-whole at front is)
