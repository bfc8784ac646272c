-- A number made of bytes, the highest first, and that such numbers stand in the order of their bytes.
use Rattle.std.proofs.Common.{◌≡◌, ℕ, ◌+◌, ◌*◌, ◌<◌, List, [], ◌∷◌, length, nat_cmp, Ordering, Less, Equal, Greater, refl, sym, ap, ◌∙◌, arith}
use Rattle.std.specs.List.{AllByRecursion}
use Rattle.std.specs.Int.{w64, from_be_bytes}
use Rattle.std.specs.Ordering.{ordering_then}
use Rattle.std.specs.Cmp.Lexicographic.{slice_cmp}
use Rattle.std.proofs.lemmas.Bool.Decides.{nat_tests}

abbrev pub AreBytes : List ℕ → Type 0
AreBytes bytes = AllByRecursion (λ b. b < 256) bytes

-- the bytes behind a number
abbrev pub valued : ℕ → List ℕ → ℕ
valued n [] = n
valued n (b ∷ bs) = valued (n * 256 + b) bs

pub then_equal : (o : Ordering) → ordering_then o Equal ≡ o
then_equal Less = refl
then_equal Equal = refl
then_equal Greater = refl

pub then_then : (o p q : Ordering) → ordering_then (ordering_then o p) q ≡ ordering_then o (ordering_then p q)
then_then Less p q = refl
then_then Equal p q = refl
then_then Greater p q = refl

-- one byte more
digit : (a b x y : ℕ) → x < 256 → y < 256 → nat_cmp (a * 256 + x) (b * 256 + y) ≡ ordering_then (nat_cmp a b) (nat_cmp x y)
digit a b x y small small' = grind (arith, nat_tests)

pub valued_order : (xs ys : List ℕ) (a b : ℕ) → length xs ≡ length ys → AreBytes xs → AreBytes ys → nat_cmp (valued a xs) (valued b ys) ≡ ordering_then (nat_cmp a b) (slice_cmp nat_cmp xs ys)
valued_order [] [] a b same small small' = sym (then_equal (nat_cmp a b))
valued_order [] (y ∷ ys) a b same small small' = absurd (omega arith)
valued_order (x ∷ xs) [] a b same small small' = absurd (omega arith)
valued_order (x ∷ xs) (y ∷ ys) a b same small small' =
    valued_order xs ys (a * 256 + x) (b * 256 + y) (omega arith) small.1 small'.1
    ∙ ap (λ (o : Ordering). ordering_then o (slice_cmp nat_cmp xs ys)) (digit a b x y small.0 small'.0)
    ∙ then_then (nat_cmp a b) (nat_cmp x y) (slice_cmp nat_cmp xs ys)

eight : (a b c d e f g h : ℕ) → from_be_bytes w64 (a ∷ b ∷ c ∷ d ∷ e ∷ f ∷ g ∷ h ∷ []) ≡ valued 0 (a ∷ b ∷ c ∷ d ∷ e ∷ f ∷ g ∷ h ∷ [])
eight a b c d e f g h = omega arith

pub number_valued : (bs : List ℕ) → length bs ≡ 8 → from_be_bytes w64 bs ≡ valued 0 bs
number_valued (a ∷ b ∷ c ∷ d ∷ e ∷ f ∷ g ∷ h ∷ []) long = eight a b c d e f g h
number_valued (a ∷ b ∷ c ∷ d ∷ e ∷ f ∷ g ∷ h ∷ i ∷ bs) long = absurd (omega arith)
number_valued [] long = absurd (omega arith)
number_valued (a ∷ []) long = absurd (omega arith)
number_valued (a ∷ b ∷ []) long = absurd (omega arith)
number_valued (a ∷ b ∷ c ∷ []) long = absurd (omega arith)
number_valued (a ∷ b ∷ c ∷ d ∷ []) long = absurd (omega arith)
number_valued (a ∷ b ∷ c ∷ d ∷ e ∷ []) long = absurd (omega arith)
number_valued (a ∷ b ∷ c ∷ d ∷ e ∷ f ∷ []) long = absurd (omega arith)
number_valued (a ∷ b ∷ c ∷ d ∷ e ∷ f ∷ g ∷ []) long = absurd (omega arith)
