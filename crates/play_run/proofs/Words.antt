-- The words of the program.
use Rattle.std.proofs.Common.{◌≡◌, ℕ, Bool, true, false, ◌&&◌, List, [], ◌∷◌, length, get_or, refl, sym, ap, arith}
use Rattle.std.specs.Prelude.{IsTrue, nat_eq, ◌↔◌}
use Rattle.std.specs.Cmp.Lexicographic.{pointwise, same_text, other_text}
use Rattle.std.proofs.lemmas.Bool.{false≢true}
use Rattle.std.specs.declared.alloc.Global.{Global}
use Rattle.std.specs.declared.string.String.{String}

pub two_words : (ws : List (String Global)) (a b : String Global) → length ws ≡ 2 → a ≡ get_or ws 0 a → b ≡ get_or ws 1 b → ws ≡ a ∷ b ∷ []
two_words [] a b long first second = absurd (omega (arith, long))
two_words (x ∷ []) a b long first second = absurd (omega (arith, long))
two_words (x ∷ y ∷ []) a b long first second = λ i. sym first i ∷ sym second i ∷ []
two_words (x ∷ y ∷ z ∷ ws) a b long first second = absurd (omega (arith, long))

-- of two texts
first : List (List ℕ) → List ℕ
first [] = []
first (x ∷ xs) = x

second : List (List ℕ) → List ℕ
second [] = []
second (x ∷ xs) = first xs

pub both_words : (a b x y : List ℕ) (r q : Bool) → r ≡ pointwise nat_eq a x → q ≡ pointwise nat_eq b y → IsTrue (r && q) ↔ (a ∷ b ∷ [] ≡ x ∷ y ∷ [])
unfolding first second
both_words a b x y true true e f = (λ _. λ i. same_text a x e i ∷ same_text b y f i ∷ [], λ _. refl)
both_words a b x y true false e f = (λ t. absurd (false≢true t), λ is. absurd (other_text b y f (ap second is)))
both_words a b x y false q e f = (λ t. absurd (false≢true t), λ is. absurd (other_text a x e (ap first is)))
