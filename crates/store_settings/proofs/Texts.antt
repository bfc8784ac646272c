-- Tests of texts, and steps that gave a value.
use Rattle.std.proofs.Common.{◌≡◌, ℕ, true, false, cond, Bool, List, [], ◌∷◌, nat_eq, refl, sym, ap, ◌∙◌, Option, Some, None}
use Rattle.std.specs.Prelude.{option_and_then}
use Rattle.std.specs.Cmp.Lexicographic.{pointwise}
use Rattle.std.proofs.lemmas.Bool.{eqb-true, eq-eqb, and_parts, and_from}

pub same_list : (a b : List ℕ) → pointwise nat_eq a b ≡ true → a ≡ b
same_list [] [] e = refl
same_list [] (y ∷ b) e = absurd cc
same_list (x ∷ a) [] e = absurd cc
same_list (x ∷ a) (y ∷ b) e =
    let parts = and_parts (nat_eq x y) (pointwise nat_eq a b) e in
    let rest = same_list a b parts.1 in
    let first : x ≡ y = eqb-true x y parts.0 in
    cc

pub list_same : (a : List ℕ) → pointwise nat_eq a a ≡ true
list_same [] = refl
list_same (x ∷ a) = and_from (nat_eq x x) (pointwise nat_eq a a) (eq-eqb x x refl) (list_same a)

pub same_test : (a b : List ℕ) → a ≡ b → pointwise nat_eq a b ≡ true
same_test a b e = ap (λ (x : List ℕ). pointwise nat_eq a x) (sym e) ∙ list_same a

-- a test that held
pub guard_some : {A : Type 0} (b : Bool) (x y : A) → cond b (Some x) None ≡ Some y → (b ≡ true) × (x ≡ y)
guard_some true x y e = (refl, cc)
guard_some false x y e = absurd cc

-- the value of a step that gave one
pub bind_some : {A B : Type 0} (o : Option A) (f : A → Option B) (y : B) → option_and_then f o ≡ Some y → (x : A) × (o ≡ Some x) × (f x ≡ Some y)
bind_some None f y e = absurd cc
bind_some (Some x) f y e = (x, refl, e)
