-- The first entry, or the last, that passes a test, in lists one behind another.
use Rattle.std.proofs.Common.{◌≡◌, ◌≤◌, Bool, true, false, true≢false, List, [], ◌∷◌, ◌++◌, length, refl, sym, ap, ◌∙◌, arith}
use Rattle.std.specs.Prelude.{Option, Some, None, Result, Ok, Err, find, reverse, not, if◌then◌else◌}
use Rattle.std.specs.List.{list_all}
use Rattle.std.specs.Option.{option_or}
use Rattle.std.proofs.lemmas.Bool.{and_parts, and_from, not-true}
use Rattle.std.proofs.lemmas.List.{reverse-append}
use Rattle.std.proofs.lemmas.List.Folds.{find-append, list_all-append}

abbrev is_right : {A E : Type 0} → Result A E → Bool
is_right (Ok a) = true
is_right (Err e) = false

-- a value is no refusal
pub ok_never : {A E : Type 0} (a : A) (e : E) → ◌≡◌ {A = Result A E} (Ok a) (Err e) → ⊥
ok_never a e same = true≢false (ap is_right same)

pub all_front : {X : Type 0} (p : X → Bool) (xs ys : List X) → list_all p (xs ++ ys) ≡ true → list_all p xs ≡ true
all_front p xs ys h = (and_parts _ _ (sym (list_all-append p xs ys) ∙ h)).0

pub all_back : {X : Type 0} (p : X → Bool) (xs ys : List X) → list_all p (xs ++ ys) ≡ true → list_all p ys ≡ true
all_back p xs ys h = (and_parts _ _ (sym (list_all-append p xs ys) ∙ h)).1

pub all_both : {X : Type 0} (p : X → Bool) (xs ys : List X) → list_all p xs ≡ true → list_all p ys ≡ true → list_all p (xs ++ ys) ≡ true
all_both p xs ys h k = list_all-append p xs ys ∙ and_from (list_all p xs) (list_all p ys) h k

-- what each element has that has another thing
pub all_so : {X : Type 0} (p q : X → Bool) → ((x : X) → p x ≡ true → q x ≡ true) → (xs : List X) → list_all p xs ≡ true → list_all q xs ≡ true
all_so p q so [] h = refl
all_so p q so (x ∷ xs) h =
    let parts = and_parts (p x) (list_all p xs) h in
    and_from (q x) (list_all q xs) (so x parts.0) (all_so p q so xs parts.1)

module _ {X : Type 0} (p : X → Bool) where
  pub find_none : (xs : List X) → list_all (λ (x : X). not (p x)) xs ≡ true → find p xs ≡ None
  find_none [] h = refl
  find_none (x ∷ xs) h =
      let parts = and_parts (not (p x)) (list_all (λ (y : X). not (p y)) xs) h in
      ap (λ (b : Bool). if b then Some x else find p xs) (not-true (p x) parts.0) ∙ find_none xs parts.1

  pub find_down : (xs ys : List X) → find p (reverse (xs ++ ys)) ≡ option_or (find p (reverse ys)) (find p (reverse xs))
  find_down xs ys = ap (find p) (reverse-append xs ys) ∙ find-append p (reverse ys) (reverse xs)

  pub find_none_down : (xs : List X) → list_all (λ (x : X). not (p x)) xs ≡ true → find p (reverse xs) ≡ None
  find_none_down [] h = refl
  find_none_down (x ∷ xs) h =
      let parts = and_parts (not (p x)) (list_all (λ (y : X). not (p y)) xs) h in
      find_down (x ∷ []) xs
      ∙ ap (λ (o : Option X). option_or o (find p (x ∷ []))) (find_none_down xs parts.1)
      ∙ ap (λ (b : Bool). if b then Some x else None) (not-true (p x) parts.0)

  -- where all pass, the first one is found
  pub find_first : (x : X) (xs : List X) → list_all p (x ∷ xs) ≡ true → find p (x ∷ xs) ≡ Some x
  find_first x xs h = ap (λ (b : Bool). if b then Some x else find p xs) (and_parts (p x) (list_all p xs) h).0

  pub find_last : (xs : List X) (x : X) → p x ≡ true → find p (reverse (xs ++ x ∷ [])) ≡ Some x
  find_last xs x h = find_down xs (x ∷ []) ∙ ap (λ (b : Bool). option_or (if b then Some x else None) (find p (reverse xs))) h

-- where two tests pass everywhere, they find the same
module _ {X : Type 0} (p q : X → Bool) where
  pub find_same : (xs : List X) → list_all p xs ≡ true → list_all q xs ≡ true → find p xs ≡ find q xs
  find_same [] h k = refl
  find_same (x ∷ xs) h k = find_first p x xs h ∙ sym (find_first q x xs k)

  pub find_same_down : (xs : List X) → list_all p xs ≡ true → list_all q xs ≡ true → find p (reverse xs) ≡ find q (reverse xs)
  find_same_down [] h k = refl
  find_same_down (x ∷ xs) h k =
      let h' = and_parts (p x) (list_all p xs) h in
      let k' = and_parts (q x) (list_all q xs) k in
      find_down p (x ∷ []) xs
      ∙ ap (λ (o : Option X). option_or o (find p (x ∷ []))) (find_same_down xs h'.1 k'.1)
      ∙ ap (λ (o : Option X). option_or (find q (reverse xs)) o) (find_same (x ∷ []) (all_front p (x ∷ []) xs h) (all_front q (x ∷ []) xs k))
      ∙ sym (find_down q (x ∷ []) xs)

-- something is found
abbrev pub IsFound : {X : Type 0} → Option X → Type 0
IsFound {X} o = (x : X) × (o ≡ Some x)

module _ {X : Type 0} (p : X → Bool) where
  pub found_first : (xs : List X) → 1 ≤ length xs → list_all p xs ≡ true → IsFound (find p xs)
  found_first [] some h = absurd (omega arith)
  found_first (x ∷ xs) some h = (x, find_first p x xs h)

  pub found_last : (xs : List X) → 1 ≤ length xs → list_all p xs ≡ true → IsFound (find p (reverse xs))
  found_last [] some h = absurd (omega arith)
  found_last (x ∷ []) some h = (x, find_first p x [] h)
  found_last (x ∷ y ∷ xs) some h =
      let rest = found_last (y ∷ xs) (omega arith) (all_back p (x ∷ []) (y ∷ xs) h) in
      (rest.0, find_down p (x ∷ []) (y ∷ xs) ∙ ap (λ (o : Option X). option_or o (find p (x ∷ []))) rest.1)

pub or_found : {X : Type 0} (a b : Option X) → IsFound a → option_or a b ≡ a
or_found a b found = rw found.1

pub or_nothing : {X : Type 0} (a : Option X) → option_or a None ≡ a
or_nothing None = refl
or_nothing (Some x) = refl

pub or_assoc : {X : Type 0} (a b c : Option X) → option_or (option_or a b) c ≡ option_or a (option_or b c)
or_assoc None b c = refl
or_assoc (Some x) b c = refl
