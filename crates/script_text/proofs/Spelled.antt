-- What a text word is, by cases.
use Rattle.std.proofs.Common.{◌≡◌, ℕ, true, false, cond, eqb, List, [], ◌∷◌, ◌++◌, length, nat_eq, refl, sym, ap, ◌∙◌, codes}
use Rattle.std.specs.List.{flat_map}
use Rattle.std.specs.Cmp.Lexicographic.{pointwise}
use Rattle.std.proofs.lemmas.Bool.{eqb-true, eq-eqb, ne_eqb, and_parts, and_from}
use Rattle.std.proofs.lemmas.List.{nil_from_length, append-nil}
use Rattle.script_text.specs.Words.{byte_spelling, word_of}

-- ---- the test of two texts

pub same_list : (a b : List ℕ) → pointwise nat_eq a b ≡ true → a ≡ b
same_list [] [] e = refl
same_list [] (y ∷ b) e = absurd cc
same_list (x ∷ a) [] e = absurd cc
same_list (x ∷ a) (y ∷ b) e =
    let parts = and_parts (nat_eq x y) (pointwise nat_eq a b) e in
    let rest = same_list a b parts.1 in
    let first : x ≡ y = eqb-true x y parts.0 in
    cc

pub list_same : (a : List ℕ) → pointwise nat_eq a a ≡ true
list_same [] = refl
list_same (x ∷ a) = and_from (nat_eq x x) (pointwise nat_eq a a) (eq-eqb x x refl) (list_same a)

pub same_test : (a b : List ℕ) → a ≡ b → pointwise nat_eq a b ≡ true
same_test a b e = ap (λ (x : List ℕ). pointwise nat_eq a x) (sym e) ∙ list_same a

-- ---- text words

pub empty_word : codes "-" ≡ word_of []
unfolding word_of
empty_word = refl

pub word_of-empty : (bytes : List ℕ) → eqb (length bytes) 0 ≡ true → codes "-" ≡ word_of bytes
word_of-empty bytes e = empty_word ∙ ap word_of (sym (nil_from_length bytes (eqb-true _ _ e)))

pub dash_word : codes "%2D" ≡ word_of (codes "-")
unfolding word_of
dash_word = refl

pub word_of-dash : (bytes : List ℕ) → bytes ≡ codes "-" → codes "%2D" ≡ word_of bytes
word_of-dash bytes e = dash_word ∙ ap word_of (sym e)

one_byte : (b : ℕ) → (b ≡ 45 → ⊥) → cond (eqb b 45) (codes "%2D") (byte_spelling b) ≡ byte_spelling b ++ []
one_byte b other = rw (ne_eqb b 45 other) (sym (append-nil (byte_spelling b)))

pub word_of-other : (bytes : List ℕ) → eqb (length bytes) 0 ≡ false → (bytes ≡ codes "-" → ⊥) → word_of bytes ≡ flat_map byte_spelling bytes
unfolding word_of
word_of-other [] e other = absurd cc
word_of-other (b ∷ []) e other = one_byte b (λ h. other (ap (λ (x : ℕ). x ∷ []) h))
word_of-other (b ∷ c ∷ bytes) e other = refl
