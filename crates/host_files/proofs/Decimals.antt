-- A number is read from its decimal digits, and from nothing else.
use Rattle.std.proofs.Common.{◌≡◌, ◌≢◌, ℕ, Bool, ◌<◌, ◌≤◌, ◌^◌, true, false, ◌&&◌, cond, eqb, nat_eq, nat_lt, List, [], ◌∷◌, length, get_or, Option, Some, None, Result, Ok, Err, refl, sym, ap, subst, ◌∙◌, arith, lit<, lit≤, ◌⊎◌, inl, inr}
use Rattle.std.specs.Cmp.Lexicographic.{pointwise}
use Rattle.std.specs.Fmt.{decimal}
use Rattle.std.specs.Str.Parse.{AllDigits, digits_value, ParsesUnsigned}
use Rattle.std.specs.Result.{OkIff, result_ok}
use Rattle.std.specs.Str.{IsUtf8}
use Rattle.std.proofs.lemmas.Str.{IsUtf8-from_ascii}
use Rattle.std.proofs.lemmas.Bool.{and_parts, or_cases, or_parts, eqb-true, eqb-false, eq-eqb, and_from, ltb-true, lt-ltb, cases_lt}
use Rattle.std.proofs.lemmas.Str.Parse.{IsNumeralModel, numerals_by_value, tells_digits, parse_plain}
use Rattle.std.proofs.lemmas.Fmt.{IsAscii-decimal, decimal_is_IsNumeral, decimal_digit, decimal_nonempty, first_decimal, digits_decimal, digits_value-decimal, decimal-digits_value}
use Rattle.host_files.specs.Names.{is_padded, number_of}

guard_some : {A : Type 0} (b : Bool) (x y : A) → cond b (Some x) None ≡ Some y → (b ≡ true) × (x ≡ y)
guard_some true x y e = (refl, cc)
guard_some false x y e = absurd cc

pub same_list : (a b : List ℕ) → pointwise nat_eq a b ≡ true → a ≡ b
same_list [] [] e = refl
same_list [] (y ∷ b) e = absurd cc
same_list (x ∷ a) [] e = absurd cc
same_list (x ∷ a) (y ∷ b) e =
    let parts = and_parts (nat_eq x y) (pointwise nat_eq a b) e in
    let rest = same_list a b parts.1 in
    let first : x ≡ y = eqb-true x y parts.0 in
    cc

pub list_same : (a : List ℕ) → pointwise nat_eq a a ≡ true
list_same [] = refl
list_same (x ∷ a) = and_from (nat_eq x x) (pointwise nat_eq a a) (eq-eqb x x refl) (list_same a)

pub same_test : (a b : List ℕ) → a ≡ b → pointwise nat_eq a b ≡ true
same_test a b e = ap (λ (x : List ℕ). pointwise nat_eq a x) (sym e) ∙ list_same a

own : IsNumeralModel (AllDigits 10) (digits_value 10)
own = numerals_by_value (AllDigits 10) tells_digits

pub number_takes : (w : List ℕ) (n : ℕ) → number_of w ≡ Some n → (w ≡ decimal n) × (n < 2 ^ 64)
unfolding number_of
number_takes w n e =
    let g = guard_some (pointwise nat_eq w (decimal (digits_value 10 w)) && nat_lt (digits_value 10 w) (2 ^ 64)) (digits_value 10 w) n e in
    let p = and_parts (pointwise nat_eq w (decimal (digits_value 10 w))) (nat_lt (digits_value 10 w) (2 ^ 64)) g.0 in
    subst (λ (m : ℕ). (w ≡ decimal m) × (m < 2 ^ 64)) g.1 (same_list w (decimal (digits_value 10 w)) p.0, ltb-true _ _ p.1)

value_again : (n : ℕ) → n < 2 ^ 64 → number_of (decimal n) ≡ Some n
unfolding number_of
value_again n lt =
    rw ((decimal_is_IsNumeral n lt).1, same_test (decimal n) (decimal n) refl, lt-ltb n (2 ^ 64) lt) refl

pub number_again : (w : List ℕ) (n : ℕ) → n < 2 ^ 64 → w ≡ decimal n → number_of w ≡ Some n
number_again w n lt e = ap number_of e ∙ value_again n lt

-- where the word is no number's, none is read
pub no_number : (w : List ℕ) → ((n : ℕ) → n < 2 ^ 64 → w ≡ decimal n → ⊥) → None ≡ number_of w
no_number w h = by_cases (number_of w) refl
  where
    by_cases : (o : Option ℕ) → number_of w ≡ o → None ≡ o
    by_cases None e = refl
    by_cases (Some n) e = absurd (let t = number_takes w n e in h n t.1 t.0)

-- ---- what the parser says

first_digit : (n : ℕ) → n < 2 ^ 64 → 48 ≤ get_or (decimal n) 0 0
first_digit n lt =
    elim (cases_lt 0 n) [
      | inl some ↦ omega (arith, first_decimal n some lt)
      | inr none ↦ let zero : n ≡ 0 = omega arith in subst (λ (m : ℕ). 48 ≤ get_or (decimal m) 0 0) (sym zero) (rw (decimal_digit 0 (lit< tt)) (lit≤ tt))
    ]

-- the digits of a number with a leading zero are those of 0
zero_alone : (n : ℕ) → n < 2 ^ 64 → get_or (decimal n) 0 0 ≡ 48 → length (decimal n) ≡ 1
zero_alone n lt e =
    elim (cases_lt 0 n) [
      | inl some ↦ absurd (omega (arith, first_decimal n some lt))
      | inr none ↦ let zero : n ≡ 0 = omega arith in subst (λ (m : ℕ). length (decimal m) ≡ 1) (sym zero) (rw (decimal_digit 0 (lit< tt)) refl)
    ]

padded_is : (w : List ℕ) → is_padded w ≡ true → (get_or w 0 0 ≡ 43) ⊎ ((get_or w 0 0 ≡ 48) × (1 < length w))
padded_is [] e = absurd cc
padded_is (b ∷ []) e = inl (eqb-true b 43 e)
padded_is (b ∷ c ∷ rest) e =
    elim (or_cases (eqb b 43) (eqb b 48) e) [
      | inl h ↦ inl (eqb-true b 43 h)
      | inr h ↦ inr (eqb-true b 48 h, omega arith)
    ]

pub padded_is_none : (w : List ℕ) → is_padded w ≡ true → None ≡ number_of w
padded_is_none w padded = no_number w (λ n lt e. against n lt (ap is_padded (sym e) ∙ padded))
  where
    against : (n : ℕ) → n < 2 ^ 64 → is_padded (decimal n) ≡ true → ⊥
    against n lt h =
        elim (padded_is (decimal n) h) [
          | inl plus ↦ omega (arith, first_digit n lt)
          | inr zero ↦ omega (arith, zero_alone n lt zero.0, zero.1)
        ]

unpadded_sign : (w : List ℕ) → is_padded w ≡ false → get_or w 0 0 ≢ 43
unpadded_sign [] e h = omega arith
unpadded_sign (b ∷ []) e h = eqb-false b 43 e h
unpadded_sign (b ∷ c ∷ rest) e h = eqb-false b 43 (or_parts (eqb b 43) (eqb b 48) e).0 h

unpadded_zero : (w : List ℕ) → is_padded w ≡ false → 0 < length w → get_or w 0 0 ≡ 48 → length w ≡ 1
unpadded_zero [] e full h = absurd (omega arith)
unpadded_zero (b ∷ []) e full h = refl
unpadded_zero (b ∷ c ∷ rest) e full h = absurd (eqb-false b 48 (or_parts (eqb b 43) (eqb b 48) e).1 h)

pub not_text_is_none : (w : List ℕ) → (IsUtf8 w → ⊥) → None ≡ number_of w
not_text_is_none w h = no_number w (λ n lt e. h (subst IsUtf8 (sym e) (IsUtf8-from_ascii (decimal n) (IsAscii-decimal n lt))))

pub parsed_is : {E : Type 0} (w : List ℕ) (r : Result ℕ E) → is_padded w ≡ false → ParsesUnsigned 64 10 w r → result_ok r ≡ number_of w
parsed_is {E} w r plain parses = by_result r (parse_plain own 64 w r parses (unpadded_sign w plain))
  where
    by_result : (s : Result ℕ E) → OkIff s (AllDigits 10 w × (0 < length w) × (digits_value 10 w < 2 ^ 64)) (digits_value 10 w) → result_ok s ≡ number_of w
    by_result (Ok x) h =
        let w-is : w ≡ decimal (digits_value 10 w) = sym (decimal-digits_value own w h.0.0 h.0.1 (unpadded_zero w plain h.0.1) h.0.2) in
        ap (λ (n : ℕ). Some n) h.1 ∙ sym (number_again w (digits_value 10 w) h.0.2 w-is)
    by_result (Err e) h = no_number w (λ n lt is. h (digits_of_decimal n lt is))
      where
        digits_of_decimal : (n : ℕ) → n < 2 ^ 64 → w ≡ decimal n → AllDigits 10 w × (0 < length w) × (digits_value 10 w < 2 ^ 64)
        digits_of_decimal n lt is =
            subst (λ (v : List ℕ). AllDigits 10 v × (0 < length v) × (digits_value 10 v < 2 ^ 64)) (sym is)
            (digits_decimal own n lt, decimal_nonempty n lt, subst (λ (m : ℕ). m < 2 ^ 64) (sym (digits_value-decimal own n lt)) lt)
