-- A text word stands for the bytes whose word it is, and no other word does.
use Rattle.std.proofs.Common.{◌≡◌, ℕ, zero, suc, ◌+◌, ◌-◌, ◌*◌, ◌/◌, ◌%◌, ◌<◌, ◌≤◌, Bool, true, false, ◌&&◌, cond, eqb, ltb, not, nat_eq, nat_le, List, [], ◌∷◌, ◌++◌, length, Option, Some, None, refl, sym, ap, subst, ◌∙◌, arith, lit<, lit≤, inl, inr, codes}
use Rattle.std.specs.Cmp.Lexicographic.{pointwise}
use Rattle.std.specs.List.{flat_map}
use Rattle.std.proofs.lemmas.Bool.{and_parts, le-leb, lt-leb, leb-true, eqb-true, ne_eqb, both_ways, false_from_ne_true, cases_lt, lt-ltb, le-ltb, cond-true, cond-false, and_right, cond_both}
use Rattle.std.proofs.lemmas.Bool.Decides.{nat_tests}
use Rattle.std.proofs.lemmas.List.{length-append}
use Rattle.script_text.specs.Words.{is_plain, hex_digit, escape, byte_spelling, word_of}
use Rattle.script_text.specs.Grammar.{AreBytes}
use Rattle.script_text.specs.Reading.{◌>>=◌, hex_of, escape_at, byte_at, bytes_at, bytes_of}
use Rattle.script_text.proofs.Options.{bind_some, guard_some, guard_not, chosen, some_is, none_is_not_some}
use Rattle.script_text.proofs.Spelled.{same_list, same_test, empty_word, dash_word, word_of-other}

-- ---- digits

hex_takes : (c x : ℕ) → hex_of c ≡ Some x → (x < 16) × (hex_digit x ≡ c)
unfolding hex_of
hex_takes c x e =
    elim (chosen (nat_le 48 c && nat_le c 57) (Some (c - 48)) (cond (nat_le 65 c && nat_le c 70) (Some (c - 55)) None) x e) [
      | inl h ↦
          let p = and_parts (nat_le 48 c) (nat_le c 57) h.0 in
          let low : 48 ≤ c = leb-true 48 c p.0 in
          let high : c ≤ 57 = leb-true c 57 p.1 in
          let is : c - 48 ≡ x = some_is (c - 48) x h.1 in
          (omega arith, grind (arith, nat_tests))
      | inr h ↦
          let g = guard_some (nat_le 65 c && nat_le c 70) (c - 55) x h.1 in
          let p = and_parts (nat_le 65 c) (nat_le c 70) g.0 in
          let low : 65 ≤ c = leb-true 65 c p.0 in
          let high : c ≤ 70 = leb-true c 70 p.1 in
          let is : c - 55 ≡ x = g.1 in
          (omega arith, grind (arith, nat_tests))
    ]

low_digit : (x : ℕ) → x < 10 → hex_of (48 + x) ≡ Some x
unfolding hex_of
low_digit x lt =
    let back : 48 + x - 48 ≡ x = omega arith in
    rw (le-leb 48 (48 + x) (omega arith), le-leb (48 + x) 57 (omega arith), back) refl

high_digit : (x : ℕ) → 10 ≤ x → x < 16 → hex_of (55 + x) ≡ Some x
unfolding hex_of
high_digit x low lt =
    let back : 55 + x - 55 ≡ x = omega arith in
    rw (and_right (nat_le 48 (55 + x)) (nat_le (55 + x) 57) (lt-leb (55 + x) 57 (omega arith)), le-leb 65 (55 + x) (omega arith), le-leb (55 + x) 70 (omega arith), back) refl

hex_again : (x : ℕ) → x < 16 → hex_of (hex_digit x) ≡ Some x
hex_again x lt =
    elim (cases_lt x 10) [
      | inl low ↦ ap hex_of (cond-true (ltb x 10) (48 + x) (55 + x) (lt-ltb x 10 low)) ∙ low_digit x low
      | inr high ↦ ap hex_of (cond-false (ltb x 10) (48 + x) (55 + x) (le-ltb x 10 high)) ∙ high_digit x high lt
    ]

-- ---- one byte

plain_byte : (b : ℕ) → is_plain b ≡ true → b < 256
plain_byte b e = omega (arith, leb-true b 126 (and_parts (nat_le 33 b) (nat_le b 126) (and_parts (nat_le 33 b && nat_le b 126) (not (eqb b 37)) e).0).1)

-- what was taken from the front of a word
record TookByte (w : List ℕ) (x : ℕ × List ℕ) : Type 0 where
  parts : w ≡ byte_spelling x.0 ++ x.1
  small : x.0 < 256

escaped_is : (high low x y : ℕ) (rest : List ℕ) → x < 16 → y < 16 → hex_digit x ≡ high → hex_digit y ≡ low → is_plain (16 * x + y) ≡ false → 37 ∷ high ∷ low ∷ rest ≡ byte_spelling (16 * x + y) ++ rest
escaped_is high low x y rest lx ly hx hy odd =
    let d : (16 * x + y) / 16 ≡ x = omega arith in
    let m : (16 * x + y) % 16 ≡ y = omega arith in
    rw odd (rw (d, m, hx, hy) refl)

escape_takes : (w : List ℕ) (x : ℕ × List ℕ) → escape_at w ≡ Some x → TookByte (37 ∷ w) x
unfolding escape_at
escape_takes [] x e = absurd cc
escape_takes (high ∷ []) x e = absurd cc
escape_takes (high ∷ low ∷ rest) x e =
    let a = bind_some (hex_of high) (λ x. hex_of low >>= λ y. cond (is_plain (16 * x + y)) None (Some (16 * x + y, rest))) x e in
    let b = bind_some (hex_of low) (λ y. cond (is_plain (16 * a.0 + y)) None (Some (16 * a.0 + y, rest))) x a.2 in
    let g = guard_not (is_plain (16 * a.0 + b.0)) (16 * a.0 + b.0, rest) x b.2 in
    let p = hex_takes high a.0 a.1 in
    let q = hex_takes low b.0 b.1 in
    subst (λ (y : ℕ × List ℕ). TookByte (37 ∷ high ∷ low ∷ rest) y) g.1
    (record { parts = escaped_is high low a.0 b.0 rest p.0 q.0 p.1 q.1 g.0; small = omega (arith, p.0, q.0) })

plain_is : (b : ℕ) (rest : List ℕ) → is_plain b ≡ true → b ∷ rest ≡ byte_spelling b ++ rest
plain_is b rest plain = rw plain refl

byte_takes : (w : List ℕ) (x : ℕ × List ℕ) → byte_at w ≡ Some x → TookByte w x
unfolding byte_at
byte_takes [] x e = absurd cc
byte_takes (b ∷ rest) x e =
    elim (chosen (is_plain b) (Some (b, rest)) (cond (eqb b 37) (escape_at rest) None) x e) [
      | inl h ↦ subst (λ (y : ℕ × List ℕ). TookByte (b ∷ rest) y) (some_is (b, rest) x h.1) (record { parts = plain_is b rest h.0; small = plain_byte b h.0 })
      | inr h ↦ elim (chosen (eqb b 37) (escape_at rest) None x h.1) [
        | inl k ↦ subst (λ (c : ℕ). TookByte (c ∷ rest) x) (sym (eqb-true b 37 k.0)) (escape_takes rest x k.1)
        | inr k ↦ absurd (let none = k.1 in cc)
      ]
    ]

escape_again : (b : ℕ) (rest : List ℕ) → b < 256 → is_plain b ≡ false → byte_at (escape b ++ rest) ≡ Some (b, rest)
unfolding byte_at escape_at
escape_again b rest lt odd =
    let x : hex_of (hex_digit (b / 16)) ≡ Some (b / 16) = hex_again (b / 16) (omega arith) in
    let y : hex_of (hex_digit (b % 16)) ≡ Some (b % 16) = hex_again (b % 16) (omega arith) in
    let whole : 16 * (b / 16) + b % 16 ≡ b = omega arith in
    rw (x, y, whole, odd) refl

plain_again : (b : ℕ) (rest : List ℕ) → is_plain b ≡ true → byte_at (b ∷ rest) ≡ Some (b, rest)
unfolding byte_at
plain_again b rest plain = rw plain refl

byte_again : (b : ℕ) (rest : List ℕ) → b < 256 → byte_at (byte_spelling b ++ rest) ≡ Some (b, rest)
byte_again b rest lt = by_test (is_plain b) refl
  where
    by_test : (t : Bool) → is_plain b ≡ t → byte_at (cond t (b ∷ []) (escape b) ++ rest) ≡ Some (b, rest)
    by_test true e = plain_again b rest e
    by_test false e = escape_again b rest lt e

-- ---- the bytes of a word

-- what the bytes of a word are
record AreBytesOf (w t : List ℕ) : Type 0 where
  parts : w ≡ flat_map byte_spelling t
  small : AreBytes t

bytes_take : (n : ℕ) (w t : List ℕ) → bytes_at n w ≡ Some t → AreBytesOf w t
unfolding bytes_at
bytes_take n [] t e = subst (λ (y : List ℕ). AreBytesOf [] y) (some_is [] t e) (record { parts = refl; small = tt })
bytes_take zero (b ∷ w) t e = absurd cc
bytes_take (suc n) (b ∷ w) t e =
    let a = bind_some (byte_at (b ∷ w)) (λ first. bytes_at n first.1 >>= λ others. Some (first.0 ∷ others)) t e in
    let o = bind_some (bytes_at n a.0.1) (λ others. Some (a.0.0 ∷ others)) t a.2 in
    let p = byte_takes (b ∷ w) a.0 a.1 in
    let q = bytes_take n a.0.1 o.0 o.1 in
    subst (λ (y : List ℕ). AreBytesOf (b ∷ w) y) (some_is (a.0.0 ∷ o.0) t o.2)
    (record { parts = p.parts ∙ ap (λ (r : List ℕ). byte_spelling a.0.0 ++ r) q.parts; small = (p.small, q.small) })

byte_length : (b : ℕ) → 1 ≤ length (byte_spelling b)
byte_length b = cond_both (is_plain b) (b ∷ []) (escape b) (λ w. 1 ≤ length w) (λ _. lit≤ tt) (λ _. lit≤ tt)

bytes_step : (n b : ℕ) (w t : List ℕ) → 0 < length w → byte_at w ≡ Some (b, t) → bytes_at (suc n) w ≡ (bytes_at n t >>= λ others. Some (b ∷ others))
unfolding bytes_at
bytes_step n b [] t full e = absurd (omega arith)
bytes_step n b (c ∷ w) t full e = rw e refl

no_bytes : (n : ℕ) → bytes_at n [] ≡ Some []
unfolding bytes_at
no_bytes n = refl

bytes_again : (n : ℕ) (t : List ℕ) → AreBytes t → length (flat_map byte_spelling t) ≤ n → bytes_at n (flat_map byte_spelling t) ≡ Some t
bytes_again n [] small short = no_bytes n
bytes_again zero (b ∷ t) small short = absurd (omega (arith, byte_length b, length-append (byte_spelling b) (flat_map byte_spelling t)))
bytes_again (suc n) (b ∷ t) small short =
    let long = byte_length b in
    let whole = length-append (byte_spelling b) (flat_map byte_spelling t) in
    bytes_step n b (byte_spelling b ++ flat_map byte_spelling t) (flat_map byte_spelling t) (omega arith) (byte_again b (flat_map byte_spelling t) small.0)
    ∙ ap (λ (o : Option (List ℕ)). o >>= λ others. Some (b ∷ others)) (bytes_again n t small.1 (omega arith))

-- ---- the bytes that a word stands for

pub record IsWordOf (w t : List ℕ) : Type 0 where
  pub parts : w ≡ word_of t
  pub small : AreBytes t

pub some_length : (b : ℕ) (u : List ℕ) → eqb (length (b ∷ u)) 0 ≡ false
some_length b u = ne_eqb (length (b ∷ u)) 0 (λ e. omega arith)

-- bytes that are spelled one by one and aren't just `-`
spelled_takes : (w t : List ℕ) → eqb (length w) 0 ≡ false → pointwise nat_eq w (codes "-") ≡ false → bytes_at (length w) w ≡ Some t → IsWordOf w t
spelled_takes w t full dash e =
    let b = bytes_take (length w) w t e in
    let some : eqb (length t) 0 ≡ false = by_length t b.parts in
    let other : t ≡ codes "-" → ⊥ = λ h. both_ways (pointwise nat_eq w (codes "-")) dash (same_test w (codes "-") (b.parts ∙ ap (flat_map byte_spelling) h)) in
    record { parts = b.parts ∙ sym (word_of-other t some other); small = b.small }
  where
    by_length : (u : List ℕ) → w ≡ flat_map byte_spelling u → eqb (length u) 0 ≡ false
    by_length [] h = absurd (both_ways (eqb (length w) 0) full (ap (λ (x : List ℕ). eqb (length x) 0) h))
    by_length (b ∷ u) h = some_length b u

pub word_takes : (w t : List ℕ) → bytes_of w ≡ Some t → IsWordOf w t
unfolding bytes_of
word_takes w t e =
    elim (chosen (eqb (length w) 0) None (cond (pointwise nat_eq w (codes "-")) (Some []) (cond (pointwise nat_eq w (codes "%2D")) (Some (codes "-")) (bytes_at (length w) w))) t e) [
      | inl h ↦ absurd (let none = h.1 in cc)
      | inr h ↦ elim (chosen (pointwise nat_eq w (codes "-")) (Some []) (cond (pointwise nat_eq w (codes "%2D")) (Some (codes "-")) (bytes_at (length w) w)) t h.1) [
        | inl k ↦ subst (λ (y : List ℕ). IsWordOf w y) (some_is [] t k.1) (record { parts = same_list w (codes "-") k.0 ∙ empty_word; small = tt })
        | inr k ↦ elim (chosen (pointwise nat_eq w (codes "%2D")) (Some (codes "-")) (bytes_at (length w) w) t k.1) [
          | inl m ↦ subst (λ (y : List ℕ). IsWordOf w y) (some_is (codes "-") t m.1) (record { parts = same_list w (codes "%2D") m.0 ∙ dash_word; small = (lit< tt, tt) })
          | inr m ↦ spelled_takes w t h.0 k.0 m.1
        ]
      ]
    ]

literal_again : bytes_of (codes "-") ≡ Some []
unfolding bytes_of
literal_again = refl

dash_again : bytes_of (codes "%2D") ≡ Some (codes "-")
unfolding bytes_of
dash_again = refl

dash_bytes : bytes_at 1 (codes "-") ≡ Some (codes "-")
unfolding bytes_at byte_at
dash_bytes = refl

escaped_dash : bytes_at 3 (codes "%2D") ≡ None
unfolding bytes_at byte_at escape_at hex_of
escaped_dash = refl

full_spelling : (t : List ℕ) → eqb (length t) 0 ≡ false → eqb (length (flat_map byte_spelling t)) 0 ≡ false
full_spelling [] some = some
full_spelling (b ∷ t) some = ne_eqb _ _ (λ e. omega (arith, byte_length b, length-append (byte_spelling b) (flat_map byte_spelling t)))

spelled_again : (t : List ℕ) → AreBytes t → eqb (length t) 0 ≡ false → (t ≡ codes "-" → ⊥) → bytes_of (flat_map byte_spelling t) ≡ Some t
unfolding bytes_of
spelled_again t small some other =
    let w = flat_map byte_spelling t in
    let again : bytes_at (length w) w ≡ Some t = bytes_again (length w) t small (omega arith) in
    let read : List ℕ → Option (List ℕ) = λ v. bytes_at (length v) v in
    let not_dash : pointwise nat_eq w (codes "-") ≡ false = false_from_ne_true _ (λ e. other (some_is t (codes "-") (sym again ∙ ap read (same_list w (codes "-") e) ∙ dash_bytes))) in
    let not_escaped : pointwise nat_eq w (codes "%2D") ≡ false = false_from_ne_true _ (λ e. none_is_not_some t (sym escaped_dash ∙ sym (ap read (same_list w (codes "%2D") e)) ∙ again)) in
    rw (full_spelling t some, not_dash, not_escaped) again

pub word_again : (t : List ℕ) → AreBytes t → bytes_of (word_of t) ≡ Some t
word_again [] small = ap bytes_of (sym empty_word) ∙ literal_again
word_again (b ∷ t) small = by_dash (pointwise nat_eq (b ∷ t) (codes "-")) refl
  where
    by_dash : (v : Bool) → pointwise nat_eq (b ∷ t) (codes "-") ≡ v → bytes_of (word_of (b ∷ t)) ≡ Some (b ∷ t)
    by_dash true e =
        let is : b ∷ t ≡ codes "-" = same_list (b ∷ t) (codes "-") e in
        ap (λ (x : List ℕ). bytes_of (word_of x)) is ∙ ap bytes_of (sym dash_word) ∙ dash_again ∙ ap (λ (x : List ℕ). Some x) (sym is)
    by_dash false e =
        let other : b ∷ t ≡ codes "-" → ⊥ = λ h. both_ways (pointwise nat_eq (b ∷ t) (codes "-")) e (same_test (b ∷ t) (codes "-") h) in
        ap bytes_of (word_of-other (b ∷ t) (some_length b t) other) ∙ spelled_again (b ∷ t) small (some_length b t) other
