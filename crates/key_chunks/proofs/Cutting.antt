-- A key that is cut, or compared with chunks, one group at a time.
use Rattle.std.proofs.Common.{◌≡◌, ℕ, ◌<◌, ◌≤◌, Bool, true, false, List, [], ◌∷◌, ◌++◌, length, drop, refl, sym, ap, ◌∙◌, arith, append_assoc}
use Rattle.std.specs.Prelude.{nat_eq, ◌&&◌}
use Rattle.std.specs.Cmp.Lexicographic.{pointwise}
use Rattle.std.proofs.lemmas.Bool.Decides.{nat_tests}
use Rattle.key_chunks.specs.Chunks.{first_chunk, groups_of}
use Rattle.key_chunks.proofs.GroupOrder.{groups_more, groups_last}

-- a chunk more of the list, a group less of the key
pub one_more : (list list' rest rest' whole : List ℕ) (chunk : ℕ) → 7 < length rest → list ++ groups_of rest ≡ whole → list' ≡ list ++ chunk ∷ [] → chunk ≡ first_chunk rest → rest' ≡ drop 7 rest → list' ++ groups_of rest' ≡ whole
one_more list list' rest rest' whole chunk more together pushed is cut =
    rw (pushed, is, cut, append_assoc list (first_chunk rest ∷ []) (groups_of (drop 7 rest)))
    (ap (λ (r : List ℕ). list ++ r) (sym (groups_more rest more)) ∙ together)

pub last_one : (list list' rest whole : List ℕ) (chunk : ℕ) → length rest ≤ 7 → list ++ groups_of rest ≡ whole → list' ≡ list ++ chunk ∷ [] → chunk ≡ first_chunk rest → list' ≡ whole
last_one list list' rest whole chunk last together pushed is =
    pushed ∙ ap (λ (n : ℕ). list ++ n ∷ []) is ∙ ap (λ (r : List ℕ). list ++ r) (sym (groups_last rest last)) ∙ together

-- ---- compared

pub none_left : (rest left : List ℕ) → 7 < length rest → length left ≡ 0 → false ≡ pointwise nat_eq (groups_of rest) left
none_left rest [] more none = rw (groups_more rest more)
none_left rest (n ∷ left) more none = absurd (omega arith)

apart : (a b : ℕ) → (a ≡ b → ⊥) → nat_eq b a ≡ false
apart a b differ = grind (arith, nat_tests)

pub other_chunk : (rest left others : List ℕ) (first : ℕ) → 7 < length rest → left ≡ first ∷ others → (first ≡ first_chunk rest → ⊥) → false ≡ pointwise nat_eq (groups_of rest) left
other_chunk rest left others first more is differ = rw (is, groups_more rest more, apart first (first_chunk rest) differ)

pub same_chunk : (rest rest' left others : List ℕ) (first : ℕ) (whole : Bool) → 7 < length rest → left ≡ first ∷ others → first ≡ first_chunk rest → rest' ≡ drop 7 rest → pointwise nat_eq (groups_of rest) left ≡ whole → pointwise nat_eq (groups_of rest') others ≡ whole
same_chunk rest rest' left others first whole more is same cut so =
    let whole_is : pointwise nat_eq (groups_of rest) left ≡ (nat_eq (first_chunk rest) first && pointwise nat_eq (groups_of (drop 7 rest)) others) = rw (is, groups_more rest more) refl in
    let alike : nat_eq (first_chunk rest) first ≡ true = grind (arith, nat_tests) in
    rw cut (sym (ap (λ (b : Bool). b && pointwise nat_eq (groups_of (drop 7 rest)) others) alike) ∙ sym whole_is ∙ so)

pub last_chunk : (rest left : List ℕ) → length rest ≤ 7 → pointwise nat_eq (first_chunk rest ∷ []) left ≡ pointwise nat_eq (groups_of rest) left
last_chunk rest left last = rw (groups_last rest last)
