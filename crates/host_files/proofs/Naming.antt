-- Names of files, and the numbers whose names they are.
use Rattle.std.proofs.Common.{◌≡◌, ◌≢◌, ℕ, ◌<◌, ◌^◌, List, [], ◌∷◌, Some, None, refl, sym, ap, ◌∙◌, arith}
use Rattle.std.proofs.lemmas.Bool.{ne_eqb}
use Rattle.std.specs.Fmt.{decimal}
use Rattle.host_files.specs.Names.{file_text, number_of}
use Rattle.host_files.proofs.Decimals.{number_takes, number_again}

pub text_above : (file : ℕ) → 0 < file → file_text file ≡ 114 ∷ decimal file
text_above file above = rw (ne_eqb file 0 (λ e. omega (arith, e))) refl

-- the digits behind an r tell the number
pub named : (name digits : List ℕ) (file : ℕ) → name ≡ 114 ∷ digits → number_of digits ≡ Some file → 0 < file → name ≡ file_text file
named name digits file e n above = e ∙ ap (λ (w : List ℕ). 114 ∷ w) (number_takes digits file n).0 ∙ sym (text_above file above)

behind : (a b : List ℕ) → 114 ∷ a ≡ 114 ∷ b → a ≡ b
behind a b e = cc

-- the name of a file above 0 begins with an r, and its digits tell the number
pub told : (name : List ℕ) (digits : List ℕ) (file : ℕ) → name ≡ 114 ∷ digits → 0 < file → file < 2 ^ 64 → name ≡ file_text file → number_of digits ≡ Some file
told name digits file e above below is =
    number_again digits file below (behind digits (decimal file) (sym e ∙ is ∙ text_above file above))

pub not_told_otherwise : (name digits : List ℕ) (file : ℕ) → name ≡ 114 ∷ digits → number_of digits ≡ None → 0 < file → file < 2 ^ 64 → name ≢ file_text file
not_told_otherwise name digits file e none above below is = absurd (let h = told name digits file e above below is in cc)

pub not_zero : (name digits : List ℕ) (found file : ℕ) → name ≡ 114 ∷ digits → number_of digits ≡ Some found → (0 < found → ⊥) → 0 < file → file < 2 ^ 64 → name ≢ file_text file
not_zero name digits found file e some zero above below is =
    let h = told name digits file e above below is in
    let same : found ≡ file = cc in
    zero (omega (arith, same))

pub begins : (name : List ℕ) (b : ℕ) (digits : List ℕ) (file : ℕ) → name ≡ b ∷ digits → b ≢ 114 → 0 < file → name ≢ file_text file
begins name b digits file e other above is =
    let h : b ∷ digits ≡ 114 ∷ decimal file = sym e ∙ is ∙ text_above file above in
    other cc

pub is_there : (name : List ℕ) (file : ℕ) → name ≡ [] → 0 < file → name ≢ file_text file
is_there name file e above is = absurd (let h : [] ≡ 114 ∷ decimal file = sym e ∙ is ∙ text_above file above in cc)
