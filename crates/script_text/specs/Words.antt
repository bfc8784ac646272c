-- Words and how they make a line.
use Rattle.std.specs.Prelude.{◌==◌, ℕ, ◌+◌, ◌/◌, ◌%◌, Bool, ◌&&◌, not, nat_le, nat_lt, List, [], ◌∷◌, ◌++◌, if◌then◌else◌, codes}
use Rattle.std.specs.List.{flat_map}

-- a byte that stands for itself: one from 33 to 126, but not %
abbrev pub is_plain : ℕ → Bool
is_plain b = nat_le 33 b && nat_le b 126 && not (b == 37)

-- an upper-case hexadecimal digit
abbrev pub hex_digit : ℕ → ℕ
hex_digit n = if nat_lt n 10 then 48 + n else 55 + n

-- every other byte is % and two such digits
abbrev pub escape : ℕ → List ℕ
escape b = 37 ∷ hex_digit (b / 16) ∷ hex_digit (b % 16) ∷ []

abbrev pub byte_spelling : ℕ → List ℕ
byte_spelling b = if is_plain b then b ∷ [] else escape b

-- the text word of bytes: `-` for none, and `%2D` for the one byte `-`
unfoldable pub word_of : List ℕ → List ℕ
word_of [] = codes "-"
word_of (b ∷ []) = if b == 45 then codes "%2D" else byte_spelling b
word_of (b ∷ c ∷ bytes) = flat_map byte_spelling (b ∷ c ∷ bytes)

-- words, each behind a space
unfoldable pub spaced : List (List ℕ) → List ℕ
spaced [] = []
spaced (w ∷ ws) = 32 ∷ w ++ spaced ws

-- words with one space between them
abbrev pub joined : List (List ℕ) → List ℕ
joined [] = []
joined (w ∷ ws) = w ++ spaced ws
