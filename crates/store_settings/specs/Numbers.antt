-- Numbers, as they are spelled.
use Rattle.std.specs.Prelude.{ℕ, ◌^◌, Bool, false, List, [], ◌∷◌, Option, Some, None, ◌==◌, ◌||◌, ◌&&◌, nat_eq, nat_le, nat_lt, if◌then◌else◌, option_and_then}
use Rattle.std.specs.Cmp.Lexicographic.{pointwise}
use Rattle.std.specs.Fmt.{decimal}
use Rattle.std.specs.Str.Parse.{digits_value}

-- digits that begin with a sign, or with a zero that isn't the only digit
abbrev pub is_padded : List ℕ → Bool
is_padded [] = false
is_padded (b ∷ []) = b == 43
is_padded (b ∷ c ∷ rest) = b == 43 || b == 48

-- the number below 2^64 whose decimal digits the word is
unfoldable pub number_of : List ℕ → Option ℕ
number_of word = let n = digits_value 10 word in if pointwise nat_eq word (decimal n) && nat_lt n (2 ^ 64) then Some n else None

abbrev pub is_within : ℕ → ℕ → ℕ → Bool
is_within least most n = nat_le least n && nat_le n most

-- a number, where it lies in the range
abbrev pub within : ℕ → ℕ → ℕ → Option ℕ
within least most n = if is_within least most n then Some n else None

-- the greatest number of blocks of a file: 16 to 2^32
abbrev pub is_max : ℕ → Bool
is_max = is_within 16 (2 ^ 32)

-- the number in that range that a word spells
abbrev pub max_of : List ℕ → Option ℕ
max_of word = option_and_then (within 16 (2 ^ 32)) (number_of word)
