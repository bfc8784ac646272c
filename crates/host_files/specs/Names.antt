-- The names of the files in a folder.
use Rattle.std.specs.Prelude.{ℕ, Bool, false, ◌||◌, ◌==◌, ◌^◌, ◌&&◌, if◌then◌else◌, nat_eq, nat_lt, List, [], ◌∷◌, ◌++◌, Option, Some, None}
use Rattle.std.specs.Cmp.Lexicographic.{pointwise}
use Rattle.std.specs.Fmt.{decimal}
use Rattle.std.specs.Str.Parse.{digits_value}
use Rattle.host_files.specs.declared.name.Name.{Name}

-- the name of a file: `meta` for file 0, else `r` and the file's number
abbrev pub file_text : ℕ → List ℕ
file_text file = if file == 0 then 109 ∷ 101 ∷ 116 ∷ 97 ∷ [] else 114 ∷ decimal file

-- a fresh file's name ends in `.new`
abbrev pub text_of : Name → List ℕ
text_of name = if name.fresh then file_text name.file ++ 46 ∷ 110 ∷ 101 ∷ 119 ∷ [] else file_text name.file

-- digits that begin with a sign, or with a zero that isn't the only digit
abbrev pub is_padded : List ℕ → Bool
is_padded [] = false
is_padded (b ∷ []) = b == 43
is_padded (b ∷ c ∷ rest) = b == 43 || b == 48

-- the number whose decimal digits the word is
unfoldable pub number_of : List ℕ → Option ℕ
number_of word = let n = digits_value 10 word in if pointwise nat_eq word (decimal n) && nat_lt n (2 ^ 64) then Some n else None
