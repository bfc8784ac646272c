-- A text as words with single spaces between them, and back.
use Rattle.std.proofs.Common.{◌≡◌, ◌==◌, ℕ, ◌+◌, ◌<◌, ◌^◌, not, true, false, List, [], ◌∷◌, ◌++◌, length, get_or, take, drop, All, Option, Some, None, is_some, Bor, refl, sym, ap, ◌∙◌, append_assoc, arith, Bool}
use Rattle.std.specs.List.{flat_map, join_with_byte, list_all, AllByRecursion}
use Rattle.std.specs.Option.{option_map_or}
use Rattle.std.proofs.lemmas.List.{take-append-drop, drop_more, take_more, append-nil}
use Rattle.std.proofs.lemmas.List.Concat.{flat_map-append}
use Rattle.std.proofs.lemmas.List.Splits.{slice_split_none, slice_split_at, length-slice_split, join_with_byte-slice_split}
use Rattle.std.specs.Int.{IsInRange}
use Rattle.std.specs.Fmt.{decimal}
use Rattle.std.proofs.lemmas.Fmt.{decimal_is_IsNumeral}
use Rattle.std.proofs.lemmas.Str.Parse.{digit_at}
use Rattle.std.proofs.lemmas.List.Elements.{All-from_recursion, All-from_get_or}
use Rattle.std.proofs.lemmas.Bool.{ne_eqb, and_parts}
use Rattle.std.proofs.lemmas.Bool.Decides.{nat_tests}
use Rattle.script_text.specs.Words.{spaced, joined}
use Rattle.script_text.specs.Reading.{words_in, none_left}

-- a word has no space
abbrev pub IsWord : List ℕ → Type 0
IsWord word = All (λ b. (b == 32) ≡ false) word

-- the front up to a space is a word, and what follows is the rest
pub words_in-at : (text : List ℕ) (i : ℕ) → i < length text → IsWord (take i text) → get_or text i 0 ≡ 32 → words_in text ≡ take i text ∷ words_in (drop (i + 1) text)
words_in-at text i lt clean space =
    let cut : text ≡ take i text ++ 32 ∷ drop (i + 1) text = sym (take-append-drop i text) ∙ ap (λ (r : List ℕ). take i text ++ r) (drop_more text i 0 lt ∙ ap (λ (b : ℕ). b ∷ drop (i + 1) text) space) in
    ap words_in cut ∙ slice_split_at (λ b. b == 32) (take i text) 32 (drop (i + 1) text) clean refl

-- a text without a space is one word
pub words_in-alone : (text : List ℕ) → IsWord text → words_in text ≡ text ∷ []
words_in-alone text clean = slice_split_none (λ b. b == 32) text clean

none_left-full : (ws : List (List ℕ)) → 0 < length ws → none_left ws ≡ false
unfolding none_left
none_left-full [] full = absurd (omega arith)
none_left-full (w ∷ ws) full = refl

-- no text is without a word
none_left-text : (text : List ℕ) → none_left (words_in text) ≡ false
none_left-text text = none_left-full (words_in text) (omega (arith, length-slice_split (λ b. b == 32) text))

pub none_left-none : (left : Option (Bor (List ℕ))) → none_left (option_map_or (λ text. words_in text.now) left []) ≡ not (is_some left)
unfolding none_left
none_left-none None = refl
none_left-none (Some text) = none_left-text text.now

double_not : (b : Bool) → not (not b) ≡ b
double_not true = refl
double_not false = refl

pub done_is : (left : Option (Bor (List ℕ))) (b : Bool) → is_some left ≡ not b → b ≡ none_left (option_map_or (λ text. words_in text.now) left [])
done_is left b e = sym (none_left-none left ∙ ap not e ∙ double_not b)

-- ---- words with one space between them

joined_is : (ws : List (List ℕ)) → joined ws ≡ join_with_byte 32 ws
unfolding spaced
joined_is [] = refl
joined_is (w ∷ []) = append-nil w
joined_is (w ∷ v ∷ ws) = ap (λ (r : List ℕ). w ++ 32 ∷ r) (joined_is (v ∷ ws))

-- the words of a text are what it joins
pub joined-words_in : (text : List ℕ) → joined (words_in text) ≡ text
joined-words_in text = joined_is (words_in text) ∙ join_with_byte-slice_split 32 text

-- words that are joined are read as these words
pub words_in-joined : (w : List ℕ) (ws : List (List ℕ)) → IsWord w → AllByRecursion IsWord ws → words_in (joined (w ∷ ws)) ≡ w ∷ ws
unfolding spaced
words_in-joined w [] clean cleans = ap words_in (append-nil w) ∙ words_in-alone w clean
words_in-joined w (v ∷ ws) clean cleans =
    slice_split_at (λ b. b == 32) w 32 (joined (v ∷ ws)) clean refl ∙ ap (λ (r : List (List ℕ)). w ∷ r) (words_in-joined v ws cleans.0 cleans.1)

-- ---- what has no space

by_recursion : (w : List ℕ) → list_all (λ b. not (b == 32)) w ≡ true → AllByRecursion (λ b. (b == 32) ≡ false) w
by_recursion [] e = tt
by_recursion (b ∷ w) e =
    let parts = and_parts (not (b == 32)) (list_all (λ c. not (c == 32)) w) e in
    (grind (arith, nat_tests), by_recursion w parts.1)

pub IsWord-literal : (w : List ℕ) → list_all (λ b. not (b == 32)) w ≡ true → IsWord w
IsWord-literal w e = All-from_recursion (λ b. (b == 32) ≡ false) w (by_recursion w e)

pub IsWord-decimal : (n : ℕ) → n < 2 ^ 64 → IsWord (decimal n)
IsWord-decimal n lt =
    let digits = (decimal_is_IsNumeral n lt).0 in
    All-from_get_or (λ b. (b == 32) ≡ false) (decimal n) 0 (λ i h. let d : IsInRange 48 57 (get_or (decimal n) i 0) = digit_at (decimal n) i digits.1 h in ne_eqb _ _ (λ e. omega arith))

-- ---- words that are written one after the other

pub spaced_nil : (old : List ℕ) → old ++ spaced [] ≡ old
unfolding spaced
spaced_nil old = append-nil old

pub spaced_cons : (old w : List ℕ) (ws : List (List ℕ)) → old ++ spaced (w ∷ ws) ≡ (old ++ spaced (w ∷ [])) ++ spaced ws
unfolding spaced
spaced_cons old w ws = rw (append-nil w) (sym (append_assoc old (32 ∷ w) (spaced ws)))

pub spaced-append : (old : List ℕ) (a b : List (List ℕ)) → old ++ spaced (a ++ b) ≡ (old ++ spaced a) ++ spaced b
spaced-append old [] b = ap (λ (r : List ℕ). r ++ spaced b) (sym (spaced_nil old))
spaced-append old (w ∷ a) b = spaced_cons old w (a ++ b) ∙ spaced-append (old ++ spaced (w ∷ [])) a b ∙ ap (λ (r : List ℕ). r ++ spaced b) (sym (spaced_cons old w a))

pub spaced_word : (old w : List ℕ) → old ++ spaced (w ∷ []) ≡ old ++ 32 ∷ w
unfolding spaced
spaced_word old w = ap (λ (r : List ℕ). old ++ 32 ∷ r) (append-nil w)

pub word_written : (old mid new w : List ℕ) → mid ≡ old ++ 32 ∷ [] → new ≡ mid ++ w → new ≡ old ++ spaced (w ∷ [])
word_written old mid new w e f = f ∙ ap (λ (r : List ℕ). r ++ w) e ∙ append_assoc old (32 ∷ []) w ∙ sym (spaced_word old w)

-- one thing more in a list whose words are written
pub flat_map_take : {X A : Type 0} (f : X → List A) (xs : List X) (i : ℕ) (x : X) → x ≡ get_or xs i x → i < length xs → flat_map f (take (i + 1) xs) ≡ flat_map f (take i xs) ++ f x
flat_map_take f xs i x is lt =
    ap (flat_map f) (take_more xs i x lt) ∙ flat_map-append f (take i xs) (get_or xs i x ∷ []) ∙ ap (λ y. flat_map f (take i xs) ++ y) (append-nil (f (get_or xs i x)) ∙ ap f (sym is))
