-- No word of a line has a space in it.
use Rattle.std.proofs.Common.{◌≡◌, ℕ, ◌+◌, ◌<◌, ◌≤◌, ◌^◌, ◌==◌, Bool, true, false, eqb, ltb, nat_le, List, [], ◌∷◌, ◌++◌, refl, arith, lit<, ◌&&◌, not, codes}
use Rattle.std.specs.Fmt.{decimal}
use Rattle.std.specs.List.{flat_map, AllByRecursion}
use Rattle.std.proofs.lemmas.Bool.{ne_eqb, and_parts, leb-true, cond_both}
use Rattle.std.proofs.lemmas.List.Elements.{All-nil, All-cons, All-append}
use Rattle.forest_model.specs.declared.call.Item.{Item}
use Rattle.forest_model.specs.declared.call.Item.TheVariants as item
use Rattle.forest_model.specs.declared.line.Verb.{Verb}
use Rattle.forest_model.specs.declared.line.Verb.TheVariants as verb
use Rattle.script_text.specs.Words.{is_plain, hex_digit, escape, byte_spelling, word_of}
use Rattle.script_text.specs.Grammar.{IsCount, meta_words, item_words, direction, verb_words, IsRightVerb}
use Rattle.script_text.proofs.Splitting.{IsWord, IsWord-literal, IsWord-decimal}

abbrev NoSpace : ℕ → Type 0
NoSpace b = (b == 32) ≡ false

no_space : (b : ℕ) → 33 ≤ b → NoSpace b
no_space b low = ne_eqb b 32 (λ e. omega arith)

plain_no_space : (b : ℕ) → is_plain b ≡ true → NoSpace b
plain_no_space b e = no_space b (leb-true 33 b (and_parts (nat_le 33 b) (nat_le b 126) (and_parts (nat_le 33 b && nat_le b 126) (not (eqb b 37)) e).0).0)

hex_no_space : (n : ℕ) → NoSpace (hex_digit n)
hex_no_space n = cond_both (ltb n 10) (48 + n) (55 + n) NoSpace (λ _. no_space (48 + n) (omega arith)) (λ _. no_space (55 + n) (omega arith))

one : (b : ℕ) → NoSpace b → IsWord (b ∷ [])
one b h = All-cons NoSpace b [] h (All-nil NoSpace)

escape_is_word : (x y : ℕ) → IsWord (37 ∷ hex_digit x ∷ hex_digit y ∷ [])
escape_is_word x y = All-cons NoSpace 37 (hex_digit x ∷ hex_digit y ∷ []) refl (All-cons NoSpace (hex_digit x) (hex_digit y ∷ []) (hex_no_space x) (one (hex_digit y) (hex_no_space y)))

byte_is_word : (b : ℕ) → IsWord (byte_spelling b)
byte_is_word b = cond_both (is_plain b) (b ∷ []) (escape b) IsWord (λ e. one b (plain_no_space b e)) (λ _. escape_is_word _ _)

bytes_are_word : (t : List ℕ) → IsWord (flat_map byte_spelling t)
bytes_are_word [] = All-nil NoSpace
bytes_are_word (b ∷ t) = All-append NoSpace (byte_spelling b) (flat_map byte_spelling t) (byte_is_word b) (bytes_are_word t)

text_is_word : (t : List ℕ) → IsWord (word_of t)
unfolding word_of
text_is_word [] = IsWord-literal (codes "-") refl
text_is_word (b ∷ []) = cond_both (eqb b 45) (codes "%2D") (byte_spelling b) IsWord (λ _. IsWord-literal (codes "%2D") refl) (λ _. byte_is_word b)
text_is_word (b ∷ c ∷ t) = bytes_are_word (b ∷ c ∷ t)

count_is_word : (most n : ℕ) → most < 2 ^ 64 → IsCount most n → IsWord (decimal n)
count_is_word most n small within = IsWord-decimal n (omega (arith, within.1))

direction_is_word : (up : Bool) → IsWord (direction up)
direction_is_word true = IsWord-literal (codes "up") refl
direction_is_word false = IsWord-literal (codes "down") refl

abbrev AreWords : List (List ℕ) → Type 0
AreWords ws = AllByRecursion IsWord ws

meta_are_words : (meta : List ℕ) → AreWords (meta_words meta)
unfolding meta_words
meta_are_words [] = tt
meta_are_words (b ∷ meta) = (text_is_word (b ∷ meta), tt)

append_words : (a b : List (List ℕ)) → AreWords a → AreWords b → AreWords (a ++ b)
append_words [] b p q = q
append_words (w ∷ a) b p q = (p.0, append_words a b p.1 q)

item_are_words : (x : Item) → AreWords (item_words x)
unfolding item_words
item_are_words (item.Put key meta body) = (IsWord-literal (codes "put") refl, (text_is_word key, (text_is_word body, (text_is_word meta, tt))))
item_are_words (item.Del key) = (IsWord-literal (codes "del") refl, (text_is_word key, tt))

items_are_words : (xs : List Item) → AreWords (flat_map item_words xs)
items_are_words [] = tt
items_are_words (x ∷ xs) = append_words (item_words x) (flat_map item_words xs) (item_are_words x) (items_are_words xs)

pub verb_are_words : (server : Bool) (v : Verb) → IsRightVerb server v → AllByRecursion IsWord (verb_words v)
unfolding verb_words IsRightVerb
verb_are_words server (verb.UseStore name false) right = (IsWord-literal (codes "use") refl, (text_is_word name, tt))
verb_are_words server (verb.UseStore name true) right = (IsWord-literal (codes "use") refl, (text_is_word name, (IsWord-literal (codes "ro") refl, tt)))
verb_are_words server (verb.Remove name) right = (IsWord-literal (codes "remove") refl, (text_is_word name, tt))
verb_are_words server (verb.Set key meta body) right = (IsWord-literal (codes "set") refl, (text_is_word key, (text_is_word body, meta_are_words meta)))
verb_are_words server (verb.Del key) right = (IsWord-literal (codes "del") refl, (text_is_word key, tt))
verb_are_words server (verb.Batch items) right = (IsWord-literal (codes "batch") refl, items_are_words items)
verb_are_words server (verb.Get key) right = (IsWord-literal (codes "get") refl, (text_is_word key, tt))
verb_are_words server (verb.BySeq seq) right = (IsWord-literal (codes "byseq") refl, (IsWord-decimal seq right, tt))
verb_are_words server verb.Commit right = (IsWord-literal (codes "commit") refl, tt)
verb_are_words server verb.Markers right = (IsWord-literal (codes "markers") refl, tt)
verb_are_words server (verb.Rollback number) right = (IsWord-literal (codes "rollback") refl, (IsWord-decimal number right, tt))
verb_are_words server verb.Info right = (IsWord-literal (codes "info") refl, tt)
verb_are_words server verb.SnapLatest right = (IsWord-literal (codes "snap") refl, (IsWord-literal (codes "latest") refl, tt))
verb_are_words server (verb.SnapAt seq) right = (IsWord-literal (codes "snap") refl, (IsWord-literal (codes "at") refl, (IsWord-decimal seq right, tt)))
verb_are_words server (verb.SnapGet key) right = (IsWord-literal (codes "snap") refl, (IsWord-literal (codes "get") refl, (text_is_word key, tt)))
verb_are_words server (verb.SnapBySeq seq) right = (IsWord-literal (codes "snap") refl, (IsWord-literal (codes "byseq") refl, (IsWord-decimal seq right, tt)))
verb_are_words server verb.SnapClose right = (IsWord-literal (codes "snap") refl, (IsWord-literal (codes "close") refl, tt))
verb_are_words server (verb.Scan up from count) right =
    (IsWord-literal (codes "scan") refl, (direction_is_word up, (text_is_word from, (count_is_word 65536 count (lit< tt) right.1, tt))))
verb_are_words server (verb.Seqs up from count) right =
    (IsWord-literal (codes "seqs") refl, (direction_is_word up, (IsWord-decimal from right.0, (count_is_word 65536 count (lit< tt) right.1, tt))))
verb_are_words server verb.CompactBegin right = (IsWord-literal (codes "compact") refl, (IsWord-literal (codes "begin") refl, tt))
verb_are_words server (verb.CompactCopy count) right = (IsWord-literal (codes "compact") refl, (IsWord-literal (codes "copy") refl, (count_is_word 1000000 count (lit< tt) right.1, tt)))
verb_are_words server verb.CompactDelta right = (IsWord-literal (codes "compact") refl, (IsWord-literal (codes "delta") refl, tt))
verb_are_words server verb.CompactSwitch right = (IsWord-literal (codes "compact") refl, (IsWord-literal (codes "switch") refl, tt))
verb_are_words server verb.CompactCancel right = (IsWord-literal (codes "compact") refl, (IsWord-literal (codes "cancel") refl, tt))
verb_are_words server verb.Compact right = (IsWord-literal (codes "compact") refl, tt)
