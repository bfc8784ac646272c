-- What the reader of a line makes of its words: a value and the words that are left, or nothing.
use Rattle.std.specs.Prelude.{◌≡◌, ◌==◌, ℕ, zero, suc, ◌+◌, ◌-◌, ◌*◌, ◌^◌, Bool, true, false, ◌&&◌, ◌||◌, not, nat_le, nat_lt, nat_eq, List, [], ◌∷◌, length, find, Option, Some, None, is_some, Result, Ok, Err, if◌then◌else◌, codes}
use Rattle.std.specs.Option.{option_map_or}
use Rattle.std.specs.List.{slice_split}
use Rattle.std.specs.Fmt.{decimal}
use Rattle.std.specs.Str.Parse.{digits_value}
use Rattle.forest_model.specs.declared.call.Item.{Item}
use Rattle.forest_model.specs.declared.call.Item.TheVariants as item
use Rattle.std.specs.Cmp.Lexicographic.{pointwise}
use Rattle.forest_model.specs.declared.line.Line.{Line}
use Rattle.forest_model.specs.declared.line.Verb.{Verb}
use Rattle.forest_model.specs.declared.line.Verb.TheVariants as verb
use Rattle.script_text.specs.declared.keyword.Keyword.{Keyword}
use Rattle.script_text.specs.declared.keyword.Keyword.TheVariants as keyword
use Rattle.script_text.specs.declared.unread.Unread.{Unread}
use Rattle.script_text.specs.declared.unread.Unread.TheVariants as unread
use Rattle.script_text.specs.Words.{is_plain}

infixl 10 ◌>>=◌
abbrev pub ◌>>=◌ : {A B : Type 0} → Option A → (A → Option B) → Option B
None >>= f = None
(Some x) >>= f = f x

-- What a method of the reader answered, and the words that it left, are what reading gives, unless memory ran out.
abbrev pub Fails : {A : Type 0} → Unread → Option A → Type 0
Fails unread.NoMemory read = Unit {0}
Fails unread.NotALine read = read ≡ None

abbrev pub GivesBy : {X A : Type 0} → (X → A) → Result X Unread → List (List ℕ) → Option (A × List (List ℕ)) → Type 0
GivesBy view (Ok x) left read = read ≡ Some (view x, left)
GivesBy view (Err e) left read = Fails e read

abbrev pub Gives : {A : Type 0} → Result A Unread → List (List ℕ) → Option (A × List (List ℕ)) → Type 0
Gives result left read = GivesBy (λ x. x) result left read

abbrev pub GivesWhole : {A : Type 0} → Result A Unread → Option A → Type 0
GivesWhole (Ok x) read = read ≡ Some x
GivesWhole (Err e) read = Fails e read

abbrev pub GivesFirst : {A : Type 0} → Result A Unread → Option (A × List (List ℕ)) → Type 0
GivesFirst {A} (Ok x) read = (left : List (List ℕ)) × (read ≡ Some (x, left))
GivesFirst (Err e) read = Fails e read

-- the words of a text, which single spaces part
abbrev pub words_in : List ℕ → List (List ℕ)
words_in text = slice_split (λ b. b == 32) text

unfoldable pub word_at : List (List ℕ) → Option (List ℕ × List (List ℕ))
word_at [] = None
word_at (w ∷ ws) = Some (w, ws)

unfoldable pub none_left : List (List ℕ) → Bool
none_left [] = true
none_left (w ∷ ws) = false

unfoldable pub end_at : List (List ℕ) → Option (Unit {0} × List (List ℕ))
end_at ws = if none_left ws then Some (tt, ws) else None

-- ---- keywords

unfoldable pub keyword_name : Keyword → List ℕ
keyword_name keyword.Use = codes "use"
keyword_name keyword.Ro = codes "ro"
keyword_name keyword.Remove = codes "remove"
keyword_name keyword.Set = codes "set"
keyword_name keyword.Del = codes "del"
keyword_name keyword.Batch = codes "batch"
keyword_name keyword.Put = codes "put"
keyword_name keyword.Get = codes "get"
keyword_name keyword.BySeq = codes "byseq"
keyword_name keyword.Commit = codes "commit"
keyword_name keyword.Markers = codes "markers"
keyword_name keyword.Rollback = codes "rollback"
keyword_name keyword.Info = codes "info"
keyword_name keyword.Snap = codes "snap"
keyword_name keyword.Latest = codes "latest"
keyword_name keyword.At = codes "at"
keyword_name keyword.Close = codes "close"
keyword_name keyword.Scan = codes "scan"
keyword_name keyword.Seqs = codes "seqs"
keyword_name keyword.Up = codes "up"
keyword_name keyword.Down = codes "down"
keyword_name keyword.Compact = codes "compact"
keyword_name keyword.Begin = codes "begin"
keyword_name keyword.Copy = codes "copy"
keyword_name keyword.Delta = codes "delta"
keyword_name keyword.Switch = codes "switch"
keyword_name keyword.Cancel = codes "cancel"

abbrev pub keywords : List Keyword
keywords =
    keyword.Use
    ∷ keyword.Ro
    ∷ keyword.Remove
    ∷ keyword.Set
    ∷ keyword.Del
    ∷ keyword.Batch
    ∷ keyword.Put
    ∷ keyword.Get
    ∷ keyword.BySeq
    ∷ keyword.Commit
    ∷ keyword.Markers
    ∷ keyword.Rollback
    ∷ keyword.Info
    ∷ keyword.Snap
    ∷ keyword.Latest
    ∷ keyword.At
    ∷ keyword.Close
    ∷ keyword.Scan
    ∷ keyword.Seqs
    ∷ keyword.Up
    ∷ keyword.Down
    ∷ keyword.Compact
    ∷ keyword.Begin
    ∷ keyword.Copy
    ∷ keyword.Delta
    ∷ keyword.Switch
    ∷ keyword.Cancel ∷ []

unfoldable pub keyword_of : List ℕ → Option Keyword
keyword_of word = find (λ k. pointwise nat_eq (keyword_name k) word) keywords

unfoldable pub keyword_at : List (List ℕ) → Option (Keyword × List (List ℕ))
keyword_at ws = do
  word ← word_at ws
  k ← keyword_of word.0
  Some (k, word.1)

-- ---- text words

unfoldable pub hex_of : ℕ → Option ℕ
hex_of c = if nat_le 48 c && nat_le c 57 then Some (c - 48) else (if nat_le 65 c && nat_le c 70 then Some (c - 55) else None)

-- a byte that is escaped, behind the %, and what follows
unfoldable pub escape_at : List ℕ → Option (ℕ × List ℕ)
escape_at (high ∷ low ∷ rest) = do
  x ← hex_of high
  y ← hex_of low
  if is_plain (16 * x + y) then None else Some (16 * x + y, rest)
escape_at _ = None

-- the first byte of a word, and what follows its spelling
unfoldable pub byte_at : List ℕ → Option (ℕ × List ℕ)
byte_at [] = None
byte_at (b ∷ rest) = if is_plain b then Some (b, rest) else (if b == 37 then escape_at rest else None)

-- the bytes of a word of at most so many cells
unfoldable pub bytes_at : ℕ → List ℕ → Option (List ℕ)
bytes_at n [] = Some []
bytes_at zero (b ∷ rest) = None
bytes_at (suc n) (b ∷ rest) = do
  first ← byte_at (b ∷ rest)
  others ← bytes_at n first.1
  Some (first.0 ∷ others)

unfoldable pub bytes_of : List ℕ → Option (List ℕ)
bytes_of word = if length word == 0 then None else (if pointwise nat_eq word (codes "-") then Some [] else (if pointwise nat_eq word (codes "%2D") then Some (codes "-") else bytes_at (length word) word))

unfoldable pub text_at : List (List ℕ) → Option (List ℕ × List (List ℕ))
text_at ws = do
  word ← word_at ws
  bytes ← bytes_of word.0
  Some (bytes, word.1)

-- ---- numbers

-- digits that begin with a sign, or with a zero that isn't the only digit
abbrev pub is_padded : List ℕ → Bool
is_padded [] = false
is_padded (b ∷ []) = b == 43
is_padded (b ∷ c ∷ rest) = b == 43 || b == 48

-- the number whose decimal digits the word is
unfoldable pub number_of : List ℕ → Option ℕ
number_of word = let n = digits_value 10 word in if pointwise nat_eq word (decimal n) && nat_lt n (2 ^ 64) then Some n else None

unfoldable pub number_at : List (List ℕ) → Option (ℕ × List (List ℕ))
number_at ws = do
  word ← word_at ws
  n ← number_of word.0
  Some (n, word.1)

unfoldable pub count_at : ℕ → List (List ℕ) → Option (ℕ × List (List ℕ))
count_at most ws = do
  n ← number_at ws
  if nat_le 1 n.0 && nat_le n.0 most then Some n else None

unfoldable pub lane_at : List (List ℕ) → Option (ℕ × List (List ℕ))
lane_at ws = do
  n ← number_at ws
  if nat_le n.0 15 then Some n else None

-- ---- the parts of a line

unfoldable pub read_only_of : Keyword → List (List ℕ) → Option (Bool × List (List ℕ))
read_only_of keyword.Ro ws = Some (true, ws)
read_only_of _ ws = None

unfoldable pub read_only_at : List (List ℕ) → Option (Bool × List (List ℕ))
read_only_at ws = if none_left ws then Some (false, ws) else (keyword_at ws >>= λ k. read_only_of k.0 k.1)

unfoldable pub meta_at : List (List ℕ) → Option (List ℕ × List (List ℕ))
meta_at ws = if none_left ws then Some ([], ws) else (text_at ws >>= λ t. if length t.0 == 0 then None else Some t)

unfoldable pub direction_of : Keyword → List (List ℕ) → Option (Bool × List (List ℕ))
direction_of keyword.Up ws = Some (true, ws)
direction_of keyword.Down ws = Some (false, ws)
direction_of _ ws = None

unfoldable pub direction_at : List (List ℕ) → Option (Bool × List (List ℕ))
direction_at ws = do
  k ← keyword_at ws
  direction_of k.0 k.1

unfoldable pub put_at : List (List ℕ) → Option (Item × List (List ℕ))
put_at ws = do
  key ← text_at ws
  body ← text_at key.1
  meta ← text_at body.1
  Some (item.Put key.0 meta.0 body.0, meta.1)

unfoldable pub del_at : List (List ℕ) → Option (Item × List (List ℕ))
del_at ws = do
  key ← text_at ws
  Some (item.Del key.0, key.1)

unfoldable pub item_of : Keyword → List (List ℕ) → Option (Item × List (List ℕ))
item_of keyword.Put ws = put_at ws
item_of keyword.Del ws = del_at ws
item_of _ ws = None

unfoldable pub item_at : List (List ℕ) → Option (Item × List (List ℕ))
item_at ws = do
  k ← keyword_at ws
  item_of k.0 k.1

-- items to the end, but at most so many
unfoldable pub items_at : ℕ → List (List ℕ) → Option (List Item × List (List ℕ))
items_at zero ws = Some ([], ws)
items_at (suc n) ws = if none_left ws then Some ([], ws) else (item_at ws >>= λ first. items_at n first.1 >>= λ others. Some (first.0 ∷ others.0, others.1))

-- ---- verbs

unfoldable pub use_at : List (List ℕ) → Option (Verb × List (List ℕ))
use_at ws = do
  name ← text_at ws
  read_only ← read_only_at name.1
  Some (verb.UseStore name.0 read_only.0, read_only.1)

unfoldable pub set_at : List (List ℕ) → Option (Verb × List (List ℕ))
set_at ws = do
  key ← text_at ws
  body ← text_at key.1
  meta ← meta_at body.1
  Some (verb.Set key.0 meta.0 body.0, meta.1)

unfoldable pub batch_at : List (List ℕ) → Option (Verb × List (List ℕ))
batch_at ws = do
  items ← items_at 1024 ws
  if length items.0 == 0 then None else Some (verb.Batch items.0, items.1)

unfoldable pub scan_at : List (List ℕ) → Option (Verb × List (List ℕ))
scan_at ws = do
  up ← direction_at ws
  from ← text_at up.1
  count ← count_at 65536 from.1
  Some (verb.Scan up.0 from.0 count.0, count.1)

unfoldable pub seqs_at : List (List ℕ) → Option (Verb × List (List ℕ))
seqs_at ws = do
  up ← direction_at ws
  from ← number_at up.1
  count ← count_at 65536 from.1
  Some (verb.Seqs up.0 from.0 count.0, count.1)

-- a verb that a text word follows, or a number
abbrev pub with_text : (List ℕ → Verb) → List (List ℕ) → Option (Verb × List (List ℕ))
with_text make ws = text_at ws >>= λ t. Some (make t.0, t.1)

abbrev pub with_number : (ℕ → Verb) → List (List ℕ) → Option (Verb × List (List ℕ))
with_number make ws = number_at ws >>= λ n. Some (make n.0, n.1)

unfoldable pub snap_of : Keyword → List (List ℕ) → Option (Verb × List (List ℕ))
snap_of keyword.Latest ws = Some (verb.SnapLatest, ws)
snap_of keyword.At ws = with_number (λ n. verb.SnapAt n) ws
snap_of keyword.Get ws = with_text (λ t. verb.SnapGet t) ws
snap_of keyword.BySeq ws = with_number (λ n. verb.SnapBySeq n) ws
snap_of keyword.Close ws = Some (verb.SnapClose, ws)
snap_of _ ws = None

unfoldable pub snap_at : List (List ℕ) → Option (Verb × List (List ℕ))
snap_at ws = do
  k ← keyword_at ws
  snap_of k.0 k.1

unfoldable pub copy_at : List (List ℕ) → Option (Verb × List (List ℕ))
copy_at ws = do
  count ← count_at 1000000 ws
  Some (verb.CompactCopy count.0, count.1)

unfoldable pub compact_of : Keyword → List (List ℕ) → Option (Verb × List (List ℕ))
compact_of keyword.Begin ws = Some (verb.CompactBegin, ws)
compact_of keyword.Copy ws = copy_at ws
compact_of keyword.Delta ws = Some (verb.CompactDelta, ws)
compact_of keyword.Switch ws = Some (verb.CompactSwitch, ws)
compact_of keyword.Cancel ws = Some (verb.CompactCancel, ws)
compact_of _ ws = None

unfoldable pub compact_at : Bool → List (List ℕ) → Option (Verb × List (List ℕ))
compact_at server ws = if server then Some (verb.Compact, ws) else (keyword_at ws >>= λ k. compact_of k.0 k.1)

unfoldable pub verb_of : Bool → Keyword → List (List ℕ) → Option (Verb × List (List ℕ))
verb_of server keyword.Use ws = use_at ws
verb_of server keyword.Remove ws = with_text (λ t. verb.Remove t) ws
verb_of server keyword.Set ws = set_at ws
verb_of server keyword.Del ws = with_text (λ t. verb.Del t) ws
verb_of server keyword.Batch ws = batch_at ws
verb_of server keyword.Get ws = with_text (λ t. verb.Get t) ws
verb_of server keyword.BySeq ws = with_number (λ n. verb.BySeq n) ws
verb_of server keyword.Commit ws = Some (verb.Commit, ws)
verb_of server keyword.Markers ws = Some (verb.Markers, ws)
verb_of server keyword.Rollback ws = with_number (λ n. verb.Rollback n) ws
verb_of server keyword.Info ws = Some (verb.Info, ws)
verb_of server keyword.Snap ws = snap_at ws
verb_of server keyword.Scan ws = scan_at ws
verb_of server keyword.Seqs ws = seqs_at ws
verb_of server keyword.Compact ws = compact_at server ws
verb_of server _ ws = None

unfoldable pub verb_at : Bool → List (List ℕ) → Option (Verb × List (List ℕ))
verb_at server ws = do
  k ← keyword_at ws
  verb_of server k.0 k.1

unfoldable pub line_at : Bool → List (List ℕ) → Option (Line × List (List ℕ))
line_at server ws = do
  lane ← lane_at ws
  asked ← verb_at server lane.1
  ended ← end_at asked.1
  Some (record { lane = lane.0; verb = asked.0 }, ended.1)

-- ---- memory

-- Memory is taken for the bytes of a text word, unless it is empty or the word of no bytes.
unfoldable pub has_bytes : List ℕ → Bool
has_bytes word = not (length word == 0) && not (pointwise nat_eq word (codes "-"))

unfoldable pub text_takes_memory : List (List ℕ) → Bool
text_takes_memory ws = option_map_or (λ word. has_bytes word.0) (word_at ws) false

-- the same of text words that are read one after another
unfoldable pub two_texts_take_memory : List (List ℕ) → Bool
two_texts_take_memory ws = text_takes_memory ws || option_map_or (λ t. text_takes_memory t.1) (text_at ws) false

unfoldable pub three_texts_take_memory : List (List ℕ) → Bool
three_texts_take_memory ws = text_takes_memory ws || option_map_or (λ t. two_texts_take_memory t.1) (text_at ws) false

-- of an item's words, and of a batch's, which takes memory for each item that was read
unfoldable pub item_takes_memory_behind : Keyword → List (List ℕ) → Bool
item_takes_memory_behind keyword.Put ws = three_texts_take_memory ws
item_takes_memory_behind keyword.Del ws = text_takes_memory ws
item_takes_memory_behind _ ws = false

unfoldable pub item_takes_memory : List (List ℕ) → Bool
item_takes_memory ws = option_map_or (λ k. item_takes_memory_behind k.0 k.1) (keyword_at ws) false

unfoldable pub batch_takes_memory : List (List ℕ) → Bool
batch_takes_memory ws = is_some (item_at ws) || item_takes_memory ws

-- of a keyword behind `snap`
unfoldable pub snap_takes_memory_behind : Keyword → List (List ℕ) → Bool
snap_takes_memory_behind keyword.Get ws = text_takes_memory ws
snap_takes_memory_behind _ ws = false

-- of a verb
unfoldable pub takes_memory_behind : Keyword → List (List ℕ) → Bool
takes_memory_behind keyword.Use ws = text_takes_memory ws
takes_memory_behind keyword.Remove ws = text_takes_memory ws
takes_memory_behind keyword.Set ws = three_texts_take_memory ws
takes_memory_behind keyword.Del ws = text_takes_memory ws
takes_memory_behind keyword.Batch ws = batch_takes_memory ws
takes_memory_behind keyword.Get ws = text_takes_memory ws
takes_memory_behind keyword.Snap ws = option_map_or (λ k. snap_takes_memory_behind k.0 k.1) (keyword_at ws) false
takes_memory_behind keyword.Scan ws = option_map_or (λ up. text_takes_memory up.1) (direction_at ws) false
takes_memory_behind _ ws = false

unfoldable pub verb_takes_memory : List (List ℕ) → Bool
verb_takes_memory ws = option_map_or (λ k. takes_memory_behind k.0 k.1) (keyword_at ws) false

-- a text begins with a lane and with a verb that takes memory
unfoldable pub takes_memory : List (List ℕ) → Bool
takes_memory ws = option_map_or (λ lane. verb_takes_memory lane.1) (lane_at ws) false
