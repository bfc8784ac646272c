-- The lines of a script, and the one text of each.
use Rattle.std.specs.Prelude.{◌≡◌, ℕ, ◌≤◌, ◌<◌, ◌^◌, Bool, true, false, IsTrue, not, List, [], ◌∷◌, length, if◌then◌else◌, codes}
use Rattle.std.specs.List.{flat_map, AllByRecursion}
use Rattle.std.specs.Fmt.{decimal}
use Rattle.forest_model.specs.declared.call.Item.{Item}
use Rattle.forest_model.specs.declared.call.Item.TheVariants as item
use Rattle.forest_model.specs.declared.line.Line.{Line}
use Rattle.forest_model.specs.declared.line.Verb.{Verb}
use Rattle.forest_model.specs.declared.line.Verb.TheVariants as verb
use Rattle.script_text.specs.Words.{word_of, joined}

-- ---- the words of a line

-- the meta at the end of a line, where there is any
unfoldable pub meta_words : List ℕ → List (List ℕ)
meta_words [] = []
meta_words (b ∷ meta) = word_of (b ∷ meta) ∷ []

unfoldable pub item_words : Item → List (List ℕ)
item_words (item.Put key meta body) = codes "put" ∷ word_of key ∷ word_of body ∷ word_of meta ∷ []
item_words (item.Del key) = codes "del" ∷ word_of key ∷ []

abbrev pub direction : Bool → List ℕ
direction up = if up then codes "up" else codes "down"

-- a line's words behind its lane
unfoldable pub verb_words : Verb → List (List ℕ)
verb_words (verb.UseStore name false) = codes "use" ∷ word_of name ∷ []
verb_words (verb.UseStore name true) = codes "use" ∷ word_of name ∷ codes "ro" ∷ []
verb_words (verb.Remove name) = codes "remove" ∷ word_of name ∷ []
verb_words (verb.Set key meta body) = codes "set" ∷ word_of key ∷ word_of body ∷ meta_words meta
verb_words (verb.Del key) = codes "del" ∷ word_of key ∷ []
verb_words (verb.Batch items) = codes "batch" ∷ flat_map item_words items
verb_words (verb.Get key) = codes "get" ∷ word_of key ∷ []
verb_words (verb.BySeq seq) = codes "byseq" ∷ decimal seq ∷ []
verb_words verb.Commit = codes "commit" ∷ []
verb_words verb.Markers = codes "markers" ∷ []
verb_words (verb.Rollback number) = codes "rollback" ∷ decimal number ∷ []
verb_words verb.Info = codes "info" ∷ []
verb_words verb.SnapLatest = codes "snap" ∷ codes "latest" ∷ []
verb_words (verb.SnapAt seq) = codes "snap" ∷ codes "at" ∷ decimal seq ∷ []
verb_words (verb.SnapGet key) = codes "snap" ∷ codes "get" ∷ word_of key ∷ []
verb_words (verb.SnapBySeq seq) = codes "snap" ∷ codes "byseq" ∷ decimal seq ∷ []
verb_words verb.SnapClose = codes "snap" ∷ codes "close" ∷ []
verb_words (verb.Scan up from count) = codes "scan" ∷ direction up ∷ word_of from ∷ decimal count ∷ []
verb_words (verb.Seqs up from count) = codes "seqs" ∷ direction up ∷ decimal from ∷ decimal count ∷ []
verb_words verb.CompactBegin = codes "compact" ∷ codes "begin" ∷ []
verb_words (verb.CompactCopy count) = codes "compact" ∷ codes "copy" ∷ decimal count ∷ []
verb_words verb.CompactDelta = codes "compact" ∷ codes "delta" ∷ []
verb_words verb.CompactSwitch = codes "compact" ∷ codes "switch" ∷ []
verb_words verb.CompactCancel = codes "compact" ∷ codes "cancel" ∷ []
verb_words verb.Compact = codes "compact" ∷ []

abbrev pub line_words : Line → List (List ℕ)
line_words line = decimal line.lane ∷ verb_words line.verb

-- the one text of a line, without the newline that ends it
abbrev pub spelling : Line → List ℕ
spelling line = joined (line_words line)

-- ---- which lines there are

abbrev pub AreBytes : List ℕ → Type 0
AreBytes bytes = AllByRecursion (λ b. b < 256) bytes

abbrev pub IsNumber : ℕ → Type 0
IsNumber n = n < 2 ^ 64

-- a number of things, at least one and at most so many
abbrev pub IsCount : ℕ → ℕ → Type 0
IsCount most n = (1 ≤ n) × (n ≤ most)

unfoldable pub IsRightItem : Item → Type 0
IsRightItem (item.Put key meta body) = AreBytes key × AreBytes meta × AreBytes body
IsRightItem (item.Del key) = AreBytes key

-- what a line may ask for, in a script for the server or for play
unfoldable pub IsRightVerb : Bool → Verb → Type 0
IsRightVerb server (verb.UseStore name read_only) = AreBytes name
IsRightVerb server (verb.Remove name) = AreBytes name
IsRightVerb server (verb.Set key meta body) = AreBytes key × AreBytes meta × AreBytes body
IsRightVerb server (verb.Del key) = AreBytes key
IsRightVerb server (verb.Batch items) = IsCount 1024 (length items) × AllByRecursion IsRightItem items
IsRightVerb server (verb.Get key) = AreBytes key
IsRightVerb server (verb.BySeq seq) = IsNumber seq
IsRightVerb server verb.Commit = Unit {0}
IsRightVerb server verb.Markers = Unit {0}
IsRightVerb server (verb.Rollback number) = IsNumber number
IsRightVerb server verb.Info = Unit {0}
IsRightVerb server verb.SnapLatest = Unit {0}
IsRightVerb server (verb.SnapAt seq) = IsNumber seq
IsRightVerb server (verb.SnapGet key) = AreBytes key
IsRightVerb server (verb.SnapBySeq seq) = IsNumber seq
IsRightVerb server verb.SnapClose = Unit {0}
IsRightVerb server (verb.Scan up from count) = AreBytes from × IsCount 65536 count
IsRightVerb server (verb.Seqs up from count) = IsNumber from × IsCount 65536 count
IsRightVerb server verb.CompactBegin = IsTrue (not server)
IsRightVerb server (verb.CompactCopy count) = IsTrue (not server) × IsCount 1000000 count
IsRightVerb server verb.CompactDelta = IsTrue (not server)
IsRightVerb server verb.CompactSwitch = IsTrue (not server)
IsRightVerb server verb.CompactCancel = IsTrue (not server)
IsRightVerb server verb.Compact = IsTrue server

-- ---- the grammar

abbrev pub IsRight : Bool → Line → Type 0
IsRight server line = (line.lane ≤ 15) × IsRightVerb server line.verb

-- The text is that of a line, in a script for the server or for play.
abbrev pub IsLine : Bool → Line → List ℕ → Type 0
IsLine server line text = IsRight server line × (text ≡ spelling line)
