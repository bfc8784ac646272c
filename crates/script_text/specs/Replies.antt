-- The one text of each reply.
use Rattle.std.specs.Prelude.{ℕ, zero, suc, List, [], ◌∷◌, length, map, codes}
use Rattle.std.specs.List.{flat_map}
use Rattle.std.specs.Fmt.{decimal}
use Rattle.forest_model.specs.declared.refusal.Refusal.{Refusal}
use Rattle.forest_model.specs.declared.refusal.Refusal.TheVariants as refusal
use Rattle.forest_model.specs.declared.line.Row.{Row}
use Rattle.forest_model.specs.declared.line.Said.{Said}
use Rattle.forest_model.specs.declared.line.Said.TheVariants as said
use Rattle.script_text.specs.Words.{word_of, joined}
use Rattle.script_text.specs.Grammar.{meta_words}

-- ---- refusals

-- The refusals that a reply may say. The others end a run.
abbrev pub HasText : Refusal → Type 0
HasText refusal.DiskFault = ⊥
HasText refusal.NoMemory = ⊥
HasText (refusal.Stopped faults) = ⊥
HasText (refusal.Damaged file block) = ⊥
HasText refusal.Exists = ⊥
HasText _ = Unit {0}

unfoldable pub refusal_words : Refusal → List (List ℕ)
refusal_words refusal.NotFound = codes "not-found" ∷ []
refusal_words refusal.NoCommit = codes "no-commit" ∷ []
refusal_words refusal.ReadOnly = codes "read-only" ∷ []
refusal_words refusal.KeyLength = codes "key-length" ∷ []
refusal_words refusal.BodyLength = codes "body-length" ∷ []
refusal_words (refusal.Compacting ticket) = codes "compacting" ∷ decimal ticket ∷ []
refusal_words (refusal.NoTicket asked now) = codes "no-ticket" ∷ decimal asked ∷ decimal now ∷ []
refusal_words (refusal.FileFull used needed max) = codes "full" ∷ decimal used ∷ decimal needed ∷ decimal max ∷ []
refusal_words refusal.NoStore = codes "no-store" ∷ []
refusal_words refusal.StoreCount = codes "store-count" ∷ []
refusal_words refusal.NameForm = codes "name-form" ∷ []
refusal_words (refusal.NotCopied left) = codes "not-copied" ∷ decimal left ∷ []
refusal_words refusal.Worn = codes "worn" ∷ []
refusal_words refusal.NoSnapshot = codes "no-snapshot" ∷ []
refusal_words _ = []

-- the text of a refusal that has one
abbrev pub refusal_text : Refusal → List ℕ
refusal_text why = joined (refusal_words why)

-- ---- replies

-- whether a compaction runs, by its ticket
unfoldable pub copying_words : ℕ → List (List ℕ)
copying_words zero = codes "idle" ∷ []
copying_words (suc n) = codes "copying" ∷ decimal (suc n) ∷ []

abbrev pub row_words : Row → List (List ℕ)
row_words row = word_of row.key ∷ decimal row.seq ∷ []

-- a reply's words behind its lane and place
unfoldable pub said_words : Said → List (List ℕ)
said_words (said.Using id) = codes "using" ∷ decimal id ∷ []
said_words (said.Removed id) = codes "removed" ∷ decimal id ∷ []
said_words (said.Done seq) = codes "ok" ∷ decimal seq ∷ []
said_words (said.Gone seq) = codes "gone" ∷ decimal seq ∷ []
said_words (said.Got found) = codes "found" ∷ decimal found.seq ∷ word_of found.body ∷ meta_words found.meta
said_words (said.At found) = codes "at" ∷ decimal found.seq ∷ word_of found.key ∷ word_of found.body ∷ meta_words found.meta
said_words (said.Committed number) = codes "commit" ∷ decimal number ∷ []
said_words (said.MarkersAre numbers) = codes "markers" ∷ map decimal numbers
said_words (said.Rolled number) = codes "rolled" ∷ decimal number ∷ []
said_words (said.InfoIs info) = codes "info" ∷ decimal info.commit ∷ decimal info.seq ∷ decimal info.documents ∷ copying_words info.ticket
said_words said.SnapOpened = codes "snap" ∷ codes "opened" ∷ []
said_words said.SnapClosed = codes "snap" ∷ codes "closed" ∷ []
said_words (said.Listed rows) = codes "list" ∷ decimal (length rows) ∷ flat_map row_words rows
said_words (said.Begun ticket base) = codes "begun" ∷ decimal ticket ∷ decimal base ∷ []
said_words (said.Copied count left) = codes "copied" ∷ decimal count ∷ decimal left ∷ []
said_words (said.Caught number) = codes "caught" ∷ decimal number ∷ []
said_words (said.Switched number) = codes "switched" ∷ decimal number ∷ []
said_words said.Cancelled = codes "cancelled" ∷ []
said_words (said.Refused why) = codes "refused" ∷ refusal_words why

abbrev pub CanBeSaid : Said → Type 0
CanBeSaid (said.Refused why) = HasText why
CanBeSaid _ = Unit {0}

-- the one text of a reply of a lane at a place, without the newline that ends it
abbrev pub reply_spelling : ℕ → ℕ → Said → List ℕ
reply_spelling lane place reply = joined (decimal lane ∷ decimal place ∷ said_words reply)
