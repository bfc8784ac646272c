-- A script's bytes as lines, what is said for them, and how far a run has come.
use Rattle.std.specs.Prelude.{◌≡◌, ◌≢◌, ℕ, ◌+◌, ◌<◌, ◌≤◌, ◌⊎◌, false, IsTrue, List, [], ◌∷◌, ◌++◌, length, take, codes}
use Rattle.std.specs.List.{AllByRecursion}
use Rattle.std.specs.Fmt.{decimal}
use Rattle.forest_model.specs.Blocks.{File}
use Rattle.forest_model.specs.State.{new_state, usual_limits}
use Rattle.forest_model.specs.Session.{Session, first_session}
use Rattle.forest_model.specs.Run.{Run}
use Rattle.forest_model.specs.declared.line.Line.{Line}
use Rattle.forest_model.specs.declared.line.Told.{Told}
use Rattle.script_text.specs.Grammar.{IsLine}
use Rattle.script_text.specs.Replies.{reply_spelling}
use Rattle.play_run.specs.Built.{is_built}
use Rattle.play_run.specs.declared.player.TheConstants.{SCRIPT_LIMIT}

-- the words that are taken
abbrev pub AreWords : List (List ℕ) → Type 0
AreWords words = words ≡ codes "play" ∷ codes "--memory" ∷ []

-- no byte ends a line
abbrev pub IsText : List ℕ → Type 0
IsText text = AllByRecursion (λ b. b ≢ 10) text

-- texts, each with the newline that ends it
abbrev pub ended : List (List ℕ) → List ℕ
ended [] = []
ended (text ∷ texts) = text ++ 10 ∷ ended texts

-- a line that is taken, in its one spelling
pub record IsTaken (line : Line) (text : List ℕ) : Type 0 where
  pub is : IsLine false line text
  pub built : IsTrue (is_built line)

-- the texts are those of these lines, one for one
abbrev pub AreTaken : List Line → List (List ℕ) → Type 0
AreTaken [] [] = Unit {0}
AreTaken (line ∷ lines) (text ∷ texts) = IsTaken line text × IsText text × AreTaken lines texts
AreTaken lines texts = ⊥

-- no line has this text
abbrev pub IsBad : List ℕ → Type 0
IsBad text = (line : Line) → IsTaken line text → ⊥

-- what is said for replies: their texts, each with its newline
abbrev pub reply_line : Told → List ℕ
reply_line t = reply_spelling t.lane t.place t.said ++ 10 ∷ []

abbrev pub replies : List Told → List ℕ
replies [] = []
replies (t ∷ ts) = reply_line t ++ replies ts

-- the session of a new store
abbrev pub start : Session
start = first_session (new_state usual_limits)

-- The texts are lines, which were run in their order from a new store; the file went from its first blocks to its last, and
-- what was said since are the replies.
pub record HasSaid (first last : File) (texts : List (List ℕ)) (said : List ℕ) : Type 0 where
  pub lines : List Line
  pub told : List Told
  pub taken : AreTaken lines texts
  pub after : Session
  pub run : Run start first lines told after last
  pub is : said ≡ replies told

-- The same, where of the last reply only the first n bytes were said.
pub record HasSaidPart (n : ℕ) (first last : File) (texts : List (List ℕ)) (said : List ℕ) : Type 0 where
  pub lines : List Line
  pub earlier : List Told
  pub t : Told
  pub taken : AreTaken lines texts
  pub after : Session
  pub run : Run start first lines (earlier ++ t ∷ []) after last
  pub is : said ≡ replies earlier ++ take n (reply_line t)

-- the last line of an input, which may lack its newline; none if nothing stands there
abbrev pub last_line : List ℕ → List (List ℕ)
last_line [] = []
last_line (b ∷ rest) = (b ∷ rest) ∷ []

-- All lines of the whole script were run.
pub record RunsAll (first last : File) (script said : List ℕ) : Type 0 where
  pub texts : List (List ℕ)
  pub rest : List ℕ
  pub cut : script ≡ ended texts ++ rest
  pub no_newline : IsText rest
  pub said_all : HasSaid first last (texts ++ last_line rest) said

-- All whole lines of the bytes taken were run.
pub record RunsWhole (first last : File) (taken said : List ℕ) : Type 0 where
  pub texts : List (List ℕ)
  pub rest : List ℕ
  pub cut : taken ≡ ended texts ++ rest
  pub no_newline : IsText rest
  pub said_all : HasSaid first last texts said

-- A prefix of the lines was run.
pub record RunsPrefix (first last : File) (taken said : List ℕ) : Type 0 where
  pub texts : List (List ℕ)
  pub rest : List ℕ
  pub cut : taken ≡ ended texts ++ rest
  pub said_all : HasSaid first last texts said

-- the first lines of the bytes taken; the last of them may lack its newline where it stands at their end
abbrev pub FirstLines : List ℕ → List (List ℕ) → Type 0
FirstLines taken texts =
    ((rest : List ℕ) × (taken ≡ ended texts ++ rest))
    ⊎ ((before : List (List ℕ)) × (rest : List ℕ) × (taken ≡ ended before ++ rest) × IsText rest × (texts ≡ before ++ last_line rest))

-- The first lines were run, and of the last one's reply only n bytes were said.
pub record RunsPart (n : ℕ) (first last : File) (taken said : List ℕ) : Type 0 where
  pub texts : List (List ℕ)
  pub cut : FirstLines taken texts
  pub said_part : HasSaidPart n first last texts said

-- a whole line that is bad stands next
abbrev pub IsBadLine : List ℕ → Type 0
IsBadLine rest = (bad : List ℕ) × (more : List ℕ) × IsText bad × IsBad bad × (rest ≡ bad ++ 10 ∷ more)

-- the input ends with a bad line
abbrev pub IsBadEnd : List ℕ → List ℕ → Type 0
IsBadEnd rest left = IsText rest × IsBad rest × (rest ≢ []) × (left ≡ [])

-- the byte behind 64 MiB was taken, which belongs to this line
abbrev pub IsTooLong : List ℕ → List ℕ → Type 0
IsTooLong taken rest = (length taken ≡ SCRIPT_LIMIT + 1) × ((front : List ℕ) × (byte : ℕ) × IsText front × (rest ≡ front ++ byte ∷ []))

-- the text that is said for a bad line of this number
abbrev pub bad_line : ℕ → List ℕ
bad_line n = codes "line " ++ decimal n ++ codes ": bad line" ++ 10 ∷ []

-- a bad line stands whole in these bytes, or there are more of them than a script may have
pub record HasBadLine (taken : List ℕ) : Type 0 where
  pub texts : List (List ℕ)
  pub rest : List ℕ
  pub cut : taken ≡ ended texts ++ rest
  pub are_texts : AllByRecursion IsText texts
  pub bad : IsBadLine rest

abbrev pub HoldsBad : List ℕ → Type 0
HoldsBad taken = HasBadLine taken ⊎ (SCRIPT_LIMIT < length taken)

-- the last of these bytes are a bad line, and no byte is left
pub record EndsBad (taken left : List ℕ) : Type 0 where
  pub texts : List (List ℕ)
  pub rest : List ℕ
  pub cut : taken ≡ ended texts ++ rest
  pub are_texts : AllByRecursion IsText texts
  pub bad : IsBadEnd rest left

-- every line of the script is taken, and it isn't too long
pub record IsGood (script : List ℕ) : Type 0 where
  pub texts : List (List ℕ)
  pub rest : List ℕ
  pub cut : script ≡ ended texts ++ rest
  pub no_newline : IsText rest
  pub lines : List Line
  pub taken : AreTaken lines (texts ++ last_line rest)
  pub short : length script ≤ SCRIPT_LIMIT

-- All lines before the first bad one were run, and that one's number is said.
pub record MeetsBad (first last : File) (taken left said : List ℕ) : Type 0 where
  pub texts : List (List ℕ)
  pub rest : List ℕ
  pub cut : taken ≡ ended texts ++ rest
  pub bad : IsBadLine rest ⊎ (IsBadEnd rest left ⊎ IsTooLong taken rest)
  pub before : List ℕ
  pub said_before : HasSaid first last texts before
  pub is : said ≡ before ++ bad_line (length texts + 1)
