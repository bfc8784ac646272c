-- What a run of a script has said, taken and left in the end.
use Rattle.std.specs.Prelude.{◌≡◌, ◌⊎◌, ◌+◌, ◌<◌, ℕ, Bool, IsTrue, List, [], ◌∷◌, ◌++◌, length, take, codes}
use Rattle.std.specs.Fmt.{decimal}
use Rattle.block_host.specs.Disk.{Disk, risen}
use Rattle.forest_model.specs.Blocks.{File}
use Rattle.play_run.specs.Seen.{Seen, BeginsWith, seen}
use Rattle.play_run.specs.Script.{RunsWhole, RunsPrefix, RunsPart, MeetsBad, bad_line}

-- What a run has come to: the current file's first and last blocks and the bytes said since. Where the host tells them, they are those that it saw.
pub record ComesTo (tells : Bool) (before now : Seen) (P : File → File → List ℕ → Type 0) : Type 0 where
  pub first : File
  pub last : File
  pub said : List ℕ
  pub ran : P first last said
  pub said_is : IsTrue tells → now.said ≡ before.said ++ said
  pub first_is : IsTrue tells → first ≡ before.file
  pub last_is : IsTrue tells → last ≡ now.file

-- the same where a call failed behind it: the current file begins with those last blocks
pub record BreaksOff (tells : Bool) (before now : Seen) (P : File → File → List ℕ → Type 0) : Type 0 where
  pub first : File
  pub last : File
  pub said : List ℕ
  pub ran : P first last said
  pub said_is : IsTrue tells → now.said ≡ before.said ++ said
  pub first_is : IsTrue tells → first ≡ before.file
  pub front : IsTrue tells → BeginsWith last now.file

-- this text was said, or the first of its bytes, and the file is as it was
pub record SaidThen (text : List ℕ) (before now : Seen) : Type 0 where
  pub said : now.said ≡ before.said ++ text
  pub file : now.file ≡ before.file

pub record PartSaid (text : List ℕ) (before now : Seen) : Type 0 where
  pub n : ℕ
  pub said : now.said ≡ before.said ++ take n text
  pub file : now.file ≡ before.file

-- the same as they are seen of a host's disk
abbrev pub Leaves : Bool → Disk → Disk → (File → File → List ℕ → Type 0) → Type 0
Leaves tells before now P = ComesTo tells (seen before) (seen now) P

abbrev pub Says : List ℕ → Disk → Disk → Type 0
Says text before now = SaidThen text (seen before) (seen now)

abbrev pub SaysPart : List ℕ → Disk → Disk → Type 0
SaysPart text before now = PartSaid text (seen before) (seen now)

-- these bytes were taken of what a source had
abbrev pub Takes : List ℕ → List ℕ → (List ℕ → Type 0) → Type 0
Takes had left P = (taken : List ℕ) × (had ≡ taken ++ left) × P taken

-- a count that didn't rise, and isn't at the last value of a u64
abbrev pub Rests : ℕ → ℕ → Type 0
Rests before now = now < risen before

-- the texts of the statuses
abbrev pub words_refused : List ℕ
words_refused = codes "words refused" ++ 10 ∷ []

abbrev pub source_fault : List ℕ
source_fault = codes "source fault" ++ 10 ∷ []

abbrev pub no_store : List ℕ
no_store = codes "no store" ++ 10 ∷ []

abbrev pub damaged : ℕ → ℕ → List ℕ
damaged file block = codes "damaged " ++ decimal file ++ codes " " ++ decimal block ++ 10 ∷ []

-- all whole lines were run, and then a text was said
abbrev pub RunsAndSays : List ℕ → List ℕ → File → File → List ℕ → Type 0
RunsAndSays text taken first last said = (before : List ℕ) × RunsWhole first last taken before × (said ≡ before ++ text)

-- a prefix of the lines was run, and then a block's text was said
abbrev pub MeetsDamaged : List ℕ → File → File → List ℕ → Type 0
MeetsDamaged taken first last said =
    (file : ℕ) × (block : ℕ) × (before : List ℕ) × RunsPrefix first last taken before × (said ≡ before ++ damaged file block)

-- A prefix of the lines was run. All their replies were said, or all but the last.
abbrev pub RunsSome : List ℕ → File → File → List ℕ → Type 0
RunsSome taken first last said = RunsPrefix first last taken said ⊎ RunsPart 0 first last taken said

-- What was said where saying failed: the first n bytes of the reply to the last line that was run, or of the text that ends a
-- run, and all that comes before it.
abbrev pub CutsText : List ℕ → List ℕ → File → File → List ℕ → Type 0
CutsText taken left first last said =
    (n : ℕ)
    × (RunsPart n first last taken said
    ⊎ (((before : List ℕ) × RunsWhole first last taken before × (said ≡ before ++ take n source_fault))
    ⊎ (((whole : List ℕ) × (bad : MeetsBad first last taken left whole) × (said ≡ bad.before ++ take n (bad_line (length bad.texts + 1))))
    ⊎ ((file : ℕ) × (block : ℕ) × (before : List ℕ) × RunsPrefix first last taken before × (said ≡ before ++ take n (damaged file block))))))

-- What a run has come to where the host failed. A text was cut short while it was said, and the file is that of the lines
-- run; or another call failed, what was said is the replies of a prefix of the lines, and the file begins with that of their run.
abbrev pub FailsSeen : Bool → Seen → Seen → List ℕ → List ℕ → Type 0
FailsSeen tells before now taken left = ComesTo tells before now (CutsText taken left) ⊎ BreaksOff tells before now (λ first last. RunsPrefix first last taken)

abbrev pub Fails : Bool → Disk → Disk → List ℕ → List ℕ → Type 0
Fails tells before now taken left = FailsSeen tells (seen before) (seen now) taken left
