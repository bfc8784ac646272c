-- How far a player has come: what its open file stands for, and what was said.
use Rattle.std.specs.Prelude.{◌≡◌, ℕ, ◌+◌, ◌≤◌, ◌⊎◌, Bool, IsTrue, List, [], ◌∷◌, ◌++◌, length}
use Rattle.forest_model.specs.Blocks.{File}
use Rattle.forest_model.specs.Run.{Run}
use Rattle.forest_model.specs.declared.line.Line.{Line}
use Rattle.forest_model.specs.declared.line.Told.{Told}
use Rattle.forest_model.specs.Session.{Session}
use Rattle.play_run.specs.Seen.{Seen}
use Rattle.play_run.specs.Playing.{Position, IsAt, LeadsEach}
use Rattle.block_host.specs.Disk.{Disk, risen}
use Rattle.block_host.specs.declared.fresh.Fresh as Fresh
use Rattle.block_host.specs.declared.host.Host as Host
use Rattle.block_host.specs.declared.view.View as View
use Rattle.file_parts.specs.Keeping.{Begins}
use Rattle.file_parts.specs.Moment.{Aside}
use Rattle.file_parts.specs.declared.parts.Parts.{Parts}
use Rattle.play_run.specs.Play.{ComesTo, BreaksOff, SaidThen, PartSaid, Takes, RunsSome, source_fault, damaged}
use Rattle.play_run.specs.Script.{start, bad_line, IsTaken, AreTaken, IsText, IsBad, ended, replies, HasSaid, HasSaidPart, RunsAll, RunsWhole, RunsPrefix, RunsPart, IsBadLine, IsBadEnd, IsTooLong}
use Rattle.play_run.specs.declared.player.Ended.{Ended}
use Rattle.play_run.specs.declared.player.Ended.TheVariants.{BadLine, NoMemory, HostFault, SourceFault, AtEnd, Damaged}
use Rattle.play_run.specs.declared.player.TheConstants.{SCRIPT_LIMIT}

-- The lines of these texts were run from the first file on, and their replies were said behind what had been said before.
pub record HasRun (tells : Bool) (base heard : Seen) (texts : List (List ℕ)) (m : Position) (count : ℕ) : Type 0 where
  pub lines : List Line
  pub told : List Told
  pub taken : AreTaken lines texts
  pub counted : length texts ≡ count
  pub first : File
  pub last : File
  pub after : Session
  pub run : Run start first lines told after last
  pub here : IsAt tells m after last
  pub said_is : IsTrue tells → heard.said ≡ base.said ++ replies told
  pub first_is : IsTrue tells → first ≡ base.file
  pub last_is : IsTrue tells → last ≡ heard.file

-- The bytes taken are the lines run, and an open line.
pub record HasTaken (tells : Bool) (base heard : Seen) (taken : List ℕ) (m : Position) (open_line : List ℕ) (count : ℕ) : Type 0 where
  pub texts : List (List ℕ)
  pub cut : taken ≡ ended texts ++ open_line
  pub no_newline : IsText open_line
  pub run : HasRun tells base heard texts m count

-- these lines were run, and what was heard since is their replies
abbrev pub HasHeard : Bool → Seen → Seen → List (List ℕ) → Type 0
HasHeard tells base heard texts = ComesTo tells base heard (λ first last. HasSaid first last texts)

-- of the last reply only the first n bytes were heard
abbrev pub HasHeardPart : ℕ → Bool → Seen → Seen → List (List ℕ) → Type 0
HasHeardPart n tells base heard texts = ComesTo tells base heard (λ first last. HasSaidPart n first last texts)

-- the host failed behind these lines
abbrev pub HasBroken : Bool → Seen → Seen → List (List ℕ) → Type 0
HasBroken tells base heard texts = BreaksOff tells base heard (λ first last. HasSaid first last texts)

-- What stops a player among the bytes taken: a bad line behind those that were run, or something else after some of them.
pub record StopsAtBad (tells : Bool) (base heard : Seen) (taken : List ℕ) (count : ℕ) : Type 0 where
  pub texts : List (List ℕ)
  pub bad : List ℕ
  pub more : List ℕ
  pub cut : taken ≡ ended texts ++ bad ++ 10 ∷ more
  pub no_newline : IsText bad
  pub no_line : IsBad bad
  pub counted : length texts ≡ count
  pub run : HasHeard tells base heard texts

-- whole lines were run, and of the last one's reply only n bytes were said
pub record RunsWholePart (n : ℕ) (first last : File) (taken said : List ℕ) : Type 0 where
  pub texts : List (List ℕ)
  pub rest : List ℕ
  pub cut : taken ≡ ended texts ++ rest
  pub said_part : HasSaidPart n first last texts said

-- memory ran out before a line was run, or before its reply was said
abbrev pub RunsSomeWhole : List ℕ → File → File → List ℕ → Type 0
RunsSomeWhole taken first last said = RunsPrefix first last taken said ⊎ RunsWholePart 0 first last taken said

-- the host failed while a reply was said, or before
abbrev pub StopsByHost : Bool → Seen → Seen → List ℕ → Type 0
StopsByHost tells base heard taken =
    ComesTo tells base heard (λ first last said. (n : ℕ) × RunsWholePart n first last taken said) ⊎ BreaksOff tells base heard (λ first last. RunsPrefix first last taken)

abbrev pub Stops : Ended → Bool → Seen → Seen → List ℕ → ℕ → Type 0
Stops BadLine tells base heard taken count = StopsAtBad tells base heard taken count
Stops NoMemory tells base heard taken count = ComesTo tells base heard (RunsSomeWhole taken)
Stops HostFault tells base heard taken count = StopsByHost tells base heard taken
Stops (Damaged file block) tells base heard taken count = ComesTo tells base heard (λ first last. RunsPrefix first last taken) × ¬ (IsTrue tells)
Stops AtEnd tells base heard taken count = ⊥
Stops SourceFault tells base heard taken count = ⊥

-- What the run of a line leaves of a disk, whatever comes of it: other files, what was said, and the blocks of its file.
pub record Spares (revision : ℕ) (old new : Disk) : Type 0 where
  pub aside : Aside revision old new
  pub front : Begins (old.files revision) (new.files revision)

-- A text is a line that the store has run over its file, and this is told for it.
pub record RunsText (tells : Bool) (text : List ℕ) (m m' : Position) (before now : Seen) (t : Told) : Type 0 where
  pub line : Line
  pub taken : IsTaken line text
  pub goes : LeadsEach tells m m' line t
  pub silent : IsTrue tells → now.said ≡ before.said

-- Why the run of one text stops: it is no line, or there is no memory for it or for its reply; or the host failed, at its call
-- or while its reply was said.
abbrev pub StopsText : Ended → Bool → List ℕ → Position → ℕ → Seen → Seen → Type 0
StopsText BadLine tells text m count before after = IsBad text × (IsTrue tells → after ≡ before)
StopsText NoMemory tells text m count before after =
    (base : Seen) (texts : List (List ℕ)) → IsText text → HasRun tells base before texts m count
    → HasHeard tells base after texts ⊎ HasHeardPart 0 tells base after (texts ++ text ∷ [])
StopsText HostFault tells text m count before after =
    (base : Seen) (texts : List (List ℕ)) → IsText text → HasRun tells base before texts m count
    → HasBroken tells base after texts ⊎ ((n : ℕ) × HasHeardPart n tells base after (texts ++ text ∷ []))
StopsText (Damaged file block) tells text m count before after = ¬ (IsTrue tells)
StopsText AtEnd tells text m count before after = ⊥
StopsText SourceFault tells text m count before after = ⊥

-- the same where nothing is known of what was said
abbrev pub IsStop : Bool → Ended → Type 0
IsStop tells AtEnd = ⊥
IsStop tells SourceFault = ⊥
IsStop tells (Damaged file block) = ¬ (IsTrue tells)
IsStop tells ended = Unit {0}

-- a damaged block is met of no file that is told
abbrev pub IsSound : Bool → Ended → Type 0
IsSound tells (Damaged file block) = ¬ (IsTrue tells)
IsSound tells ended = Unit {0}

-- the counts of faults of a host, and of the view through which its file is read
pub record Faults : Type 0 where
  pub host : ℕ
  pub view : ℕ

abbrev pub faults_of : {H V F : Type 0} {h : Host.Ghosts H V F} {v : View.Ghosts V} {f : Fresh.Ghosts F} → Parts H V F h v f → Faults
faults_of {H} {V} {F} {h} {v} {f} p = record { host = h.faults p.host; view = v.faults p.view }

-- a count rose exactly where the host failed
abbrev pub FaultsAfter : Ended → Faults → Faults → Type 0
FaultsAfter HostFault before after = (risen before.host ≤ after.host) ⊎ ((before.host ≤ after.host) × (risen before.view ≤ after.view))
FaultsAfter ended before after = after ≡ before

-- So many more bytes of a script were taken, and others are left.
pub record Feeds (tells : Bool) (base heard : Seen) (taken script left : List ℕ) (m : Position) (line_open : List ℕ) (count n : ℕ) : Type 0 where
  pub more : List ℕ
  pub source : script ≡ taken ++ more ++ left
  pub long : length more ≡ n
  pub has : HasTaken tells base heard (taken ++ more) m line_open count

-- What the run of a source's bytes has come to, with what the source had and still has.
pub record EndsAtBad (tells : Bool) (base heard : Seen) (script left : List ℕ) (count : ℕ) : Type 0 where
  pub texts : List (List ℕ)
  pub taken : List ℕ
  pub rest : List ℕ
  pub source : script ≡ taken ++ left
  pub cut : taken ≡ ended texts ++ rest
  pub bad : IsBadLine rest ⊎ (IsBadEnd rest left ⊎ IsTooLong taken rest)
  pub counted : length texts ≡ count
  pub run : HasHeard tells base heard texts

pub record EndsWhole (tells : Bool) (base heard : Seen) (script : List ℕ) : Type 0 where
  pub first : File
  pub last : File
  pub said : List ℕ
  pub all : RunsAll first last script said
  pub short : length script ≤ SCRIPT_LIMIT
  pub said_is : IsTrue tells → heard.said ≡ base.said ++ said
  pub first_is : IsTrue tells → first ≡ base.file
  pub last_is : IsTrue tells → last ≡ heard.file

pub record EndsAtFault (tells : Bool) (base heard : Seen) (script left : List ℕ) : Type 0 where
  pub taken : List ℕ
  pub source : script ≡ taken ++ left
  pub short : length taken ≤ SCRIPT_LIMIT
  pub first : File
  pub last : File
  pub said : List ℕ
  pub whole : RunsWhole first last taken said
  pub said_is : IsTrue tells → heard.said ≡ base.said ++ said
  pub first_is : IsTrue tells → first ≡ base.file
  pub last_is : IsTrue tells → last ≡ heard.file

-- the host failed while a text was said, or before
abbrev pub EndsByHost : Bool → Seen → Seen → List ℕ → Type 0
EndsByHost tells base heard taken =
    ComesTo tells base heard (λ first last said. (n : ℕ) × RunsPart n first last taken said) ⊎ BreaksOff tells base heard (λ first last. RunsPrefix first last taken)

abbrev pub EndsBy : Ended → Bool → Seen → Seen → List ℕ → List ℕ → ℕ → Type 0
EndsBy AtEnd tells base heard script left count = (left ≡ []) × EndsWhole tells base heard script
EndsBy SourceFault tells base heard script left count = EndsAtFault tells base heard script left
EndsBy BadLine tells base heard script left count = EndsAtBad tells base heard script left count
EndsBy NoMemory tells base heard script left count = Takes script left (λ taken. ComesTo tells base heard (RunsSome taken))
EndsBy HostFault tells base heard script left count = Takes script left (EndsByHost tells base heard)
EndsBy (Damaged file block) tells base heard script left count =
    Takes script left (λ taken. ComesTo tells base heard (λ first last. RunsPrefix first last taken)) × ¬ (IsTrue tells)

-- the status in which a run may end
abbrev pub EndsWith : Ended → ℕ → Type 0
EndsWith AtEnd status = status ≡ 0
EndsWith SourceFault status = (status ≡ 2) ⊎ (status ≡ 4)
EndsWith BadLine status = (status ≡ 3) ⊎ (status ≡ 4)
EndsWith NoMemory status = status ≡ 5
EndsWith HostFault status = status ≡ 4
EndsWith (Damaged file block) status = (status ≡ 6) ⊎ (status ≡ 4)

-- what is said at the end of a run of so many lines
abbrev pub SaysEnd : Ended → ℕ → ℕ → Seen → Seen → Type 0
SaysEnd SourceFault status count before now =
    (status ≡ 2 → SaidThen source_fault before now) × (status ≡ 4 → PartSaid source_fault before now)
SaysEnd BadLine status count before now =
    (status ≡ 3 → SaidThen (bad_line (count + 1)) before now) × (status ≡ 4 → PartSaid (bad_line (count + 1)) before now)
SaysEnd (Damaged file block) status count before now =
    (status ≡ 6 → SaidThen (damaged file block) before now) × (status ≡ 4 → PartSaid (damaged file block) before now)
SaysEnd ended status count before now = now ≡ before
