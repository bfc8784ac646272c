-- How a run of lines goes on, and what it says.
use Rattle.std.proofs.Common.{◌≡◌, ℕ, ◌+◌, ◌≤◌, List, [], ◌∷◌, ◌++◌, length, Bool, true, false, refl, sym, ap, subst, ◌∙◌, arith, append_assoc, append-nil, length-append, take}
use Rattle.std.proofs.lemmas.Bool.{false≢true}
use Rattle.std.specs.Prelude.{IsTrue}
use Rattle.block_host.specs.Disk.{Disk}
use Rattle.file_core.specs.Updates.{bytes_of}
use Rattle.forest_model.specs.Blocks.{File}
use Rattle.forest_model.specs.Session.{Session, IsTurn, call_in}
use Rattle.forest_model.specs.Run.{Run, FileAfter}
use Rattle.forest_model.specs.declared.line.Line.{Line}
use Rattle.forest_model.specs.declared.line.Told.{Told}
use Rattle.play_run.specs.Seen.{Seen, BeginsWith, seen, current}
use Rattle.play_run.specs.Playing.{Position, IsAt, IsSomewhere, Leads}
use Rattle.play_run.specs.Script.{start, IsTaken, AreTaken, IsText, ended, replies, reply_line, HasSaid}
use Rattle.play_run.specs.Play.{ComesTo, BreaksOff}
use Rattle.play_run.specs.Progress.{HasRun, HasTaken, HasHeard, HasHeardPart, HasBroken, RunsText}
use Rattle.play_run.proofs.Kept.{session_kept}

-- one line more
pub Run-push : (w : Session) (file : File) (lines : List Line) (told : List Told) (mid next : Session) (at grown : File) (line : Line) (t : Told)
    → Run w file lines told mid at → IsTurn mid at line next t → FileAfter mid.state at (call_in mid line) next.state grown
    → Run w file (lines ++ line ∷ []) (told ++ t ∷ []) next grown
Run-push w file [] [] mid next at grown line t run turn grows =
    let at_start : IsTurn w file line next t = subst (λ (s : Session). IsTurn s file line next t) run.0 (subst (λ f. IsTurn mid f line next t) run.1 turn) in
    let grows_there : FileAfter w.state file (call_in w line) next.state grown = subst (λ (s : Session). FileAfter s.state file (call_in s line) next.state grown) run.0 (subst (λ f. FileAfter mid.state f (call_in mid line) next.state grown) run.1 grows) in
    (next, grown, at_start, grows_there, (refl, refl))
Run-push w file [] (t' ∷ told) mid next at grown line t run turn grows = absurd run
Run-push w file (l ∷ lines) [] mid next at grown line t run turn grows = absurd run
Run-push w file (l ∷ lines) (t' ∷ told) mid next at grown line t run turn grows =
    (run.0, run.1, run.2, run.3, Run-push run.0 run.1 lines told mid next at grown line t run.4 turn grows)

-- a position over another disk, whose files are the same
abbrev pub on_disk : Position → Disk → Position
on_disk m disk = record { file = record { held = m.file.held; disk = disk; blocks = m.file.blocks }; lanes = m.lanes }

at_kept : (tells : Bool) (m : Position) (disk : Disk) (w : Session) (f : File) → (IsTrue tells → disk.files ≡ m.file.disk.files) → IsAt tells m w f → IsAt tells (on_disk m disk) w f
at_kept tells m disk w f same h = session_kept tells m.file.held m.file.disk disk m.file.blocks m.file.blocks same (λ _. refl) m.lanes w f h

-- the file is what reads give of file 1
pub file_shown : (tells : Bool) (m : Position) (w : Session) (f : File) → IsAt tells m w f → IsTrue tells → f ≡ current m.file.disk
file_shown tells m w f h told = h.file.file.shown told ∙ ap bytes_of (h.file.stands.shown told ∙ ap m.file.disk.files h.first_file)

-- before the first line
pub runs_none : (tells : Bool) (base : Seen) (m : Position) (f : File) → IsAt tells m start f → (IsTrue tells → f ≡ base.file) → HasRun tells base base [] m 0
runs_none tells base m f here same = record {
  lines = [];
  told = [];
  taken = tt;
  counted = refl;
  first = f;
  last = f;
  after = start;
  run = (refl, refl);
  here = here;
  said_is = λ _. sym (append-nil base.said);
  first_is = same;
  last_is = same;
}

-- ---- lists that grow by one

pub AreTaken-push : (lines : List Line) (texts : List (List ℕ)) (line : Line) (text : List ℕ) → AreTaken lines texts → IsTaken line text → IsText text → AreTaken (lines ++ line ∷ []) (texts ++ text ∷ [])
AreTaken-push [] [] line text h is plain = (is, plain, tt)
AreTaken-push (l ∷ lines) (t ∷ texts) line text h is plain = (h.0, h.1, AreTaken-push lines texts line text h.2 is plain)
AreTaken-push [] (t ∷ texts) line text h is plain = absurd h
AreTaken-push (l ∷ lines) [] line text h is plain = absurd h

pub replies-push : (told : List Told) (t : Told) → replies (told ++ t ∷ []) ≡ replies told ++ reply_line t
replies-push [] t = append-nil (reply_line t)
replies-push (u ∷ told) t = ap (λ xs. reply_line u ++ xs) (replies-push told t) ∙ sym (append_assoc (reply_line u) (replies told) (reply_line t))

pub ended-push : (texts : List (List ℕ)) (text : List ℕ) → ended (texts ++ text ∷ []) ≡ ended texts ++ text ++ 10 ∷ []
ended-push [] text = refl
ended-push (t ∷ texts) text = rw (ended-push texts text) (simp append_assoc)

-- ---- what a run comes to

-- as another relation, and as what is seen later of a host that tells
pub comes_as : (tells : Bool) (base now : Seen) (P Q : File → File → List ℕ → Type 0) → ((first last : File) (said : List ℕ) → P first last said → Q first last said) → ComesTo tells base now P → ComesTo tells base now Q
comes_as tells base now P Q f c = record { first = c.first; last = c.last; said = c.said; ran = f c.first c.last c.said c.ran; said_is = c.said_is; first_is = c.first_is; last_is = c.last_is }

pub breaks_as : (tells : Bool) (base now : Seen) (P Q : File → File → List ℕ → Type 0) → ((first last : File) (said : List ℕ) → P first last said → Q first last said) → BreaksOff tells base now P → BreaksOff tells base now Q
breaks_as tells base now P Q f c = record { first = c.first; last = c.last; said = c.said; ran = f c.first c.last c.said c.ran; said_is = c.said_is; first_is = c.first_is; front = c.front }

pub comes_same : (tells : Bool) (base heard now : Seen) (P : File → File → List ℕ → Type 0) → ComesTo tells base heard P → (IsTrue tells → now ≡ heard) → ComesTo tells base now P
comes_same tells base heard now P c same = record {
  first = c.first;
  last = c.last;
  said = c.said;
  ran = c.ran;
  said_is = λ told. ap (λ (s : Seen). s.said) (same told) ∙ c.said_is told;
  first_is = c.first_is;
  last_is = λ told. c.last_is told ∙ ap (λ (s : Seen). s.file) (sym (same told));
}

pub breaks_same : (tells : Bool) (base heard now : Seen) (P : File → File → List ℕ → Type 0) → BreaksOff tells base heard P → (IsTrue tells → now ≡ heard) → BreaksOff tells base now P
breaks_same tells base heard now P c same = record {
  first = c.first;
  last = c.last;
  said = c.said;
  ran = c.ran;
  said_is = λ told. ap (λ (s : Seen). s.said) (same told) ∙ c.said_is told;
  first_is = c.first_is;
  front = λ told. subst (λ (s : Seen). BeginsWith c.last s.file) (sym (same told)) (c.front told);
}

module _ (tells : Bool) (base heard : Seen) (texts : List (List ℕ)) (m : Position) (count : ℕ) (r : HasRun tells base heard texts m count) where
  all_said : HasSaid r.first r.last texts (replies r.told)
  all_said = record { lines = r.lines; told = r.told; taken = r.taken; after = r.after; run = r.run; is = refl }

  -- the lines run so far are a run
  pub heard_run : HasHeard tells base heard texts
  heard_run = record { first = r.first; last = r.last; said = replies r.told; ran = all_said; said_is = r.said_is; first_is = r.first_is; last_is = r.last_is }

  -- and the host may fail behind them
  pub broken_run : (heard' : Seen) → (IsTrue tells → heard'.said ≡ heard.said) → (IsTrue tells → BeginsWith heard.file heard'.file) → HasBroken tells base heard' texts
  broken_run heard' same front = record {
    first = r.first;
    last = r.last;
    said = replies r.told;
    ran = all_said;
    said_is = λ told. same told ∙ r.said_is told;
    first_is = r.first_is;
    front = λ told. ((front told).0, (front told).1 ∙ ap (λ (f : File). f ++ (front told).0) (sym (r.last_is told)));
  }

-- ---- one line more

-- after a line a position stands for a session again, whatever is said
pub somewhere_more : (tells : Bool) (text : List ℕ) (m m' : Position) (heard middle : Seen) (disk : Disk) (t : Told) → RunsText tells text m m' heard middle t → IsSomewhere tells m
    → (IsTrue tells → disk.files ≡ m'.file.disk.files) → IsSomewhere tells (on_disk m' disk)
somewhere_more tells text m m' heard middle disk t runs at files_are =
    let l : Leads tells m' at.0 at.1 runs.line t = runs.goes at.0 at.1 at.2 in
    (l.next, l.grown, at_kept tells m' disk l.next l.grown files_are l.now)

-- the text as what a slice of it shows
pub runs_as : (tells : Bool) (slice text : List ℕ) (m m' : Position) (heard middle : Seen) (t : Told) → RunsText tells slice m m' heard middle t → slice ≡ text → RunsText tells text m m' heard middle t
runs_as tells slice text m m' heard middle t runs same = subst (λ (xs : List ℕ). RunsText tells xs m m' heard middle t) same runs

-- one line more is run, and its reply is said
pub run_more : (tells : Bool) (base heard middle : Seen) (texts : List (List ℕ)) (m m' : Position) (disk : Disk) (count : ℕ) (text bytes : List ℕ) (t : Told)
    → HasRun tells base heard texts m count → RunsText tells text m m' heard middle t → IsText text → bytes ≡ reply_line t
    → (IsTrue tells → disk.said ≡ middle.said ++ bytes) → (IsTrue tells → disk.files ≡ m'.file.disk.files) → HasRun tells base (seen disk) (texts ++ text ∷ []) (on_disk m' disk) (count + 1)
run_more tells base heard middle texts m m' disk count text bytes t r runs plain bytes_are heard_are files_are =
    let l : Leads tells m' r.after r.last runs.line t = runs.goes r.after r.last r.here in
    let here : IsAt tells (on_disk m' disk) l.next l.grown = at_kept tells m' disk l.next l.grown files_are l.now in
    record {
      lines = r.lines ++ runs.line ∷ [];
      told = r.told ++ l.told ∷ [];
      taken = AreTaken-push r.lines texts runs.line text r.taken runs.taken plain;
      counted = omega (arith, length-append texts (text ∷ []), r.counted);
      first = r.first;
      last = l.grown;
      after = l.next;
      run = Run-push start r.first r.lines r.told r.after l.next r.last l.grown runs.line l.told r.run l.turn l.grows;
      here = here;
      said_is = λ told. heard_are told ∙ ap (λ xs. xs ++ bytes) (runs.silent told ∙ r.said_is told) ∙ ap (λ xs. (base.said ++ replies r.told) ++ xs) (bytes_are ∙ ap reply_line (l.same told))
          ∙ append_assoc base.said (replies r.told) (reply_line l.told) ∙ ap (λ xs. base.said ++ xs) (sym (replies-push r.told l.told));
      first_is = r.first_is;
      last_is = file_shown tells (on_disk m' disk) l.next l.grown here;
    }

-- the same where only the first bytes of the reply are said
first_of : (tells : Bool) (now before bytes : List ℕ) → (IsTrue tells → (n : ℕ) × (n ≤ length bytes) × (now ≡ before ++ take n bytes)) → (n : ℕ) × (IsTrue tells → now ≡ before ++ take n bytes)
first_of true now before bytes part =
    let p = part refl in
    (p.0, λ told. p.2)
first_of false now before bytes part = (0, λ told. absurd (false≢true told))

module _ (tells : Bool) (base heard middle : Seen) (texts : List (List ℕ)) (m m' : Position) (disk : Disk) (count : ℕ) (text bytes : List ℕ) (t : Told) (r : HasRun tells base heard texts m count) (runs : RunsText tells text m m' heard middle t) (plain : IsText text) (bytes_are : bytes ≡ reply_line t) (files_are : IsTrue tells → disk.files ≡ m'.file.disk.files) where
  said_first : (n : ℕ) → (IsTrue tells → disk.said ≡ middle.said ++ take n bytes) → HasHeardPart n tells base (seen disk) (texts ++ text ∷ [])
  said_first n part =
      let l : Leads tells m' r.after r.last runs.line t = runs.goes r.after r.last r.here in
      let here : IsAt tells (on_disk m' disk) l.next l.grown = at_kept tells m' disk l.next l.grown files_are l.now in
      record {
        first = r.first;
        last = l.grown;
        said = replies r.told ++ take n (reply_line l.told);
        ran = record {
          lines = r.lines ++ runs.line ∷ [];
          earlier = r.told;
          t = l.told;
          taken = AreTaken-push r.lines texts runs.line text r.taken runs.taken plain;
          after = l.next;
          run = Run-push start r.first r.lines r.told r.after l.next r.last l.grown runs.line l.told r.run l.turn l.grows;
          is = refl;
        };
        said_is = λ told. part told ∙ ap (λ xs. xs ++ take n bytes) (runs.silent told ∙ r.said_is told) ∙ ap (λ xs. (base.said ++ replies r.told) ++ take n xs) (bytes_are ∙ ap reply_line (l.same told))
            ∙ append_assoc base.said (replies r.told) (take n (reply_line l.told));
        first_is = r.first_is;
        last_is = file_shown tells (on_disk m' disk) l.next l.grown here;
      }

  pub run_part : (IsTrue tells → (n : ℕ) × (n ≤ length bytes) × (disk.said ≡ middle.said ++ take n bytes)) → (n : ℕ) × HasHeardPart n tells base (seen disk) (texts ++ text ∷ [])
  run_part part =
      let some = first_of tells disk.said middle.said bytes part in
      (some.0, said_first some.0 some.1)

  pub run_unsaid : (IsTrue tells → disk.said ≡ middle.said) → HasHeardPart 0 tells base (seen disk) (texts ++ text ∷ [])
  run_unsaid silent = said_first 0 (λ told. silent told ∙ sym (append-nil middle.said))

-- before the first byte
pub before_first : (tells : Bool) (base : Seen) (m : Position) (f : File) (line_open : List ℕ) (count : ℕ) → IsAt tells m start f → (IsTrue tells → f ≡ base.file) → line_open ≡ [] → count ≡ 0
    → HasTaken tells base base [] m line_open count
before_first tells base m f line_open count here same none zero =
    subst (λ (n : ℕ). HasTaken tells base base [] m line_open n) (sym zero)
    (subst (λ (o : List ℕ). HasTaken tells base base [] m o 0) (sym none)
    (record { texts = []; cut = refl; no_newline = tt; run = runs_none tells base m f here same }))
