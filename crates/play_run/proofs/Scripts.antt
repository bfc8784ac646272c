-- What the run of a script says of the program, by what its parts say.
use Rattle.std.proofs.Common.{◌≡◌, ℕ, Bool, List, [], ◌∷◌, ◌++◌, length, refl, sym, ap, subst, ◌∙◌, arith, append-nil, length-append, inl, inr}
use Rattle.std.specs.Prelude.{IsTrue}
use Rattle.block_host.specs.Calls.{Reads}
use Rattle.block_host.specs.Disk.{Disk, Image}
use Rattle.block_host.specs.declared.fresh.Fresh as Fresh
use Rattle.block_host.specs.declared.host.Host as Host
use Rattle.block_host.specs.declared.view.View as View
use Rattle.file_parts.specs.Held.{held}
use Rattle.file_core.specs.Updates.{bytes_of}
use Rattle.file_core.specs.declared.state.FileState.{FileState}
use Rattle.forest_model.specs.Blocks.{File}
use Rattle.forest_model.specs.declared.call.StoreRef.{StoreRef}
use Rattle.forest_model.specs.declared.state.State.{State}
use Rattle.play_run.specs.Seen.{Seen, OthersStay, seen}
use Rattle.play_run.specs.Playing.{Opened, IsSomewhere, StandsFor, opened, position}
use Rattle.play_run.specs.Script.{start, HasSaid, RunsPrefix, HoldsBad, EndsBad, ended}
use Rattle.play_run.specs.Play.{ComesTo, CutsText, FailsSeen, RunsSome, Takes}
use Rattle.play_run.specs.Progress.{HasTaken, EndsBy, SaysEnd}
use Rattle.play_run.specs.declared.player.Ended.{Ended}
use Rattle.play_run.proofs.Taking.{taken_same}

-- a disk whose files and said bytes stay shows the same
pub seen_by : (old new : Disk) → new.files ≡ old.files → new.said ≡ old.said → seen new ≡ seen old
seen_by old new files said = λ i. record { said = said i; file = bytes_of (files i 1) }

pub seen_same : (old new : Disk) → Reads old new → seen new ≡ seen old
seen_same old new r = seen_by old new r.files r.said

-- what a closed host shows
pub closed_seen : {H V F : Type 0} {h : Host.Ghosts H V F} {v : View.Ghosts V} {f : Fresh.Ghosts F} (there closed : FileState H V F h v f) (now : Disk) → closed ≡ there → Reads (h.disk closed.parts.host) now → seen now ≡ seen (h.disk there.parts.host)
closed_seen {H} {V} {F} {h} {v} {f} there closed now same reads = seen_same (h.disk closed.parts.host) now reads ∙ ap (λ (file : FileState H V F h v f). seen (h.disk file.parts.host)) same

-- the file of a new store that was opened, as the host showed it before
opened_file : (tells : Bool) (old : Disk) (o : Opened) (s : State) (f : File) → StandsFor tells o s f → o.held.revision ≡ 1 → (IsTrue tells → Reads old o.disk) → IsTrue tells → f ≡ (seen old).file
opened_file tells old o s f h one reads told =
    h.file.shown told ∙ ap bytes_of (h.stands.shown told ∙ ap o.disk.files one ∙ ap (λ (files : Image). files 1) (reads told).files)

-- before its first line a player stands where its file does
pub somewhere_first : {H V F : Type 0} {h : Host.Ghosts H V F} {v : View.Ghosts V} {f : Fresh.Ghosts F} (tells : Bool) (file there : FileState H V F h v f) (lanes : List StoreRef) → file ≡ there
    → IsSomewhere tells (position there.parts lanes) → IsSomewhere tells (position file.parts lanes)
somewhere_first {H} {V} {F} {h} {v} {f} tells file there lanes same at =
    subst (λ (g : FileState H V F h v f). IsSomewhere tells (position g.parts lanes)) (sym same) at

-- how a run ends over a new store that was opened, and what is said at its end
module _ {H V F : Type 0} {h : Host.Ghosts H V F} {v : View.Ghosts V} {f : Fresh.Ghosts F} (tells : Bool) (base : Disk) (there : FileState H V F h v f) (state : State) (stood : (file : File) × StandsFor tells (opened there.parts) state file) (one : (held there.parts).revision ≡ 1) (reads : IsTrue tells → Reads base (h.disk there.parts.host)) where
  pub script_ends : (why : Ended) (file : FileState H V F h v f) (lanes : List StoreRef) (line_open : List ℕ) (c n n' : ℕ) (s1 : Seen) (script left : List ℕ) → file ≡ there
      → ((s : Seen) (g : File) → StandsFor tells (opened there.parts) state g → (IsTrue tells → g ≡ s.file) → HasTaken tells s s [] (position there.parts lanes) line_open c)
      → ((s : Seen) → HasTaken tells s (seen (h.disk file.parts.host)) [] (position file.parts lanes) line_open c → EndsBy why tells s s1 script left n)
      → n' ≡ n → EndsBy why tells (seen base) s1 script left n'
  script_ends why file lanes line_open c n n' s1 script left same first run count =
      let has : HasTaken tells (seen base) (seen (h.disk there.parts.host)) [] (position there.parts lanes) line_open c =
      taken_same tells (seen base) (seen base) (seen (h.disk there.parts.host)) [] (position there.parts lanes) line_open c
      (first (seen base) stood.0 stood.1 (opened_file tells base (opened there.parts) state stood.0 stood.1 one reads))
      (λ told. seen_same base (h.disk there.parts.host) (reads told)) in
      subst (λ (k : ℕ). EndsBy why tells (seen base) s1 script left k) (sym count)
      (run (seen base) (subst (λ (g : FileState H V F h v f). HasTaken tells (seen base) (seen (h.disk g.parts.host)) [] (position g.parts lanes) line_open c) (sym same) has))

-- what is said at the end, behind what the closed host shows
pub says_end : (why : Ended) (tells : Bool) (s1 s2 now : Seen) (status n : ℕ) → (IsTrue tells → s2 ≡ s1) → (IsTrue tells → SaysEnd why status n s2 now) → IsTrue tells → SaysEnd why status n s1 now
says_end why tells s1 s2 now status n same says told = subst (λ (s : Seen). SaysEnd why status n s now) (same told) (says told)

-- nothing is run
none_run : (first : File) → HasSaid first first [] []
none_run first = record { lines = []; told = []; taken = tt; after = start; run = (refl, refl); is = refl }

no_prefix : (first : File) → RunsPrefix first first [] []
no_prefix first = record { texts = []; rest = []; cut = refl; said_all = none_run first }

pub nothing_run : (tells : Bool) (base now : Seen) (script : List ℕ) → (IsTrue tells → now ≡ base) → Takes script script (λ taken. ComesTo tells base now (RunsSome taken))
nothing_run tells base now script same = (
  [],
  refl,
  record {
    first = base.file;
    last = base.file;
    said = [];
    ran = inl (no_prefix base.file);
    said_is = λ told. ap (λ (s : Seen). s.said) (same told) ∙ sym (append-nil base.said);
    first_is = λ _. refl;
    last_is = λ told. ap (λ (s : Seen). s.file) (sym (same told));
  },
)

pub nothing_said : (tells : Bool) (base now : Seen) (script left : List ℕ) → (IsTrue tells → now ≡ base) → Takes script script (λ taken. FailsSeen tells base now taken left)
nothing_said tells base now script left same = (
  [],
  refl,
  inr (record {
    first = base.file;
    last = base.file;
    said = [];
    ran = no_prefix base.file;
    said_is = λ told. ap (λ (s : Seen). s.said) (same told) ∙ sym (append-nil base.said);
    first_is = λ _. refl;
    front = λ told. ([], ap (λ (s : Seen). s.file) (same told) ∙ sym (append-nil base.file));
  }),
)

-- nothing is taken
none_taken : (script taken : List ℕ) → script ≡ taken ++ script → taken ≡ []
none_taken script [] e = refl
none_taken script (b ∷ taken) e = absurd (omega (arith, ap length e, length-append taken script))

not_empty : (xs : List ℕ) (x : ℕ) (ys zs : List ℕ) → [] ≡ xs ++ (ys ++ x ∷ zs) → ⊥
not_empty xs x ys zs e = omega (arith, ap length e, length-append xs (ys ++ x ∷ zs), length-append ys (x ∷ zs))

holds_none : HoldsBad [] → ⊥
holds_none (inl b) = not_empty (ended b.texts) 10 b.bad.0 b.bad.1 (b.cut ∙ ap (λ xs. ended b.texts ++ xs) b.bad.4)
holds_none (inr long) = omega (arith, long)

pub takes_no_bad : (script : List ℕ) → Takes script script HoldsBad → ⊥
takes_no_bad script t = holds_none (subst HoldsBad (none_taken script t.0 t.1) t.2)

ends_none : (left : List ℕ) → EndsBad [] left → ⊥
ends_none left b = b.bad.2 (empty_of b.rest (omega (arith, ap length b.cut, length-append (ended b.texts) b.rest))) where
  empty_of : (xs : List ℕ) → length xs ≡ 0 → xs ≡ []
  empty_of [] e = refl
  empty_of (x ∷ xs) e = absurd (omega (arith, e))

pub takes_no_end : (script : List ℕ) → Takes script script (λ taken. EndsBad taken script) → ⊥
takes_no_end script t = ends_none script (subst (λ taken. EndsBad taken script) (none_taken script t.0 t.1) t.2)

-- a run from what a host shows is one from what it showed before
pub leaves_from : (tells : Bool) (base before now : Seen) (P : File → File → List ℕ → Type 0) → (IsTrue tells → before ≡ base) → ComesTo tells before now P → ComesTo tells base now P
leaves_from tells base before now P same l = record {
  first = l.first;
  last = l.last;
  said = l.said;
  ran = l.ran;
  said_is = λ told. l.said_is told ∙ ap (λ (s : Seen). s.said ++ l.said) (same told);
  first_is = λ told. l.first_is told ∙ ap (λ (s : Seen). s.file) (same told);
  last_is = l.last_is;
}

pub fails_from : (tells : Bool) (base before now : Seen) (taken left : List ℕ) → (IsTrue tells → before ≡ base) → FailsSeen tells before now taken left → FailsSeen tells base now taken left
fails_from tells base before now taken left same (inl c) = inl (leaves_from tells base before now (CutsText taken left) same c)
fails_from tells base before now taken left same (inr b) = inr (record {
  first = b.first;
  last = b.last;
  said = b.said;
  ran = b.ran;
  said_is = λ told. b.said_is told ∙ ap (λ (s : Seen). s.said ++ b.said) (same told);
  first_is = λ told. b.first_is told ∙ ap (λ (s : Seen). s.file) (same told);
  front = b.front;
})

-- ---- other files

-- over the opening, the run and the end
pub others_through : {H V F : Type 0} {h : Host.Ghosts H V F} {v : View.Ghosts V} {f : Fresh.Ghosts F} (there first run closed : FileState H V F h v f) (before after now : Disk) → first ≡ there → closed ≡ run
    → Reads before (h.disk there.parts.host) → OthersStay (h.disk first.parts.host) (h.disk run.parts.host) → Reads (h.disk closed.parts.host) after → now.files ≡ after.files → OthersStay before now
others_through {H} {V} {F} {h} {v} {f} there first run closed before after now same close reads aside closes end = λ other apart.
    ap (λ (files : Image). files other) (end ∙ closes.files ∙ ap (λ (file : FileState H V F h v f). (h.disk file.parts.host).files) close)
    ∙ aside other apart ∙ ap (λ (files : Image). files other) (ap (λ (file : FileState H V F h v f). (h.disk file.parts.host).files) same ∙ reads.files)
