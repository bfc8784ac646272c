-- A commit answers what the step answers.
use Rattle.std.proofs.Common.{◌≡◌, ◌≢◌, ℕ, ◌+◌, ◌^◌, ◌≤◌, ◌<◌, Bool, true, false, List, [], ◌∷◌, Some, Ok, Err, refl, sym, ap, subst, ◌∙◌, arith, inl, inr}
use Rattle.std.specs.Prelude.{◌==◌, ◌&&◌, ◌||◌, not, MatchBool, Result, nat_lt, if◌then◌else◌}
use Rattle.std.proofs.lemmas.Bool.Decides.{nat_tests}
use Rattle.block_host.specs.Disk.{Image}
use Rattle.block_host.specs.declared.block.Block.{Block}
use Rattle.forest_model.specs.Blocks.{File}
use Rattle.forest_model.specs.Limits.{any_worn}
use Rattle.forest_model.specs.Run.{FileAfter, Grows}
use Rattle.forest_model.specs.State.{nothing_new}
use Rattle.forest_model.specs.Step.{Outcome, ◌where_holds◌, first_cause, refused_or, committed, step_of}
use Rattle.forest_model.specs.declared.call.Call.TheVariants as calls
use Rattle.forest_model.specs.declared.call.Reply.TheVariants.{Committed, Refused}
use Rattle.forest_model.specs.declared.call.StoreRef.{StoreRef}
use Rattle.forest_model.specs.declared.refusal.Refusal.{Refusal}
use Rattle.forest_model.specs.declared.refusal.Refusal.TheVariants.{ReadOnly, Worn}
use Rattle.forest_model.specs.declared.state.State.{State}
use Rattle.model_laws.specs.Laws.{RulesStay, NothingNewMeans}
use Rattle.file_parts.specs.Held.{Held}
use Rattle.file_core.specs.Stands.{Stands}
use Rattle.file_parts.specs.Moment.{Moment}
use Rattle.file_core.specs.Updates.{StandsAt, IsFile, CommitsAs, PutsHeader, header_of}
use Rattle.file_commit.specs.Committing.{is_commit_worn, is_far, Stays, CommitGives, CommitAnswers}
use Rattle.file_commit.proofs.Headers.{header-below}
use Rattle.file_commit.proofs.NothingNew.{nothing_is}
use Rattle.file_commit.proofs.Recorded.{PadScans, PassScans}
use Rattle.file_commit.proofs.CommitStands.{PadsKeep, BlocksKeep, file_after, commit_stands, commit_grows, commit_file, puts_header}

-- ---- the step of a commit, by its tests

abbrev outcome : State → Bool → Bool → Bool → Outcome
outcome s read_only same worn =
    refused_or (first_cause ((ReadOnly where_holds read_only) ∷ (Worn where_holds (not same && worn)) ∷ [])) s
    (if same then (Committed s.last.number, s) else (Committed s.next_commit, committed s))

stepped : (s : State) (f : File) (at : StoreRef) → step_of s f (calls.Commit at) ≡ outcome s at.read_only (nothing_new s) (any_worn (s.next_commit ∷ (s.place + 1) ∷ []))
stepped s f at = refl

-- ---- a file that stands for a state isn't far

near : (a b blocks : ℕ) → a ≡ blocks → b < blocks → blocks ≤ 2 ^ 32 → (nat_lt (2 ^ 40) a || nat_lt (2 ^ 40) b) ≡ false
near a b blocks is below low = grind (arith, nat_tests)

-- ---- where nothing is written

-- no place is one more than itself
not_next : (n : ℕ) → (n == n + 1) ≡ false
not_next n = grind (arith, nat_tests)

module _ (told : Bool) (at : StoreRef) (old new : Moment) (s : State) (f : File) (stands : StandsAt told old s) (was : IsFile told old.held old.file f) where
  kept_stands : Stays old new → StandsAt told new s
  kept_stands same =
      subst (λ (h : Held). Stands told h new.disk new.file s) (sym same.held)
      (subst (λ (bs : List Block). Stands told old.held new.disk bs s) (sym same.file) (record {
        running = stands.running;
        shown = λ t. stands.shown t ∙ sym (ap (λ (files : Image). files old.held.revision) same.files);
        is_state = stands.is_state;
        rows = stands.rows;
        next_store = stands.next_store;
        no_key_root = stands.no_key_root;
        no_seq_root = stands.no_seq_root;
        documents = stands.documents;
        numbers = stands.numbers;
        live = stands.live;
        commit = stands.commit;
        committed = stands.committed;
        kept = stands.kept;
        unchanged = stands.unchanged;
        revision = stands.revision;
        generation = stands.generation;
        place = stands.place;
        next_commit = stands.next_commit;
        next_ticket = stands.next_ticket;
        limits = stands.limits;
        most = stands.most;
        copying = stands.copying;
        loose = stands.loose;
        open_block = stands.open_block;
        at_end = stands.at_end;
        size = stands.size;
        room = stands.room;
        low = stands.low;
        within = stands.within;
        recorded = stands.recorded;
      }))

  kept_file : Stays old new → IsFile told new.held new.file f
  kept_file same =
      subst (λ (h : Held). IsFile told h new.file f) (sym same.held) (subst (λ (bs : List Block). IsFile told old.held bs f) (sym same.file) was)

  same_refusal : (why other : Refusal) → Refused why ≡ Refused other → why ≡ other
  same_refusal why other e = cc

  no_refusal : (number : ℕ) (why : Refusal) → Committed number ≢ Refused why
  no_refusal number why e = cc

  refuses : (why : Refusal) (result : Result ℕ Refusal) → step_of s f (calls.Commit at) ≡ (Refused why, s) → result ≡ Err why → Stays old new → CommitsAs told s f at old new result
  refuses why result step is same = subst (λ (r : Result ℕ Refusal). CommitsAs told s f at old new r) (sym is) (record {
    done = tt;
    gone = tt;
    puts = tt;
    refused = λ other h. ap Err (same_refusal why other (sym (ap (λ (o : Outcome). o.0) step) ∙ h));
    reason = inl (ap (λ (o : Outcome). o.0) step, kept_stands same, kept_file same);
  })

  leaves : (result : Result ℕ Refusal) → nothing_new s ≡ true → step_of s f (calls.Commit at) ≡ (Committed s.last.number, s) → result ≡ Ok old.held.header.commit → Stays old new → CommitsAs told s f at old new result
  leaves result none_new step is same = subst (λ (r : Result ℕ Refusal). CommitsAs told s f at old new r) (sym is) (record {
    done = (
      ap (λ (o : Outcome). o.0) step ∙ ap Committed (sym stands.commit),
      subst (λ (o : Outcome). StandsAt told new o.1) (sym step) (kept_stands same),
      (
        f,
        subst (λ (o : Outcome). FileAfter s f (Some (calls.Commit at)) o.1 f) (sym step) (subst (λ (b : Bool). MatchBool b (Grows s f (calls.Commit at) f) (f ≡ f)) (sym (not_next s.place)) refl),
        kept_file same,
      ),
    );
    gone = ap (λ (h : Held). h.wal.gone) same.held;
    puts = λ _ news. absurd (let both : true ≡ false = sym none_new ∙ news in cc);
    refused = λ other h. absurd (no_refusal _ other (sym (ap (λ (o : Outcome). o.0) step) ∙ h));
    reason = tt;
  })

  -- ---- where something is

  module _ (rules : RulesStay) (means : NothingNewMeans) (pads : PadsKeep) (blocks : BlocksKeep) (pad_scans : PadScans) (pass_scans : PassScans) where
    gives : (result : Result ℕ Refusal) → nothing_new s ≡ false → step_of s f (calls.Commit at) ≡ (Committed s.next_commit, committed s) → CommitGives told old new result → CommitsAs told s f at old new result
    gives (Ok number) news step given = record {
      done = (
        ap (λ (o : Outcome). o.0) step ∙ ap Committed (sym stands.next_commit) ∙ ap Committed (sym given.0),
        subst (λ (o : Outcome). StandsAt told new o.1) (sym step) (commit_stands rules means pads blocks pad_scans pass_scans told at old new s f stands was news step given.1),
        (
          file_after rules means pads blocks pad_scans pass_scans told at old new s f stands was news step given.1,
          subst (λ (o : Outcome). FileAfter s f (Some (calls.Commit at)) o.1 (file_after rules means pads blocks pad_scans pass_scans told at old new s f stands was news step given.1)) (sym step) (commit_grows rules means pads blocks pad_scans pass_scans told at old new s f stands was news step given.1),
          commit_file rules means pads blocks pad_scans pass_scans told at old new s f stands was news step given.1,
        ),
      );
      gone = ap (λ (h : Held). h.wal.gone) given.1.held;
      puts = λ t _. subst (λ (o : Outcome). PutsHeader (header_of o.1 f) old new) (sym step) (puts_header rules means pads blocks pad_scans pass_scans told at old new s f stands was news step given.1 t);
      refused = λ other h. absurd (no_refusal _ other (sym (ap (λ (o : Outcome). o.0) step) ∙ h));
      reason = tt;
    }
    gives (Err why) news step given = record {
      done = tt;
      gone = tt;
      puts = tt;
      refused = λ other h. absurd (no_refusal _ other (sym (ap (λ (o : Outcome). o.0) step) ∙ h));
      reason = inr (given.0, inl given.1);
    }

    worn_is : is_commit_worn old.held ≡ any_worn (s.next_commit ∷ (s.place + 1) ∷ [])
    worn_is = λ i. any_worn (stands.next_commit i ∷ (stands.place i + 1) ∷ [])

    near_is : is_far old.held ≡ false
    near_is = near old.held.tail.number old.held.header_at old.held.blocks stands.at_end (let h = header-below f _ old.held.header_at was.header in omega (arith, h, was.long)) stands.low

    -- the step and the answer, by the same tests
    by_worn : (result : Result ℕ Refusal) (worn : Bool) → nothing_new s ≡ false → step_of s f (calls.Commit at) ≡ outcome s false false worn
        → MatchBool (worn || false) ((result ≡ Err Worn) × Stays old new) (CommitGives told old new result) → CommitsAs told s f at old new result
    by_worn result true news step h = refuses Worn result step h.0 h.1
    by_worn result false news step h = gives result news step h

    by_same : (result : Result ℕ Refusal) (same worn : Bool) → nothing_new s ≡ same → step_of s f (calls.Commit at) ≡ outcome s false same worn
        → MatchBool same ((result ≡ Ok old.held.header.commit) × Stays old new) (MatchBool (worn || false) ((result ≡ Err Worn) × Stays old new) (CommitGives told old new result)) → CommitsAs told s f at old new result
    by_same result true worn is step h = leaves result is step h.0 h.1
    by_same result false worn is step h = by_worn result worn is step h

    by_read_only : (result : Result ℕ Refusal) (read_only same worn : Bool) → nothing_new s ≡ same → step_of s f (calls.Commit at) ≡ outcome s read_only same worn
        → MatchBool read_only ((result ≡ Err ReadOnly) × Stays old new)
        (MatchBool same ((result ≡ Ok old.held.header.commit) × Stays old new) (MatchBool (worn || false) ((result ≡ Err Worn) × Stays old new) (CommitGives told old new result))) → CommitsAs told s f at old new result
    by_read_only result true same worn is step h = refuses ReadOnly result step h.0 h.1
    by_read_only result false same worn is step h = by_same result same worn is step h

    pub commits_as : (result : Result ℕ Refusal) → CommitAnswers told at old new result → CommitsAs told s f at old new result
    commits_as result answers =
        by_read_only result at.read_only (nothing_new s) (any_worn (s.next_commit ∷ (s.place + 1) ∷ [])) refl (stepped s f at)
        (subst (λ (far : Bool). MatchBool at.read_only ((result ≡ Err ReadOnly) × Stays old new)
        (MatchBool (nothing_new s) ((result ≡ Ok old.held.header.commit) × Stays old new) (MatchBool (any_worn (s.next_commit ∷ (s.place + 1) ∷ []) || far) ((result ≡ Err Worn) × Stays old new) (CommitGives told old new result)))) near_is
        (subst (λ (worn : Bool). MatchBool at.read_only ((result ≡ Err ReadOnly) × Stays old new)
        (MatchBool (nothing_new s) ((result ≡ Ok old.held.header.commit) × Stays old new) (MatchBool (worn || is_far old.held) ((result ≡ Err Worn) × Stays old new) (CommitGives told old new result)))) worn_is
        (subst (λ (same : Bool). MatchBool at.read_only ((result ≡ Err ReadOnly) × Stays old new)
        (MatchBool same ((result ≡ Ok old.held.header.commit) × Stays old new) (MatchBool (is_commit_worn old.held || is_far old.held) ((result ≡ Err Worn) × Stays old new) (CommitGives told old new result)))) (nothing_is means told old s stands) answers)))
