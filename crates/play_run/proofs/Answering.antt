-- What an open file's calls answer, as it is said to the lines of a lane.
use Rattle.std.proofs.Common.{◌≡◌, ℕ, ◌≤◌, Bool, refl, sym, ap, subst, ◌∙◌, arith, inl, inr}
use Rattle.std.specs.Prelude.{◌≢◌, ◌⊎◌, IsTrue, Some, Result, Ok, Err, IfOk, IfErr, OnOk}
use Rattle.file_parts.specs.Held.{Held}
use Rattle.file_core.specs.Reads.{ReadsAs, ReadFails, refused_leaves}
use Rattle.file_parts.specs.Causes.{OnlyMemory}
use Rattle.file_parts.specs.Moment.{Moment}
use Rattle.file_core.specs.Updates.{StandsAt, IsFile, Troubled, UpdatesAs, CommitsAs}
use Rattle.forest_model.specs.Blocks.{File}
use Rattle.forest_model.specs.Run.{FileAfter}
use Rattle.forest_model.specs.Session.{said_of}
use Rattle.forest_model.specs.Step.{Outcome, step_of, step_with_room}
use Rattle.forest_model.specs.declared.call.Call.{Call}
use Rattle.forest_model.specs.declared.call.Call.TheVariants as calls
use Rattle.forest_model.specs.declared.call.Found.{Found}
use Rattle.forest_model.specs.declared.call.Reply.{Reply}
use Rattle.forest_model.specs.declared.call.Reply.TheVariants.{Refused, Committed, Document}
use Rattle.forest_model.specs.declared.call.StoreRef.{StoreRef}
use Rattle.forest_model.specs.declared.line.Said.{Said}
use Rattle.forest_model.specs.declared.line.Said.TheVariants as says
use Rattle.forest_model.specs.declared.line.Verb.{Verb}
use Rattle.forest_model.specs.declared.refusal.Refusal.{Refusal}
use Rattle.forest_model.specs.declared.refusal.Refusal.TheVariants as refusal
use Rattle.forest_model.specs.declared.state.State.{State}
use Rattle.script_text.specs.Replies.{HasText, CanBeSaid}
use Rattle.play_run.specs.Playing.{Opened, StandsFor, Steps, Answers, call_at, store_after}
use Rattle.play_run.specs.Progress.{Faults, FaultsAfter, IsStop}
use Rattle.play_run.specs.Refused.{said_or_ended}
use Rattle.play_run.specs.declared.player.Ended.{Ended}
use Rattle.play_run.specs.declared.player.Ended.TheVariants as ends
use Rattle.play_run.proofs.Kept.{standing_kept}
use Rattle.play_run.proofs.Refusing.{has_text_said, said_has_text, step_leaves, file_stays}

-- an open file at a moment, and the counts of faults
abbrev pub opened_at : Moment → Opened
opened_at m = record { held = m.held; disk = m.disk; blocks = m.file }

abbrev pub counts_at : Moment → Faults
counts_at m = record { host = m.host_faults; view = m.view_faults }

-- it stands for some state
abbrev pub Somewhere : Bool → Moment → Type 0
Somewhere told m = (s : State) × (f : File) × StandsFor told (opened_at m) s f

-- a step that leaves the state tells its reply
module _ (told : Bool) (call : Call) (before : StoreRef) (new : Opened) (s : State) (f : File) where
  stays_steps : (said : Said) (reply : Reply) → (step_of s f call).0 ≡ reply → (step_of s f call).1 ≡ s → (IsTrue told → said ≡ said_of call (step_of s f call).0) → store_after before reply ≡ before
      → StandsFor told new s f → Steps told call before before new s f said
  stays_steps said reply replies stays is at now = record {
    said_is = is;
    at_is = sym (ap (store_after before) replies ∙ at);
    grown = f;
    grows = subst (λ (t : State). FileAfter s f (Some call) t f) (sym stays) (file_stays s f call);
    now = subst (λ (t : State). StandsFor told new t f) (sym stays) now;
  }

  refused_steps : (why : Refusal) → (step_of s f call).0 ≡ Refused why → StandsFor told new s f → Steps told call before before new s f (says.Refused why)
  refused_steps why e now = stays_steps (says.Refused why) (Refused why) e (step_leaves s f call why e).1 (λ _. sym (ap (said_of call) e)) refl now

-- ---- what a call of an open file owes whose refusal ends the run or is said

pub record Refuses (told : Bool) (verb : Verb) (at : StoreRef) (old new : Moment) (result : Result Said Ended) : Type 0 where
  pub answers : IfOk result (Answers told verb at at (opened_at old) (opened_at new))
  pub spelled : IfOk result CanBeSaid
  pub stop : IfErr result (IsStop told)
  pub line : result ≢ Err ends.BadLine
  pub untroubled : OnOk result ((new.host_faults ≡ old.host_faults) × (new.view_faults ≡ old.view_faults))
  pub faults : IfErr result (λ why. FaultsAfter why (counts_at old) (counts_at new))

-- a refusal without a text leaves the counts, or there was a fault
abbrev Reasons : Bool → Moment → Moment → Refusal → Type 0
Reasons told old new why =
    HasText why ⊎ ((why ≡ refusal.NoMemory) × (counts_at new ≡ counts_at old))
    ⊎ ((why ≡ refusal.DiskFault) × FaultsAfter ends.HostFault (counts_at old) (counts_at new))
    ⊎ ((revision : ℕ) × (block : ℕ) × (why ≡ refusal.Damaged revision block) × (counts_at new ≡ counts_at old) × (IsTrue told → ⊥))

module _ (told : Bool) (old new : Moment) (why : Refusal) where
  ended_by : (P : Ended → Type 0) → Reasons told old new why → (counts_at new ≡ counts_at old → P ends.NoMemory) → (FaultsAfter ends.HostFault (counts_at old) (counts_at new) → P ends.HostFault)
      → ((revision block : ℕ) → counts_at new ≡ counts_at old → (IsTrue told → ⊥) → P (ends.Damaged revision block)) → IfErr (said_or_ended why) P
  ended_by P (inl text) memory fault damaged = has_text_said why P text
  ended_by P (inr (inl r)) memory fault damaged = subst (λ (w : Refusal). IfErr (said_or_ended w) P) (sym r.0) (memory r.1)
  ended_by P (inr (inr (inl r))) memory fault damaged = subst (λ (w : Refusal). IfErr (said_or_ended w) P) (sym r.0) (fault r.1)
  ended_by P (inr (inr (inr r))) memory fault damaged = subst (λ (w : Refusal). IfErr (said_or_ended w) P) (sym r.2) (damaged r.0 r.1 r.3 r.4)

no_bad_line : (result : Result Said Ended) → IfErr result (λ e. e ≢ ends.BadLine) → result ≢ Err ends.BadLine
no_bad_line (Ok said) h = λ e. cc
no_bad_line (Err why) h = λ e. let same : why ≡ ends.BadLine = cc in h same

module _ (told : Bool) (verb : Verb) (at : StoreRef) (old new : Moment) (why : Refusal) where
  refuses_by : (result : Result Said Ended) → result ≡ said_or_ended why → (HasText why → Answers told verb at at (opened_at old) (opened_at new) (says.Refused why))
      → (HasText why → (new.host_faults ≡ old.host_faults) × (new.view_faults ≡ old.view_faults)) → Reasons told old new why → Refuses told verb at old new result
  refuses_by result is answers same reasons = subst (Refuses told verb at old new) (sym is) (record {
    answers = said_has_text why (Answers told verb at at (opened_at old) (opened_at new)) answers;
    spelled = said_has_text why CanBeSaid (λ text. text);
    stop = ended_by told old new why (IsStop told) reasons (λ _. tt) (λ _. tt) (λ _ _ _ untold. untold);
    line = no_bad_line (said_or_ended why) (ended_by told old new why (λ e. e ≢ ends.BadLine) reasons (λ _ e. cc) (λ _ e. cc) (λ _ _ _ _ e. cc));
    untroubled = said_has_text why (λ _. (new.host_faults ≡ old.host_faults) × (new.view_faults ≡ old.view_faults)) same;
    faults = ended_by told old new why (λ e. FaultsAfter e (counts_at old) (counts_at new)) reasons (λ same. same) (λ fault. fault) (λ _ _ same _. same);
  })

abbrev pub NoFault : (T : Type 0) → Result T Refusal → Type 0
NoFault T result = result ≢ Err refusal.DiskFault

no_fault : (T : Type 0) (why : Refusal) → HasText why → NoFault T (Err why)
no_fault T why text e = let same : why ≡ refusal.DiskFault = cc in subst HasText same text

no_fault_by : (T : Type 0) (why is : Refusal) → why ≡ is → is ≢ refusal.DiskFault → NoFault T (Err why)
no_fault_by T why is e apart fault = let same : why ≡ refusal.DiskFault = cc in apart (sym e ∙ same)

-- ---- updates

module _ {T : Type 0} (told : Bool) (reply : T → Reply) (verb : Verb) (call : Call) (at : StoreRef) (old new : Moment) where
  abbrev Updates : Result T Refusal → Type 0
  Updates result = (s : State) (f : File) → StandsAt told old s → IsFile told old.held old.file f → UpdatesAs told reply s f call old new result

  pub update_done : (after : StoreRef) (value : T) (said : Said) → call_at at verb ≡ Some call → said_of call (reply value) ≡ said → store_after at (reply value) ≡ after → Updates (Ok value)
      → Answers told verb at after (opened_at old) (opened_at new) said
  update_done after value said is_call is_said is_after updates = record {
    call = call;
    is_call = is_call;
    steps = λ s f st.
        let done = (updates s f st.stands st.file).done in
        record {
          said_is = λ _. sym (ap (said_of call) done.0 ∙ is_said);
          at_is = sym (ap (store_after at) done.0 ∙ is_after);
          grown = done.2.0;
          grows = done.2.1;
          now = record { stands = done.1; file = done.2.2 };
        };
  }

  -- the refusal is the step's, or there is no text of it
  update_text : (why : Refusal) → call_at at verb ≡ Some call → Updates (Err why) → HasText why → Answers told verb at at (opened_at old) (opened_at new) (says.Refused why)
  update_text why is_call updates text = record {
    call = call;
    is_call = is_call;
    steps = λ s f st. elim (updates s f st.stands st.file).reason [
      | inl r ↦ refused_steps told call at (opened_at new) s f why r.0 (record { stands = r.1; file = r.2 })
      | inr (inl r) ↦ absurd (subst HasText r.0 text)
      | inr (inr r) ↦ absurd (subst HasText r.0 text)
    ];
  }

  update_reasons : (why : Refusal) → Updates (Err why) → Somewhere told old → (NoFault T (Err why) → new.host_faults ≡ old.host_faults) → new.view_faults ≡ old.view_faults
      → old.host_faults ≤ new.host_faults → Reasons told old new why
  update_reasons why updates somewhere untroubled view counts = elim (updates somewhere.0 somewhere.1 somewhere.2.stands somewhere.2.file).reason [
    | inl r ↦ inl (step_leaves somewhere.0 somewhere.1 call why r.0).0
    | inr (inl r) ↦ inr (inl (r.0, λ i. record { host = untroubled (no_fault_by T why refusal.NoMemory r.0 (λ e. cc)) i; view = view i }))
    | inr (inr r) ↦ inr (inr (inl (r.0, rises r.1)))
  ]
    where
      rises : Troubled old new → FaultsAfter ends.HostFault (counts_at old) (counts_at new)
      rises (inl host) = inl host
      rises (inr viewed) = inr (counts, viewed)

  pub update_refused : (why : Refusal) (result : Result Said Ended) → result ≡ said_or_ended why → call_at at verb ≡ Some call → Updates (Err why) → Somewhere told old
      → (NoFault T (Err why) → new.host_faults ≡ old.host_faults) → new.view_faults ≡ old.view_faults → old.host_faults ≤ new.host_faults → Refuses told verb at old new result
  update_refused why result is is_call updates somewhere untroubled view counts =
      refuses_by told verb at old new why result is (update_text why is_call updates) (λ text. (untroubled (no_fault T why text), view)) (update_reasons why updates somewhere untroubled view counts)

-- a commit is an update
pub committed_update : (told : Bool) (s : State) (f : File) (at : StoreRef) (old new : Moment) (result : Result ℕ Refusal) → CommitsAs told s f at old new result
    → UpdatesAs told Committed s f (calls.Commit at) old new result
committed_update told s f at old new (Ok number) c = record { done = c.done; gone = c.gone; refused = c.refused; reason = tt }
committed_update told s f at old new (Err why) c = record { done = tt; gone = tt; refused = c.refused; reason = by c.reason } where
  by : ((step_of s f (calls.Commit at)).0 ≡ Refused why) × StandsAt told new s × IsFile told new.held new.file f ⊎ ((why ≡ refusal.DiskFault) × Troubled old new)
      → (((step_of s f (calls.Commit at)).0 ≡ Refused why) × StandsAt told new s × IsFile told new.held new.file f)
      ⊎ ((why ≡ refusal.NoMemory) × StandsAt told new s × IsFile told new.held new.file f)
      ⊎ ((why ≡ refusal.DiskFault) × Troubled old new)
  by (inl r) = inl r
  by (inr r) = inr (inr r)

-- ---- where the host doesn't fail, a refusal that ends the run leaves the files

abbrev pub Settles : Type 0 → Result Said Ended → Type 0
Settles P result = IfErr result (λ why. why ≢ ends.HostFault → P)

refusal_settles : (P : Type 0) (why : Refusal) → (why ≢ refusal.DiskFault → P) → Settles P (said_or_ended why)
refusal_settles P refusal.DiskFault keeps = λ apart. absurd (apart refl)
refusal_settles P (refusal.Stopped faults) keeps = λ apart. absurd (apart refl)
refusal_settles P refusal.Exists keeps = λ apart. absurd (apart refl)
refusal_settles P refusal.NoMemory keeps = λ apart. keeps (λ e. cc)
refusal_settles P (refusal.Damaged file block) keeps = λ apart. keeps (λ e. cc)
refusal_settles P refusal.NotFound keeps = tt
refusal_settles P refusal.NoCommit keeps = tt
refusal_settles P refusal.ReadOnly keeps = tt
refusal_settles P refusal.KeyLength keeps = tt
refusal_settles P refusal.BodyLength keeps = tt
refusal_settles P (refusal.Compacting ticket) keeps = tt
refusal_settles P (refusal.NoTicket asked now) keeps = tt
refusal_settles P (refusal.FileFull used needed most) keeps = tt
refusal_settles P refusal.NoStore keeps = tt
refusal_settles P refusal.StoreCount keeps = tt
refusal_settles P refusal.NameForm keeps = tt
refusal_settles P (refusal.NotCopied left) keeps = tt
refusal_settles P refusal.Worn keeps = tt
refusal_settles P refusal.NoSnapshot keeps = tt

pub update_settled : {T : Type 0} (told : Bool) (old new : Moment) (why : Refusal) (result : Result Said Ended) → result ≡ said_or_ended why
    → ((other : Refusal) → ◌≡◌ {A = Result T Refusal} (Err why) (Err other) → other ≢ refusal.DiskFault → OnlyMemory old new) → Settles (IsTrue told → new.disk.files ≡ old.disk.files) result
update_settled {T} told old new why result is refused =
    subst (Settles (IsTrue told → new.disk.files ≡ old.disk.files)) (sym is) (refusal_settles (IsTrue told → new.disk.files ≡ old.disk.files) why (λ apart _. (refused why refl apart).files))

pub all_settled : (P : Type 0) (result : Result Said Ended) → P → Settles P result
all_settled P (Ok said) p = tt
all_settled P (Err why) p = λ _. p

-- ---- reads

-- what is in memory, the host's files and what the view shows stay
pub record Unmoved (told : Bool) (old new : Moment) : Type 0 where
  pub held : new.held ≡ old.held
  pub files : new.disk.files ≡ old.disk.files
  pub shown : IsTrue told → new.file ≡ old.file
  pub host : new.host_faults ≡ old.host_faults

unmoved_stands : (told : Bool) (old new : Moment) (s : State) (f : File) → Unmoved told old new → StandsFor told (opened_at old) s f → StandsFor told (opened_at new) s f
unmoved_stands told old new s f same st =
    subst (λ (p : Held). StandsFor told (record { held = p; disk = new.disk; blocks = new.file }) s f) (sym same.held)
    (standing_kept told old.held old.disk new.disk old.file new.file (λ _. same.files) same.shown s f st)

-- a refused read whose refusal has a text leaves what is in memory
pub text_leaves : (faults : ℕ) (p : Held) (why : Refusal) → HasText why → refused_leaves faults p why ≡ p
text_leaves faults p refusal.DiskFault text = absurd text
text_leaves faults p (refusal.Damaged file block) text = absurd text
text_leaves faults p why text = refl

module _ (told : Bool) (verb : Verb) (call : Call) (at : StoreRef) (old new : Moment) (is_call : call_at at verb ≡ Some call) (room : (s : State) (f : File) → step_of s f call ≡ step_with_room s call) where
  pub read_found : Unmoved told old new → (found : Found) (say : Found → Said) → ((x : Found) → said_of call (Document x) ≡ say x)
      → ((s : State) → StandsAt told old s → ReadsAs told s call old.held.revision old.view_faults new.view_faults (Ok found)) → Answers told verb at at (opened_at old) (opened_at new) (say found)
  read_found same found say is reads = record {
    call = call;
    is_call = is_call;
    steps = λ s f st.
        let r = reads s st.stands in
        let there = room s f ∙ r.there.1 in
        stays_steps told call at (opened_at new) s f (say found) (Document r.there.0) (ap (λ (o : Outcome). o.0) there) (ap (λ (o : Outcome). o.1) there)
        (λ t. sym (ap (λ (o : Outcome). said_of call o.0) (room s f ∙ r.found t) ∙ is found)) refl (unmoved_stands told old new s f same st);
  }

  -- a read that fails has no text, and a fault is the view's
  fails : new.host_faults ≡ old.host_faults → (why : Refusal) → ReadFails told old.held.revision old.view_faults new.view_faults why → (NoFault Found (Err why) → new.view_faults ≡ old.view_faults) → Reasons told old new why
  fails host why (inl r) untroubled = inr (inl (r, λ i. record { host = host i; view = untroubled (no_fault_by Found why refusal.NoMemory r (λ e. cc)) i }))
  fails host why (inr (inl r)) untroubled = inr (inr (inl (r.0, inr (omega (arith, host), r.1))))
  fails host why (inr (inr r)) untroubled =
      inr (inr (inr (old.held.revision, r.0, r.1, λ i. record { host = host i; view = untroubled (no_fault_by Found why (refusal.Damaged old.held.revision r.0) r.1 (λ e. cc)) i }, r.2)))

  no_text : (why : Refusal) → ReadFails told old.held.revision old.view_faults new.view_faults why → HasText why → ⊥
  no_text why (inl r) text = subst HasText r text
  no_text why (inr (inl r)) text = subst HasText r.0 text
  no_text why (inr (inr r)) text = subst HasText r.1 text

  read_text : (why : Refusal) → (HasText why → Unmoved told old new) → ((s : State) → StandsAt told old s → ReadsAs told s call old.held.revision old.view_faults new.view_faults (Err why)) → HasText why
      → Answers told verb at at (opened_at old) (opened_at new) (says.Refused why)
  read_text why same reads text = record {
    call = call;
    is_call = is_call;
    steps = λ s f st. elim (reads s st.stands).reason [
      | inl e ↦ refused_steps told call at (opened_at new) s f why (ap (λ (o : Outcome). o.0) (room s f ∙ e)) (unmoved_stands told old new s f (same text) st)
      | inr r ↦ absurd (no_text why r text)
    ];
  }

  read_reasons : new.host_faults ≡ old.host_faults → (why : Refusal) → ((s : State) → StandsAt told old s → ReadsAs told s call old.held.revision old.view_faults new.view_faults (Err why)) → Somewhere told old
      → (NoFault Found (Err why) → new.view_faults ≡ old.view_faults) → Reasons told old new why
  read_reasons host why reads somewhere untroubled = elim (reads somewhere.0 somewhere.2.stands).reason [
    | inl e ↦ inl (step_leaves somewhere.0 somewhere.1 call why (ap (λ (o : Outcome). o.0) (room somewhere.0 somewhere.1 ∙ e))).0
    | inr r ↦ fails host why r untroubled
  ]

  pub read_refused : (why : Refusal) (result : Result Said Ended) → result ≡ said_or_ended why → (HasText why → Unmoved told old new) → new.host_faults ≡ old.host_faults
      → ((s : State) → StandsAt told old s → ReadsAs told s call old.held.revision old.view_faults new.view_faults (Err why)) → Somewhere told old
      → (NoFault Found (Err why) → new.view_faults ≡ old.view_faults) → Refuses told verb at old new result
  read_refused why result is same host reads somewhere untroubled =
      refuses_by told verb at old new why result is (read_text why same reads) (λ text. (host, untroubled (no_fault Found why text))) (read_reasons host why reads somewhere untroubled)

  -- the same where the reply alone is known
  pub reply_said : Unmoved told old new → (reply : Reply) (said : Said) → said_of call reply ≡ said → store_after at reply ≡ at → ((s : State) → StandsAt told old s → step_with_room s call ≡ (reply, s))
      → Answers told verb at at (opened_at old) (opened_at new) said
  reply_said same reply said is stays replies = record {
    call = call;
    is_call = is_call;
    steps = λ s f st.
        let there = room s f ∙ replies s st.stands in
        stays_steps told call at (opened_at new) s f said reply (ap (λ (o : Outcome). o.0) there) (ap (λ (o : Outcome). o.1) there)
        (λ _. sym (ap (λ (o : Outcome). said_of call o.0) there ∙ is)) stays (unmoved_stands told old new s f same st);
  }

  pub reply_refused : Unmoved told old new → (why : Refusal) (result : Result Said Ended) → result ≡ said_or_ended why → ((s : State) → StandsAt told old s → step_with_room s call ≡ (Refused why, s)) → Somewhere told old
      → new.view_faults ≡ old.view_faults → Refuses told verb at old new result
  reply_refused same why result is replies somewhere view =
      refuses_by told verb at old new why result is (λ _. reply_said same (Refused why) (says.Refused why) refl refl replies) (λ _. (same.host, view))
      (inl (step_leaves somewhere.0 somewhere.1 call why (ap (λ (o : Outcome). o.0) (room somewhere.0 somewhere.1 ∙ replies somewhere.0 somewhere.2.stands))).0)
