-- What an update answers, by what the step answers.
use Rattle.std.proofs.Common.{◌≡◌, ◌≢◌, ℕ, ◌+◌, ◌≤◌, Bool, false, List, length, Option, Some, None, Ok, Err, refl, sym, ap, subst, ◌∙◌, arith, inl, inr}
use Rattle.std.specs.Prelude.{is_none, nat_lt, MatchOption, Result}
use Rattle.std.specs.FinMap as finite
use Rattle.std.proofs.lemmas.Bool.{true≢false}
use Rattle.std.proofs.lemmas.Bool.Decides.{nat_tests}
use Rattle.block_host.specs.declared.block.Block.{Block}
use Rattle.forest_model.specs.Blocks.{File}
use Rattle.forest_model.specs.Run.{FileAfter}
use Rattle.forest_model.specs.Step.{Outcome, step_of}
use Rattle.forest_model.specs.declared.call.Call.{Call}
use Rattle.forest_model.specs.declared.call.Reply.{Reply}
use Rattle.forest_model.specs.declared.call.Reply.TheVariants.{Refused}
use Rattle.forest_model.specs.declared.refusal.Refusal.{Refusal}
use Rattle.forest_model.specs.declared.state.State.{State}
use Rattle.forest_model.specs.declared.stored.Entry.{Entry}
use Rattle.file_parts.specs.Causes.{OnlyMemory}
use Rattle.file_parts.specs.Held.{Held}
use Rattle.file_parts.specs.Moment.{Moment}
use Rattle.file_parts.specs.Records.{NotPut}
use Rattle.file_core.specs.Stands.{Stands, AreDocuments, DrawNumbers}
use Rattle.file_core.specs.Updates.{StandsAt, IsFile, UpdatesAs, bytes_of, gone_by}
use Rattle.file_core.proofs.RecordedPuts.{recorded_kept}

-- ---- what a cause that doesn't hold gives

pub there_is : {A : Type 0} (o : Option A) → is_none o ≡ false → (x : A) × (o ≡ Some x)
there_is None e = absurd (true≢false e)
there_is (Some x) e = (x, refl)

pub has_room : (max blocks needed : ℕ) → nat_lt max (blocks + needed + 2) ≡ false → blocks + needed + 2 ≤ max
has_room max blocks needed e = grind (arith, nat_tests)

-- ---- want of memory leaves what the file stands for

pub kept_stands : (told : Bool) (old new : Moment) (s : State) → StandsAt told old s → OnlyMemory old new → StandsAt told new s
kept_stands told old new s stands same = subst (λ (h : Held). Stands told h new.disk new.file s) (sym same.held) (record {
  running = stands.running;
  shown = λ t. same.file ∙ stands.shown t ∙ ap (λ files. files old.held.revision) (sym same.files);
  is_state = stands.is_state;
  rows = stands.rows;
  next_store = stands.next_store;
  no_key_root = stands.no_key_root;
  no_seq_root = stands.no_seq_root;
  documents = subst (λ (m : finite.FinMap _ Entry). AreDocuments told old.held.revision new.file old.held.tail m s.documents) (sym same.entries)
      (subst (λ (bs : List Block). AreDocuments told old.held.revision bs old.held.tail old.held.wal.entries s.documents) (sym same.file) stands.documents);
  numbers = subst (λ (m : finite.FinMap _ Entry). DrawNumbers m s.stores) (sym same.entries) stands.numbers;
  live = stands.live;
  commit = stands.commit;
  committed = stands.committed;
  kept = stands.kept;
  unchanged = stands.unchanged;
  revision = stands.revision;
  generation = stands.generation;
  place = stands.place;
  next_commit = stands.next_commit;
  next_ticket = stands.next_ticket;
  limits = stands.limits;
  copying = stands.copying;
  loose = stands.loose;
  open_block = stands.open_block;
  at_end = stands.at_end;
  size = λ t. ap length same.file ∙ stands.size t;
  room = stands.room;
  low = stands.low;
  most = stands.most;
  within = stands.within;
  recorded = λ t. recorded_kept old.held old.file new.file s new.held.wal same.file (stands.recorded t);
})

pub kept_file : (told : Bool) (old new : Moment) (f : File) → IsFile told old.held old.file f → OnlyMemory old new → IsFile told new.held new.file f
kept_file told old new f was same = subst (λ (h : Held). IsFile told h new.file f) (sym same.held) (record {
  shown = λ t. was.shown t ∙ ap bytes_of (sym same.file);
  long = was.long;
  header = was.header;
  from = was.from;
})

-- ---- the answer

same_refusal : (why other : Refusal) → Refused why ≡ Refused other → why ≡ other
same_refusal why other e = cc

-- An update over a file that stands for a state; a value that it replies is no refusal.
module _ {T : Type 0} (told : Bool) (reply : T → Reply) (call : Call) (old new : Moment) (s : State) (f : File) (stands : StandsAt told old s) (was : IsFile told old.held old.file f) (no_refusal : (value : T) (why : Refusal) → reply value ≢ Refused why) where
  -- the step refuses it, and only memory has changed
  pub refused_as : (why : Refusal) (result : Result T Refusal) → step_of s f call ≡ (Refused why, s) → result ≡ Err why → OnlyMemory old new → UpdatesAs told reply s f call old new result
  refused_as why result step is same = subst (λ (r : Result T Refusal). UpdatesAs told reply s f call old new r) (sym is) (record {
    done = tt;
    gone = tt;
    refused = λ other h. ap Err (same_refusal why other (sym (ap (λ (o : Outcome). o.0) step) ∙ h));
    reason = inl (ap (λ (o : Outcome). o.0) step, kept_stands told old new s stands same, kept_file told old new f was same);
  })

  -- the step replies a value, but memory was refused or the host has a fault; the open block is never too far
  pub failed_as : (value : T) (why : Refusal) → (step_of s f call).0 ≡ reply value → NotPut old new why → UpdatesAs told reply s f call old new (Err why)
  failed_as value why step gives = record {
    done = tt;
    gone = tt;
    refused = λ other h. absurd (no_refusal value other (sym step ∙ h));
    reason = elim gives [
      | inl memory ↦ inr (inl (memory.0, kept_stands told old new s stands memory.1, kept_file told old new f was memory.1))
      | inr other ↦ elim other [
        | inl fault ↦ inr (inr (fault.0, inl fault.1))
        | inr far ↦ absurd (omega (arith, far, stands.at_end, stands.low))
      ]
    ];
  }

  -- the step replies the value, and the file stands for the state after it
  pub done_as : (value : T) (after : State) (g : File) → step_of s f call ≡ (reply value, after) → StandsAt told new after → FileAfter s f (Some call) after g → IsFile told new.held new.file g
      → new.held.wal.gone ≡ gone_by (reply value) old.held.wal.gone → UpdatesAs told reply s f call old new (Ok value)
  done_as value after g step now grows file gone = record {
    done = (
      ap (λ (o : Outcome). o.0) step,
      subst (λ (o : Outcome). StandsAt told new o.1) (sym step) now,
      (g, subst (λ (o : Outcome). FileAfter s f (Some call) o.1 g) (sym step) grows, file),
    );
    gone = gone;
    refused = λ other h. absurd (no_refusal value other (sym (ap (λ (o : Outcome). o.0) step) ∙ h));
    reason = tt;
  }

  -- the first cause decides whether the step refuses it
  pub answered_as : (cause : Option Refusal) (result : Result T Refusal) {Gives : Type 0} → ((why : Refusal) → cause ≡ Some why → step_of s f call ≡ (Refused why, s))
      → (cause ≡ None → Gives → UpdatesAs told reply s f call old new result) → MatchOption cause Gives (λ why. (result ≡ Err why) × OnlyMemory old new) → UpdatesAs told reply s f call old new result
  answered_as None result refused given h = given refl h
  answered_as (Some why) result refused given h = refused_as why result (refused why refl) h.0 h.1
