-- What each call of a host in memory does to its disk.
use Rattle.std.proofs.Common.{◌≡◌, ◌≢◌, ◌<◌, ◌≤◌, ℕ, Bool, true, false, List, [], ◌∷◌, ◌++◌, length, take, Ok, Err, refl, arith, sym, ◌∙◌, ap, subst, inl, inr, ⊎_elim, eqb}
use Rattle.std.specs.Prelude.{cond, Result, OnOk, OnErr}
use Rattle.std.specs.Result.{is_err}
use Rattle.std.specs.Bool.{OnTrue, OnFalse}
use Rattle.std.proofs.Math.Path.{fun_ext}
use Rattle.std.proofs.lemmas.Bool.{eqb-true, eqb-false, eq-eqb}
use Rattle.block_host.specs.declared.block.Block.{Block}
use Rattle.std.proofs.lemmas.List.{take_all, append-nil}
use Rattle.block_host.specs.declared.failed.Failed.{Failed}
use Rattle.block_host.specs.Disk.{Image, Elapses, Says}
use Rattle.block_host.specs.Calls as call
use Rattle.host_memory.specs.Pending.{FileState, Leaves, Does, no_file, appended, slot_written, cut_to, adopted}
use Rattle.host_memory.specs.Held.{held, Becomes, Stays}
use Rattle.host_memory.specs.Memory.{Shows, disk_of, Leaves-present}
use Rattle.host_memory.specs.declared.change.Change.{Change}
use Rattle.host_memory.specs.declared.change.Change.TheVariants.{Append, Slot, Shorten, Adopt}
use Rattle.host_memory.specs.declared.state.State.{State}
use Rattle.host_memory.proofs.Steps.{Does-same, written-same, put-same, written-append, does-append, does-slot, put-written}

-- an image with one file in the place of another
abbrev with_file : ℕ → List Block → Image → Image
with_file file blocks image other = cond (eqb other file) blocks (image other)

with_file-here : (file : ℕ) (blocks : List Block) (image : Image) → with_file file blocks image file ≡ blocks
with_file-here file blocks image = ap (λ (b : Bool). cond b blocks (image file)) (eq-eqb file file refl)

with_file-other : (file : ℕ) (blocks : List Block) (image : Image) (other : ℕ) → other ≢ file → with_file file blocks image other ≡ image other
with_file-other file blocks image other apart = at (eqb other file) refl
  where
    at : (b : Bool) → eqb other file ≡ b → cond b blocks (image other) ≡ image other
    at true is = absurd (apart (eqb-true other file is))
    at false is = refl

-- what holds of one file and of each other holds of each
at_each : (file : ℕ) (P : ℕ → Type 0) → P file → ((other : ℕ) → other ≢ file → P other) → (other : ℕ) → P other
at_each file P here apart other = at (eqb other file) refl
  where
    at : (b : Bool) → eqb other file ≡ b → P other
    at true is = subst P (sym (eqb-true other file is)) here
    at false is = apart other (λ same. eqb-false other file is same)

-- a file leaves what an equal one leaves
leaves_as : (file : ℕ) (one other : FileState) (image : List Block) → one ≡ other → Leaves file one.blocks one.steps image → Leaves file other.blocks other.steps image
leaves_as file one other image same = subst (λ (f : FileState). Leaves file f.blocks f.steps image) same

-- a state noted before a change
pub elapses : (old new : State) (past : List State) (heard : List ℕ → Type 0) → heard new.said.items → Elapses heard (disk_of old past) (disk_of new (old ∷ past))
elapses old new past heard now = record {
  nothing_else = λ t image said le left. ⊎_elim (λ here. inr (here.0, subst heard (sym here.1) now))
      (λ had. inl (⊎_elim (λ first. inl first.1) (λ rest. inr rest) had)) left;
  keeps = λ t image said le left. inr (⊎_elim (λ here. inl (le, here)) (λ had. inr had) left);
}

shows_as : (old new : State) → Stays old new → (image : Image) (said : List ℕ) → Shows new image said → Shows old image said
shows_as old new stays image said shown = (λ file. leaves_as file (held new file) (held old file) (image file) (stays.files file) (shown.0 file), shown.1 ∙ stays.said)

shows_still : (old new : State) → Stays old new → (image : Image) (said : List ℕ) → Shows old image said → Shows new image said
shows_still old new stays image said shown = (λ file. leaves_as file (held old file) (held new file) (image file) (sym (stays.files file)) (shown.0 file), shown.1 ∙ sym stays.said)

-- a state that stays
stays_in_time : (old new : State) (past : List State) (heard : List ℕ → Type 0) → Stays old new → Elapses heard (disk_of old past) (disk_of new past)
stays_in_time old new past heard stays = record {
  nothing_else = λ t image said le left. inl (⊎_elim (λ here. inl (shows_as old new stays image said here)) (λ had. inr had) left);
  keeps = λ t image said le left. ⊎_elim (λ here. inl (shows_still old new stays image said here)) (λ had. inr had) left;
}

pub stays : (state : State) → Stays state state
stays state = record { files = λ file. refl; said = refl }

-- a call that changes nothing may do any step
pub unchanged : (file : ℕ) (step : List Block → List Block → Type 0) (old new : State) (past : List State) → Stays old new → ((image : List Block) → step image image) → call.Changes file step (disk_of old past) (disk_of new past)
unchanged file step old new past stays same = record {
  reads = record {
    others = λ other apart. ap (λ (f : FileState). f.blocks) (stays.files other);
    there = subst (step (held old file).blocks) (ap (λ (f : FileState). f.blocks) (sym (stays.files file))) (same (held old file).blocks);
  };
  crash = λ image left. (image, λ f. leaves_as f (held new f) (held old f) (image f) (stays.files f) (left f), record { others = λ other apart. refl; there = same (image file) });
  stays = λ image left. λ f. leaves_as f (held old f) (held new f) (image f) (sym (stays.files f)) (left f);
  said = stays.said;
  time = stays_in_time old new past (λ said. said ≡ new.said.items) stays;
}

-- the same, where the state was noted
pub unchanged_noted : (file : ℕ) (step : List Block → List Block → Type 0) (old new : State) (past : List State) → Stays old new → ((image : List Block) → step image image) → call.Changes file step (disk_of old past) (disk_of new (old ∷ past))
unchanged_noted file step old new past stays same =
    let part = unchanged file step old new past stays same in
    record { reads = part.reads; crash = part.crash; stays = part.stays; said = part.said; time = elapses old new past (λ said. said ≡ new.said.items) refl }

-- one change of a file, noted
pub changed : (file : ℕ) (step : List Block → List Block → Type 0) (change : Change) (blocks : List Block) (old new : State) (past : List State)
    → Becomes file (record { blocks = blocks; steps = ((held old file).blocks, change) ∷ (held old file).steps }) old new
    → step (held old file).blocks blocks → ((before after : List Block) → Does file change blocks before after → step before after)
    → call.Changes file step (disk_of old past) (disk_of new (old ∷ past))
changed file step change blocks old new past becomes reads does =
    let after : FileState = record { blocks = blocks; steps = ((held old file).blocks, change) ∷ (held old file).steps } in
    record {
      reads = record {
        others = λ other apart. ap (λ (f : FileState). f.blocks) (becomes.others other apart);
        there = subst (step (held old file).blocks) (ap (λ (f : FileState). f.blocks) (sym becomes.there)) reads;
      };
      crash = λ image left.
          let from : (before : List Block) × Leaves file (held old file).blocks (held old file).steps before × step before (image file) =
          ⊎_elim (λ is. ((held old file).blocks, Leaves-present file (held old file).blocks (held old file).steps, subst (step (held old file).blocks) (sym is) reads))
          (λ was. (was.0, was.1, does was.0 (image file) was.2))
          (leaves_as file (held new file) after (image file) becomes.there (left file)) in (
            with_file file from.0 image,
            at_each file (λ f. Leaves f (held old f).blocks (held old f).steps (with_file file from.0 image f))
                (subst (Leaves file (held old file).blocks (held old file).steps) (sym (with_file-here file from.0 image)) from.1)
                (λ other apart. subst (Leaves other (held old other).blocks (held old other).steps) (sym (with_file-other file from.0 image other apart))
                (leaves_as other (held new other) (held old other) (image other) (becomes.others other apart) (left other))),
            record {
              others = λ other apart. sym (with_file-other file from.0 image other apart);
              there = subst (λ (b : List Block). step b (image file)) (sym (with_file-here file from.0 image)) from.2;
            },
          );
      stays = λ image left. at_each file (λ f. Leaves f (held new f).blocks (held new f).steps (image f))
          (leaves_as file after (held new file) (image file) (sym becomes.there) (inr (image file, left file, Does-same file change blocks (image file))))
          (λ other apart. leaves_as other (held old other) (held new other) (image other) (sym (becomes.others other apart)) (left other));
      said = becomes.said;
      time = elapses old new past (λ said. said ≡ new.said.items) refl;
    }

module _ (old new : State) (past : List State) where
  pub appends : (file : ℕ) (blocks : List Block)
      → Becomes file (record { blocks = (held old file).blocks ++ blocks; steps = ((held old file).blocks, Append (length (held old file).blocks)) ∷ (held old file).steps }) old new
      → call.Appends {T = Unit {0}} file blocks (Ok tt) (disk_of old past) (disk_of new (old ∷ past))
  appends file blocks becomes = record {
    done = ap (λ (f : FileState). f.blocks) becomes.there;
    part = changed file (call.Written file (length (held old file).blocks) blocks) (Append (length (held old file).blocks)) ((held old file).blocks ++ blocks) old new past becomes
        (written-append file (held old file).blocks blocks) (does-append file (held old file).blocks blocks);
  }

  pub appends_not : (file : ℕ) (blocks : List Block) → Stays old new → call.Appends {T = Unit {0}} file blocks (Err (record {})) (disk_of old past) (disk_of new past)
  appends_not file blocks stays = record {
    done = tt;
    part = unchanged file (call.Written file (length (held old file).blocks) blocks) old new past stays (written-same file (length (held old file).blocks) blocks);
  }

  pub puts : (slot : ℕ) (block : Block) → slot < 2
      → Becomes 0 (record { blocks = call.with_slot slot block (held old 0).blocks; steps = ((held old 0).blocks, Slot slot) ∷ (held old 0).steps }) old new
      → call.Puts {T = Unit {0}} slot block (Ok tt) (disk_of old past) (disk_of new (old ∷ past))
  puts slot block low becomes = record {
    done = ap (λ (f : FileState). f.blocks) becomes.there;
    part = changed 0 (call.Put slot block) (Slot slot) (call.with_slot slot block (held old 0).blocks) old new past becomes
        (put-written slot block (held old 0).blocks low) (λ before after does. does-slot 0 slot block (held old 0).blocks before after low does);
  }

  pub puts_not : (slot : ℕ) (block : Block) → Stays old new → call.Puts {T = Unit {0}} slot block (Err (record {})) (disk_of old past) (disk_of new past)
  puts_not slot block stays = record { done = tt; part = unchanged 0 (call.Put slot block) old new past stays (put-same slot block) }

  pub cuts : (file n : ℕ)
      → Becomes file (record { blocks = take n (held old file).blocks; steps = ((held old file).blocks, Shorten n) ∷ (held old file).steps }) old new
      → call.Cuts {T = Unit {0}} file n (Ok tt) (disk_of old past) (disk_of new (old ∷ past))
  cuts file n becomes = record {
    done = ap (λ (f : FileState). f.blocks) becomes.there;
    part = changed file (call.Cut n) (Shorten n) (take n (held old file).blocks) old new past becomes (inr refl) (λ before after does. does);
  }

  pub cuts_not : (file n : ℕ) → Stays old new → call.Cuts {T = Unit {0}} file n (Err (record {})) (disk_of old past) (disk_of new past)
  cuts_not file n stays = record { done = tt; part = unchanged file (call.Cut n) old new past stays (λ image. inl refl) }

  pub adopts : (file : ℕ) (blocks : List Block)
      → Becomes file (record { blocks = blocks; steps = ((held old file).blocks, Adopt) ∷ (held old file).steps }) old new
      → call.Becomes {T = Unit {0}} file blocks (Ok tt) (disk_of old past) (disk_of new (old ∷ past))
  adopts file blocks becomes = record {
    done = ap (λ (f : FileState). f.blocks) becomes.there;
    part = changed file (call.Replaced blocks) Adopt blocks old new past becomes (inr refl) (λ before after does. does);
  }

  pub adopts_not : (file : ℕ) (blocks : List Block) → Stays old new → call.Becomes {T = Unit {0}} file blocks (Err (record {})) (disk_of old past) (disk_of new past)
  adopts_not file blocks stays = record { done = tt; part = unchanged file (call.Replaced blocks) old new past stays (λ image. inl refl) }

  -- each of these calls, done or not, where the state was noted
  pub appends_either : {E : Type 0} (file : ℕ) (blocks : List Block) (done : Result (Unit {0}) E) (result : Result (Unit {0}) Failed) → is_err result ≡ is_err done
      → OnOk done (Becomes file (appended blocks (held old file)) old new) → OnErr done (Stays old new) → call.Appends file blocks result (disk_of old past) (disk_of new (old ∷ past))
  appends_either file blocks (Ok x) (Ok y) same ok err = appends file blocks ok
  appends_either file blocks (Err x) (Err y) same ok err = record {
    done = tt;
    part = unchanged_noted file (call.Written file (length (held old file).blocks) blocks) old new past err (written-same file (length (held old file).blocks) blocks);
  }
  appends_either file blocks (Ok x) (Err y) same ok err = absurd cc
  appends_either file blocks (Err x) (Ok y) same ok err = absurd cc

  pub puts_either : {E : Type 0} (slot : ℕ) (block : Block) (done : Result (Unit {0}) E) (result : Result (Unit {0}) Failed) → slot < 2 → is_err result ≡ is_err done
      → OnOk done (Becomes 0 (slot_written slot block (held old 0)) old new) → OnErr done (Stays old new) → call.Puts slot block result (disk_of old past) (disk_of new (old ∷ past))
  puts_either slot block (Ok x) (Ok y) low same ok err = puts slot block low ok
  puts_either slot block (Err x) (Err y) low same ok err = record { done = tt; part = unchanged_noted 0 (call.Put slot block) old new past err (put-same slot block) }
  puts_either slot block (Ok x) (Err y) low same ok err = absurd cc
  puts_either slot block (Err x) (Ok y) low same ok err = absurd cc

  pub cuts_either : {E : Type 0} (file n : ℕ) (done : Result (Unit {0}) E) (result : Result (Unit {0}) Failed) → is_err result ≡ is_err done
      → OnOk done (Becomes file (cut_to n (held old file)) old new) → OnErr done (Stays old new) → call.Cuts file n result (disk_of old past) (disk_of new (old ∷ past))
  cuts_either file n (Ok x) (Ok y) same ok err = cuts file n ok
  cuts_either file n (Err x) (Err y) same ok err = record { done = tt; part = unchanged_noted file (call.Cut n) old new past err (λ image. inl refl) }
  cuts_either file n (Ok x) (Err y) same ok err = absurd cc
  cuts_either file n (Err x) (Ok y) same ok err = absurd cc

  pub adopts_either : {E : Type 0} (file : ℕ) (blocks : List Block) (done : Result (Unit {0}) E) (result : Result (Unit {0}) Failed) → is_err result ≡ is_err done
      → OnOk done (Becomes file (adopted blocks (held old file)) old new) → OnErr done (Stays old new) → call.Becomes file blocks result (disk_of old past) (disk_of new (old ∷ past))
  adopts_either file blocks (Ok x) (Ok y) same ok err = adopts file blocks ok
  adopts_either file blocks (Err x) (Err y) same ok err = record { done = tt; part = unchanged_noted file (call.Replaced blocks) old new past err (λ image. inl refl) }
  adopts_either file blocks (Ok x) (Err y) same ok err = absurd cc
  adopts_either file blocks (Err x) (Ok y) same ok err = absurd cc

  pub removes : (file : ℕ)
      → Becomes file (record { blocks = []; steps = ((held old file).blocks, Shorten 0) ∷ (held old file).steps }) old new
      → call.Removes file true (disk_of old past) (disk_of new (old ∷ past))
  removes file becomes = record {
    done = ap (λ (f : FileState). f.blocks) becomes.there;
    part = changed file (call.Cut 0) (Shorten 0) [] old new past becomes (inr refl) (λ before after does. does);
  }

  pub removes_not : (file : ℕ) → Stays old new → call.Removes file false (disk_of old past) (disk_of new past)
  removes_not file stays = record { done = tt; part = unchanged file (call.Cut 0) old new past stays (λ image. inl refl) }

  pub syncs : (file : ℕ) → Becomes file (record { blocks = (held old file).blocks; steps = [] }) old new → call.Syncs {T = Unit {0}} file (Ok tt) (disk_of old past) (disk_of new (old ∷ past))
  syncs file becomes =
      let after : FileState = record { blocks = (held old file).blocks; steps = [] } in
      record {
        done = λ image left. leaves_as file (held new file) after (image file) becomes.there (left file) ∙ sym (ap (λ (f : FileState). f.blocks) becomes.there);
        files = fun_ext (at_each file (λ f. (held new f).blocks ≡ (held old f).blocks) (ap (λ (f : FileState). f.blocks) becomes.there)
            (λ other apart. ap (λ (f : FileState). f.blocks) (becomes.others other apart)));
        crash = λ image left. at_each file (λ f. Leaves f (held old f).blocks (held old f).steps (image f))
            (subst (Leaves file (held old file).blocks (held old file).steps) (sym (leaves_as file (held new file) after (image file) becomes.there (left file)))
            (Leaves-present file (held old file).blocks (held old file).steps))
            (λ other apart. leaves_as other (held new other) (held old other) (image other) (becomes.others other apart) (left other));
        stays = λ image left is. at_each file (λ f. Leaves f (held new f).blocks (held new f).steps (image f))
            (leaves_as file after (held new file) (image file) (sym becomes.there) is)
            (λ other apart. leaves_as other (held old other) (held new other) (image other) (sym (becomes.others other apart)) (left other));
        said = becomes.said;
        time = elapses old new past (λ said. said ≡ new.said.items) refl;
      }

  pub reads : Stays old new → call.Reads (disk_of old past) (disk_of new past)
  reads stays = record {
    files = fun_ext (λ f. ap (λ (f : FileState). f.blocks) (stays.files f));
    images = record {
      none_new = λ image left. λ f. leaves_as f (held new f) (held old f) (image f) (stays.files f) (left f);
      none_lost = λ image left. λ f. leaves_as f (held old f) (held new f) (image f) (sym (stays.files f)) (left f);
    };
    said = stays.said;
    time = stays_in_time old new past (λ said. said ≡ new.said.items) stays;
  }

-- what is said, where the state was noted
module _ (old new : State) (past : List State) (bytes : List ℕ) (files : (file : ℕ) → held new file ≡ held old file) where
  abbrev Part : Type 0
  Part = (n : ℕ) × (n ≤ length bytes) × (new.said.items ≡ old.said.items ++ take n bytes)

  says : (result : Result (Unit {0}) Failed) → OnOk result (new.said.items ≡ old.said.items ++ bytes) → OnErr result Part → Part → Says bytes result (disk_of old past) (disk_of new (old ∷ past))
  says result ok err heard = record {
    done = ok;
    part = err;
    files = fun_ext (λ f. ap (λ (one : FileState). one.blocks) (files f));
    images = record {
      none_new = λ image left. λ f. leaves_as f (held new f) (held old f) (image f) (files f) (left f);
      none_lost = λ image left. λ f. leaves_as f (held old f) (held new f) (image f) (sym (files f)) (left f);
    };
    time = elapses old new past (λ said. (n : ℕ) × (n ≤ length bytes) × (said ≡ old.said.items ++ take n bytes) × (length said ≤ length new.said.items))
        (heard.0, heard.1, heard.2, omega arith);
  }

  none : new.said.items ≡ old.said.items → Part
  none is = (0, omega arith, is ∙ sym (append-nil old.said.items))

  all : new.said.items ≡ old.said.items ++ bytes → Part
  all is = (length bytes, omega arith, is ∙ ap (λ (xs : List ℕ). old.said.items ++ xs) (sym (take_all (length bytes) bytes (omega arith))))

  pub says_either : {E : Type 0} (done : Result (Unit {0}) E) (result : Result (Unit {0}) Failed) → is_err result ≡ is_err done
      → OnOk done (new.said.items ≡ old.said.items ++ bytes) → OnErr done (new.said.items ≡ old.said.items) → Says bytes result (disk_of old past) (disk_of new (old ∷ past))
  says_either (Ok x) (Ok y) same ok err = says (Ok y) ok tt (all ok)
  says_either (Err x) (Err y) same ok err = says (Err y) tt (none err) (none err)
  says_either (Ok x) (Err y) same ok err = absurd cc
  says_either (Err x) (Ok y) same ok err = absurd cc

pub syncs_not : (state : State) (past : List State) (file : ℕ) → call.Syncs {T = Unit {0}} file (Err (record {})) (disk_of state past) (disk_of state past)
syncs_not state past file = record {
  done = tt;
  files = refl;
  crash = λ image left. left;
  stays = λ image left is. left;
  said = refl;
  time = stays_in_time state state past (λ said. said ≡ state.said.items) (stays state);
}

-- the removal of a file that nobody has made
pub removes_none : (old new : State) (past : List State) (file : ℕ) → Stays old new → held old file ≡ no_file → call.Removes file true (disk_of old past) (disk_of new (old ∷ past))
removes_none old new past file stays none = record {
  done = ap (λ (f : FileState). f.blocks) (stays.files file ∙ none);
  part = unchanged_noted file (call.Cut 0) old new past stays (λ image. inl refl);
}

pub removes_either : (old new : State) (past : List State) (file : ℕ) (was : Bool)
    → OnTrue was (Becomes file (record { blocks = []; steps = ((held old file).blocks, Shorten 0) ∷ (held old file).steps }) old new)
    → OnFalse was (Stays old new × (held old file ≡ no_file)) → call.Removes file true (disk_of old past) (disk_of new (old ∷ past))
removes_either old new past file true removed absent = removes old new past file removed
removes_either old new past file false removed absent = removes_none old new past file absent.0 absent.1
