-- What updating calls keep, step by step.
use Rattle.std.proofs.Common.{◌≡◌, ◌≢◌, ℕ, ◌≤◌, Bool, List, length, Ok, Err, refl, ◌∙◌, sym, arith, inl, subst}
use Rattle.std.specs.Prelude.{Result}
use Rattle.block_host.specs.Calls.{Appends}
use Rattle.block_host.specs.Disk.{Disk}
use Rattle.block_host.specs.declared.block.Block.{Block}
use Rattle.block_host.specs.declared.failed.Failed.{Failed}
use Rattle.forest_model.specs.declared.refusal.Refusal.{Refusal}
use Rattle.forest_model.specs.declared.refusal.Refusal.TheVariants.{DiskFault}
use Rattle.wal_index.specs.Index.{Index}
use Rattle.file_parts.specs.Growing.{Grows}
use Rattle.file_parts.specs.Moment.{Moment, Aside}
use Rattle.file_parts.specs.Keeping.{Begins, KeepsWith}
use Rattle.file_parts.proofs.Growing.{grows_none, grows_as}

pub begins_whole : (blocks : List Block) → Begins blocks blocks
begins_whole blocks = record { long = omega arith; same = λ at within. refl }

pub begins_on : (a b c : List Block) → Begins a b → Begins b c → Begins a c
begins_on a b c first next = record {
  long = omega (arith, first.long, next.long);
  same = λ at within. next.same at (omega (arith, within, first.long)) ∙ first.same at within;
}

pub appended_front : {T : Type 0} (file : ℕ) (blocks : List Block) (result : Result T Failed) (old new : Disk) → Appends file blocks result old new → Begins (old.files file) (new.files file)
appended_front file blocks result old new appends = record {
  long = appends.part.reads.there.no_shorter;
  same = λ at within. appends.part.reads.there.kept at within (inl within);
}

-- nothing is done
pub keeps_none : {T : Type 0} (IsNew : Block → Type 0) (told : Bool) (m : Moment) (result : Result T Refusal) → result ≢ Err DiskFault → KeepsWith IsNew told m m result
keeps_none IsNew told m result apart = record {
  aside = λ _. record { others = λ other e. refl; said = refl };
  front = λ _. begins_whole (m.disk.files m.held.revision);
  crash = λ _. grows_none IsNew m.held.revision m.disk;
  clock = omega arith;
  counts = omega arith;
  untroubled = λ _. refl;
  refused = λ _ _ _. record { held = refl; entries = refl; gone = refl; files = refl; file = refl };
  halts = λ e. absurd (apart e);
  view_count = refl;
  opened = refl;
  damaged = refl;
  floor = refl;
  left = refl;
}

same_err : {T U : Type 0} (why other : Refusal) → ◌≡◌ {A = Result T Refusal} (Err why) (Err other) → ◌≡◌ {A = Result U Refusal} (Err why) (Err other)
same_err {T} {U} why other e = let same : why ≡ other = cc in λ i. Err (same i)

-- a refusal that is handed on
pub keeps_on_err : {T U : Type 0} (IsNew : Block → Type 0) (told : Bool) (old new : Moment) (why : Refusal) (result : Result U Refusal) → KeepsWith {T = T} IsNew told old new (Err why) → result ≡ Err why → KeepsWith IsNew told old new result
keeps_on_err {T} {U} IsNew told old new why result keeps is = subst (λ (r : Result U Refusal). KeepsWith IsNew told old new r) (sym is) (record {
  aside = keeps.aside;
  front = keeps.front;
  crash = keeps.crash;
  clock = keeps.clock;
  counts = keeps.counts;
  untroubled = λ apart. keeps.untroubled (λ e. apart (same_err why DiskFault e));
  refused = λ other e apart. keeps.refused other (same_err why other e) apart;
  halts = λ e. keeps.halts (same_err why DiskFault e);
  view_count = keeps.view_count;
  opened = keeps.opened;
  damaged = keeps.damaged;
  floor = keeps.floor;
  left = keeps.left;
})

not_err : {T : Type 0} (value : T) (why : Refusal) → ◌≡◌ {A = Result T Refusal} (Ok value) (Err why) → ⊥
not_err value why e = cc

-- after a call that succeeded, memory alone is changed
pub keeps_on_ok : {T U : Type 0} (IsNew : Block → Type 0) (told : Bool) (old mid new : Moment) (first : T) (value : U) → KeepsWith {T = T} IsNew told old mid (Ok first) → new.disk ≡ mid.disk → new.host_faults ≡ mid.host_faults → new.view_faults ≡ mid.view_faults
    → new.opened ≡ mid.opened → new.damaged ≡ mid.damaged → new.held.floor ≡ mid.held.floor → new.held.left ≡ mid.held.left → KeepsWith {T = U} IsNew told old new (Ok value)
keeps_on_ok IsNew told old mid new first value keeps disk host view opened damaged floor left = record {
  aside = λ t. subst (λ (d : Disk). Aside old.held.revision old.disk d) (sym disk) (keeps.aside t);
  front = λ t. subst (λ (d : Disk). Begins (old.disk.files old.held.revision) (d.files old.held.revision)) (sym disk) (keeps.front t);
  crash = λ t. subst (λ (d : Disk). Grows IsNew old.held.revision old.disk d) (sym disk) (keeps.crash t);
  clock = subst (λ (d : Disk). old.disk.moment ≤ d.moment) (sym disk) keeps.clock;
  counts = subst (λ (n : ℕ). old.host_faults ≤ n) (sym host) keeps.counts;
  untroubled = λ _. host ∙ keeps.untroubled (not_err first DiskFault);
  refused = λ why e _. absurd (not_err value why e);
  halts = λ e. absurd (not_err value DiskFault e);
  view_count = view ∙ keeps.view_count;
  opened = opened ∙ keeps.opened;
  damaged = damaged ∙ keeps.damaged;
  floor = floor ∙ keeps.floor;
  left = left ∙ keeps.left;
}

-- the index has room before
pub keeps_roomy : {T : Type 0} (IsNew : Block → Type 0) (told : Bool) (old new : Moment) (w : Index) (result : Result T Refusal) → w.entries ≡ old.held.wal.entries → w.gone ≡ old.held.wal.gone
    → KeepsWith IsNew told (record old { held = record (old.held) { wal = w } }) new result → KeepsWith IsNew told old new result
keeps_roomy IsNew told old new w result same same_gone keeps = record {
  aside = keeps.aside;
  front = keeps.front;
  crash = keeps.crash;
  clock = keeps.clock;
  counts = keeps.counts;
  untroubled = keeps.untroubled;
  refused = λ why is apart.
      let only = keeps.refused why is apart in
      record { held = only.held; entries = only.entries ∙ same; gone = only.gone ∙ same_gone; files = only.files; file = only.file };
  halts = λ is.
      let halts = keeps.halts is in
      record { rises = halts.rises; held = halts.held; entries = halts.entries ∙ same; gone = halts.gone ∙ same_gone; file = halts.file };
  view_count = keeps.view_count;
  opened = keeps.opened;
  damaged = keeps.damaged;
  floor = keeps.floor;
  left = keeps.left;
}

-- what is put is said less closely
pub keeps_as : {T : Type 0} (IsNew IsOther : Block → Type 0) (told : Bool) (old new : Moment) (result : Result T Refusal) → ((block : Block) → IsNew block → IsOther block)
    → KeepsWith IsNew told old new result → KeepsWith IsOther told old new result
keeps_as IsNew IsOther told old new result implies keeps = record {
  aside = keeps.aside;
  front = keeps.front;
  crash = λ t. grows_as IsNew IsOther old.held.revision old.disk new.disk implies (keeps.crash t);
  clock = keeps.clock;
  counts = keeps.counts;
  untroubled = keeps.untroubled;
  refused = keeps.refused;
  halts = keeps.halts;
  view_count = keeps.view_count;
  opened = keeps.opened;
  damaged = keeps.damaged;
  floor = keeps.floor;
  left = keeps.left;
}
