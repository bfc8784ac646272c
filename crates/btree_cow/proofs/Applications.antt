-- Changes one after another.
use Rattle.std.proofs.Common.{◌≡◌, ◌⊎◌, inl, inr, sym, ap, ◌++◌, append_assoc, ℕ, ◌<◌, ◌≤◌, ◌+◌, ◌*◌, Bool, true, true≢false, List, [], ◌∷◌, length, drop, get_or, refl, ◌∙◌, subst, arith}
use Rattle.std.specs.Prelude.{Option, Some, None, IsTrue, Result, Ok, Err, IfOk, IfErr}
use Rattle.std.specs.List.{list_all}
use Rattle.std.specs.Option.{is_none}
use Rattle.std.proofs.lemmas.Bool.{and_parts}
use Rattle.std.proofs.lemmas.List.{append-nil, drop_all, drop_more}
use Rattle.std.proofs.lemmas.Option.{none-some, same_Some}
use Rattle.block_host.specs.Disk.{risen}
use Rattle.forest_model.specs.declared.refusal.Refusal.{Refusal}
use Rattle.node_page.specs.Nodes.{Entry}
use Rattle.btree_cow.specs.Shelf.{Shelf, Later}
use Rattle.btree_cow.specs.Trees.{Tree, value_of}
use Rattle.btree_cow.specs.Causes.{is_full}
use Rattle.btree_cow.specs.Copies.{Inserts}
use Rattle.btree_cow.specs.Takes.{MakesChange, Runs, Takes}
use Rattle.btree_cow.specs.Refused.{BreaksChange, BreaksPut, BreaksRun, BreaksTake, ChangeFails}
use Rattle.btree_cow.specs.Changes.{Change, SameLimits, is_absent, StaysWell, after_change, after_changes, is_well, put_well}
use Rattle.btree_cow.proofs.Finds.{all_so}
use Rattle.btree_cow.proofs.Growth.{later_on, later_same}
use Rattle.btree_cow.proofs.Contents.{any_value, any_well, root_any}

-- the changes so far, and those that are left
pub record Applies (tells : Bool) (old new : Shelf) (before after : ℕ) (root at : Option ℕ) (changes rest : List Change) : Type 0 where
  pub later : IsTrue tells → Later old new
  pub limits : SameLimits old new
  pub same : after ≡ before
  pub done : List Change
  pub split : changes ≡ done ++ rest
  pub few : new.used + 21 * length rest ≤ old.used + 21 * length changes
  pub run : IsTrue tells → Runs done root old new at
  pub still : IsTrue tells → (ok : ℕ → ℕ → Bool) (entries : List Entry) → Tree ok old root entries → IsTrue (list_all (is_absent entries) changes)
      → (at ≡ root) × (new ≡ old) × IsTrue (list_all (is_absent entries) rest)
  pub stands : IsTrue tells → (ok : ℕ → ℕ → Bool) (entries : List Entry) → StaysWell ok → IsTrue (put_well ok old.used changes) → Tree ok old root entries
      → (now : List Entry) × Tree ok new at now × (after_changes now rest ≡ after_changes entries changes) × IsTrue (put_well ok new.used rest)

-- ---- a run

runs_more : (done : List Change) (c : Change) (root at next : Option ℕ) (old mid new : Shelf) → Runs done root old mid at → Later mid new → MakesChange c at mid new next → Runs (done ++ c ∷ []) root old new next
runs_more [] c root at next old mid new run later made = (
  new,
  next,
  subst (λ (s : Shelf). Later s new) run.0 later,
  subst (λ (o : Option ℕ). MakesChange c o old new next) run.1 (subst (λ (s : Shelf). MakesChange c at s new next) run.0 made),
  (refl, refl),
)
runs_more (d ∷ done) c root at next old mid new run later made = (run.0, run.1, run.2, run.3, runs_more done c run.1 at next run.0 mid new run.4 later made)

pub made_put : (change : Change) (root : Option ℕ) (old new : Shelf) (value at : ℕ) → change.1 ≡ Some value → at + 1 ≡ new.used → Inserts root change.0 value old new at → MakesChange change root old new (Some at)
made_put (chunk, None) root old new value at is last made = absurd (none-some value is)
made_put (chunk, Some other) root old new value at is last made = (at, refl, last, subst (λ (n : ℕ). Inserts root chunk n old new at) (sym (same_Some other value is)) made)

pub made_removal : (change : Change) (root : Option ℕ) (old new : Shelf) (r : Result (Option ℕ) Refusal) → change.1 ≡ None → IfOk r (Takes root change.0 old new) → IfOk r (MakesChange change root old new)
made_removal (chunk, None) root old new r is made = made
made_removal (chunk, Some other) root old new r is made = absurd (none-some other (sym is))

none_of : {A : Type 0} (o : Option A) → is_none o ≡ true → o ≡ None
none_of None h = refl
none_of (Some a) h = absurd (true≢false (sym h))

pub absent_parts : (entries : List Entry) (change : Change) → is_absent entries change ≡ true → (change.1 ≡ None) × (value_of entries change.0 ≡ None)
absent_parts entries change h =
    let parts = and_parts (is_none change.1) (is_none (value_of entries change.0)) h in
    (none_of change.1 parts.0, none_of (value_of entries change.0) parts.1)

pub still_whole : (tells : Bool) (old new : Shelf) (x y : ℕ) (root at : Option ℕ) (changes rest : List Change) → Applies tells old new x y root at changes rest → IsTrue tells
    → (ok : ℕ → ℕ → Bool) (entries : List Entry) → Tree ok old root entries → IsTrue (list_all (is_absent entries) changes) → (at ≡ root) × (new ≡ old)
still_whole tells old new x y root at changes rest a told ok entries tree none = let so = a.still told ok entries tree none in (so.0, so.1)

pub applies_start : (tells : Bool) (s : Shelf) (x : ℕ) (root : Option ℕ) (changes : List Change) → Applies tells s s x x root root changes changes
applies_start tells s x root changes = record {
  later = λ told. later_same s;
  limits = record { lender = refl; file = refl; used = omega arith; most = refl; max = refl };
  same = refl;
  done = [];
  split = refl;
  few = omega arith;
  run = λ told. (refl, refl);
  still = λ told ok entries tree none. (refl, refl, none);
  stands = λ told ok entries well puts tree. (entries, tree, refl, puts);
}

pub runs_whole : (tells : Bool) (old new : Shelf) (x y : ℕ) (root at : Option ℕ) (changes : List Change) (n : ℕ) → length changes ≤ n → Applies tells old new x y root at changes (drop n changes) → IsTrue tells → Runs changes root old new at
runs_whole tells old new x y root at changes n all a told =
    subst (λ (l : List Change). Runs l root old new at)
    (sym (append-nil a.done) ∙ ap (λ (l : List Change). a.done ++ l) (sym (drop_all n changes all)) ∙ sym a.split) (a.run told)

-- no more for a change that failed than for one that was made
pub left_few : (tells : Bool) (old mid new : Shelf) (x y : ℕ) (root at : Option ℕ) (changes : List Change) (n : ℕ) → n < length changes → Applies tells old mid x y root at changes (drop n changes) → new.used ≤ mid.used + 21
    → new.used ≤ old.used + 21 * length changes
left_few tells old mid new x y root at changes n less a few =
    let b : Applies tells old mid x y root at changes (get_or changes n (0, None) ∷ drop (n + 1) changes) =
    subst (λ (l : List Change). Applies tells old mid x y root at changes l) (drop_more changes n (0, None) less) a in
    omega (arith, b.few, few)

pub put_bars : (change : Change) (root : Option ℕ) (s : Shelf) (value block : ℕ) → change.1 ≡ Some value → BreaksPut s root change.0 block → BreaksChange s root change block
put_bars (chunk, None) root s value block is b = absurd (none-some value is)
put_bars (chunk, Some other) root s value block is b = b

pub take_bars : (change : Change) (root : Option ℕ) (s : Shelf) (block : ℕ) → change.1 ≡ None → BreaksTake s root change.0 block → BreaksChange s root change block
take_bars (chunk, None) root s block is b = b
take_bars (chunk, Some other) root s block is b = absurd (none-some other (sym is))

pub fails_so : (tells : Bool) (P Q : ℕ → Type 0) (old new : Shelf) (before after : ℕ) (why : Refusal) → ((block : ℕ) → P block → Q block) → ChangeFails tells P old new before after why → ChangeFails tells Q old new before after why
fails_so tells P Q old new before after why so (inl disk) = inl disk
fails_so tells P Q old new before after why so (inr (inl full)) = inr (inl full)
fails_so tells P Q old new before after why so (inr (inr damaged)) = inr (inr (damaged.0, damaged.1, λ told. so damaged.0 (damaged.2 told)))

pub result_so : {A : Type 0} (r : Result A Refusal) (tells : Bool) (P Q : ℕ → Type 0) (old new : Shelf) (before after : ℕ) → ((block : ℕ) → P block → Q block) → IfErr r (ChangeFails tells P old new before after)
    → IfErr r (ChangeFails tells Q old new before after)
result_so (Ok a) tells P Q old new before after so fails = fails
result_so (Err why) tells P Q old new before after so fails = fails_so tells P Q old new before after why so fails

pub left_fails : (tells : Bool) (old mid new : Shelf) (x y z : ℕ) (root at : Option ℕ) (changes : List Change) (n : ℕ) (d : Change) (why : Refusal) → n < length changes → Applies tells old mid x y root at changes (drop n changes)
    → (IsTrue tells → Later mid new) → ChangeFails tells (BreaksChange mid at (get_or changes n d)) mid new y z why → ChangeFails tells (BreaksRun changes root old new) old new x z why
left_fails tells old mid new x y z root at changes n d why less a goes_on (inl disk) = inl (disk.0, subst (λ (n : ℕ). risen n ≤ z) a.same disk.1)
left_fails tells old mid new x y z root at changes n d why less a goes_on (inr (inl full)) = inr (inl full)
left_fails tells old mid new x y z root at changes n d why less a goes_on (inr (inr damaged)) = inr (
    inr (
      damaged.0,
      damaged.1 ∙ ap (λ (f : ℕ). Refusal.Damaged f damaged.0) a.limits.file,
      λ told.
          record {
            done = a.done;
            change = get_or changes n d;
            rest = drop (n + 1) changes;
            split = a.split ∙ ap (λ (l : List Change). a.done ++ l) (drop_more changes n d less);
            mid = mid;
            later = a.later told;
            at = at;
            run = a.run told;
            goes_on = goes_on told;
            broken = damaged.2 told;
          },
    ))

-- ---- one change more

stays : (ok : ℕ → ℕ → Bool) (at later : ℕ) (c : Change) → StaysWell ok → at ≤ later → is_well ok at c ≡ true → is_well ok later c ≡ true
stays ok at later (chunk, None) well le h = refl
stays ok at later (chunk, Some value) well le h = well at later value le h

pub applies_next : (tells : Bool) (old mid new : Shelf) (x y z : ℕ) (root at at' : Option ℕ) (changes rest : List Change) (c : Change) → Applies tells old mid x y root at changes (c ∷ rest) → (IsTrue tells → Later mid new) → SameLimits mid new → new.used ≤ mid.used + 21 → z ≡ y
    → (IsTrue tells → (ok : ℕ → ℕ → Bool) (entries : List Entry) → StaysWell ok → IsTrue (is_well ok mid.used c) → Tree ok mid at entries → Tree ok new at' (after_change entries c)) → (IsTrue tells → MakesChange c at mid new at')
    → (IsTrue tells → (ok : ℕ → ℕ → Bool) (entries : List Entry) → Tree ok mid at entries → IsTrue (is_absent entries c) → (at' ≡ at) × (new ≡ mid)) → Applies tells old new x z root at' changes rest
applies_next tells old mid new x y z root at at' changes rest c a later limits few same stands made gone = record {
  later = λ told. later_on old mid new (a.later told) (later told);
  limits = record { lender = limits.lender ∙ a.limits.lender; file = limits.file ∙ a.limits.file; used = omega (arith, a.limits.used, limits.used); most = limits.most ∙ a.limits.most; max = limits.max ∙ a.limits.max };
  same = same ∙ a.same;
  done = a.done ++ c ∷ [];
  split = a.split ∙ sym (append_assoc a.done (c ∷ []) rest);
  few = omega (arith, a.few, few);
  run = λ told. runs_more a.done c root at at' old mid new (a.run told) (later told) (made told);
  still = λ told ok entries tree none.
      let so = a.still told ok entries tree none in
      let parts = and_parts (is_absent entries c) (list_all (is_absent entries) rest) so.2 in
      let here : Tree ok mid at entries = subst (λ (o : Option ℕ). Tree ok mid o entries) (sym so.0) (subst (λ (s : Shelf). Tree ok s root entries) (sym so.1) tree) in
      let step = gone told ok entries here parts.0 in
      (step.0 ∙ so.0, step.1 ∙ so.1, parts.1);
  stands = λ told ok entries well puts tree.
      let so = a.stands told ok entries well puts tree in
      let parts = and_parts (is_well ok mid.used c) (list_all (is_well ok mid.used) rest) so.3 in
      (after_change so.0 c, stands told ok so.0 well parts.0 so.1, so.2, all_so (is_well ok mid.used) (is_well ok new.used) (λ d h. stays ok mid.used new.used d well limits.used h) rest parts.1);
}

any_put : (at : ℕ) (changes : List Change) → put_well any_value at changes ≡ true
any_put at [] = refl
any_put at ((chunk, None) ∷ changes) = any_put at changes
any_put at ((chunk, Some value) ∷ changes) = any_put at changes

pub applies_stands : (tells : Bool) (old mid : Shelf) (x y : ℕ) (root at : Option ℕ) (changes rest : List Change) (ok : ℕ → ℕ → Bool) (entries : List Entry) (Q : Type 0) → IsTrue tells → Applies tells old mid x y root at changes rest → Tree ok old root entries
    → ((now : List Entry) → Tree any_value mid at now → Q) → Q
applies_stands tells old mid x y root at changes rest ok entries Q told a tree so =
    let here = a.stands told any_value entries any_well (any_put old.used changes) (root_any ok old root entries tree) in
    so here.0 here.1

-- the changes that are left at an index
pub left_next : (tells : Bool) (old mid new : Shelf) (x y z : ℕ) (root at at' : Option ℕ) (changes : List Change) (n : ℕ) (d : Change) → n < length changes → Applies tells old mid x y root at changes (drop n changes) → (IsTrue tells → Later mid new) → SameLimits mid new → new.used ≤ mid.used + 21 → z ≡ y
    → (IsTrue tells → (ok : ℕ → ℕ → Bool) (entries : List Entry) → StaysWell ok → IsTrue (is_well ok mid.used (get_or changes n d)) → Tree ok mid at entries → Tree ok new at' (after_change entries (get_or changes n d)))
    → (IsTrue tells → MakesChange (get_or changes n d) at mid new at')
    → (IsTrue tells → (ok : ℕ → ℕ → Bool) (entries : List Entry) → Tree ok mid at entries → IsTrue (is_absent entries (get_or changes n d)) → (at' ≡ at) × (new ≡ mid)) → Applies tells old new x z root at' changes (drop (n + 1) changes)
left_next tells old mid new x y z root at at' changes n d less a later limits few same stands made gone =
    applies_next tells old mid new x y z root at at' changes (drop (n + 1) changes) (get_or changes n d)
    (subst (λ (l : List Change). Applies tells old mid x y root at changes l) (drop_more changes n d less) a) later limits few same stands made gone

pub left_stands : (tells : Bool) (old mid new : Shelf) (x y : ℕ) (root at : Option ℕ) (changes rest : List Change) (ok : ℕ → ℕ → Bool) (entries : List Entry) (why : Refusal) → IsTrue tells → Applies tells old mid x y root at changes rest → Tree ok old root entries
    → ((ok : ℕ → ℕ → Bool) (entries : List Entry) → Tree ok mid at entries → (why ≡ Refusal.DiskFault) ⊎ (why ≡ is_full new)) → (why ≡ Refusal.DiskFault) ⊎ (why ≡ is_full new)
left_stands tells old mid new x y root at changes rest ok entries why told a tree stands =
    applies_stands tells old mid x y root at changes rest ok entries ((why ≡ Refusal.DiskFault) ⊎ (why ≡ is_full new)) told a tree (λ now here. stands any_value now here)
