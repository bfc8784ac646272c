-- A block that is read, of a view or the open one.
use Rattle.std.proofs.Common.{◌≡◌, ◌≢◌, ◌⊎◌, inl, inr, ℕ, ◌≤◌, IsTrue, arith, List, [], length, take, slice_get, Option, Some, None, unwrap_or, Bool, true, false, Result, Err, refl, sym, ◌∙◌, ap, subst}
use Rattle.block_host.specs.Sealed.{IsSealed, zero_block}
use Rattle.block_host.specs.Calls.{block_at}
use Rattle.block_host.specs.declared.block.Block.{Block}
use Rattle.block_host.proofs.Back.{payload_back, zero_block-torn}
use Rattle.forest_model.specs.declared.refusal.Refusal.{Refusal}
use Rattle.doc_stream.specs.Causes.{Cause, Missing, Reason}
use Rattle.doc_stream.specs.OpenBlock.{OpenBlock}
use Rattle.doc_stream.specs.Shown.{Asked, Stands, Shows, Unsealed, IsNotOpen}
use Rattle.doc_stream.specs.Steps.{Place, Loads}

module _ (revision : ℕ) (file : List Block) (at kind : ℕ) (payload : List ℕ) (block : Block) (sealed : IsSealed revision at kind payload block) where
  read_in : (found : Option Block) → slice_get file at ≡ found → block ≡ unwrap_or found zero_block → Stands revision file at kind (take (length payload) block.bytes)
  read_in None there is = absurd (zero_block-torn revision at kind payload (subst (λ (b : Block). IsSealed revision at kind payload b) is sealed))
  read_in (Some b) there is = record {
    block = b;
    there = there;
    sealed = subst (λ (c : Block). IsSealed revision at kind (take (length payload) block.bytes) c) is
        (subst (λ (p : List ℕ). IsSealed revision at kind p block) (sym (payload_back revision at kind payload block sealed)) sealed);
  }

  pub stands_read : block ≡ block_at file at → Stands revision file at kind (take (length payload) block.bytes)
  stands_read is = read_in (slice_get file at) refl is

pub shows_stands : (revision : ℕ) (tail : Option OpenBlock) (file : List Block) (at kind : ℕ) (payload : List ℕ) → IsNotOpen tail at → Stands revision file at kind payload → Shows revision tail file at kind payload
shows_stands revision None file at kind payload not s = s
shows_stands revision (Some tail) file at kind payload not s = inr (not, s)

stands_shown : (revision : ℕ) (tail : Option OpenBlock) (file : List Block) (at kind : ℕ) (payload : List ℕ) → IsNotOpen tail at → Shows revision tail file at kind payload → Stands revision file at kind payload
stands_shown revision None file at kind payload not s = s
stands_shown revision (Some tail) file at kind payload not (inl s) = absurd (not s.0)
stands_shown revision (Some tail) file at kind payload not (inr s) = s.1

pub unsealed : (asked : Asked) (file : List Block) (at : ℕ) → IsNotOpen asked.tail at → ((kind : ℕ) (payload : List ℕ) → Stands asked.revision file at kind payload → ⊥) → Unsealed asked file at
unsealed asked file at not never kind payload shows = never kind payload (stands_shown asked.revision asked.tail file at kind payload not shows)

pub loads_open : (asked : Asked) (file : List Block) (at : ℕ) (tail : OpenBlock) (place : Place) → asked.tail ≡ Some tail → tail.number ≡ at → place.offset ≡ 0 → place.bytes ≡ tail.bytes → Loads asked file at place true
loads_open asked file at tail place is number offset bytes =
    (offset, subst (λ (t : Option OpenBlock). Shows asked.revision t file at 1 place.bytes) (sym is) (inl (sym number, refl, bytes)))

pub loads_records : (asked : Asked) (file : List Block) (at kind : ℕ) (bytes : List ℕ) (place : Place) → IsNotOpen asked.tail at → Stands asked.revision file at kind bytes → kind ≡ 1 → place.offset ≡ 0 → place.bytes ≡ bytes → Loads asked file at place true
loads_records asked file at kind bytes place not s one offset is =
    let there : Stands asked.revision file at 1 place.bytes = subst (λ (k : ℕ). Stands asked.revision file at k place.bytes) one (subst (λ (b : List ℕ). Stands asked.revision file at kind b) (sym is) s) in
    (offset, shows_stands asked.revision asked.tail file at 1 place.bytes not there)

pub loads_others : (asked : Asked) (file : List Block) (at kind : ℕ) (bytes : List ℕ) (place : Place) → IsNotOpen asked.tail at → Stands asked.revision file at kind bytes → kind ≢ 1 → place.bytes ≡ [] → Loads asked file at place false
loads_others asked file at kind bytes place not s other none = (none, (kind, bytes, other, shows_stands asked.revision asked.tail file at kind bytes not s))

-- the same refusal, for another cause
pub cause_of : (tells : Bool) (revision : ℕ) (Lies Near Breaks Further : ℕ → Type 0) (first before after : ℕ) (why : Refusal) → first ≤ before → ((block : ℕ) → Lies block → Near block) → (IsTrue tells → (block : ℕ) → Lies block → Breaks block → Further block)
    → Cause tells revision Lies Breaks before after why → Cause tells revision Near Further first after why
cause_of tells revision Lies Near Breaks Further first before after why le near further (inl memory) = inl memory
cause_of tells revision Lies Near Breaks Further first before after why le near further (inr (inl fault)) = let up = fault.1 in inr (inl (fault.0, omega arith))
cause_of tells revision Lies Near Breaks Further first before after why le near further (inr (inr damaged)) =
    inr (inr (damaged.0, damaged.1, near damaged.0 damaged.2, λ told. further told damaged.0 damaged.2 (damaged.3 told)))

pub cause_damaged : (tells : Bool) (revision : ℕ) (Lies Breaks : ℕ → Type 0) (before after block : ℕ) (why : Refusal) → why ≡ Refusal.Damaged revision block → Lies block → (IsTrue tells → Breaks block) → Cause tells revision Lies Breaks before after why
cause_damaged tells revision Lies Breaks before after block why is lies breaks = inr (inr (block, is, lies, breaks))

pub cause_missing : (tells : Bool) (revision at : ℕ) (Gone : Type 0) (Lies Breaks : ℕ → Type 0) (before after : ℕ) (why : Refusal) → Lies at → (IsTrue tells → Gone → Breaks at) → Missing tells revision at Gone before after why → Cause tells revision Lies Breaks before after why
cause_missing tells revision at Gone Lies Breaks before after why lies breaks (inl fault) = inr (inl fault)
cause_missing tells revision at Gone Lies Breaks before after why lies breaks (inr damaged) = inr (inr (at, damaged.0, lies, λ told. breaks told (damaged.1 told)))

pub missing_of : (tells : Bool) (revision at there : ℕ) (Gone Further : Type 0) (before after : ℕ) (why : Refusal) → at ≡ there → (IsTrue tells → Gone → Further) → Missing tells revision at Gone before after why → Missing tells revision there Further before after why
missing_of tells revision at there Gone Further before after why same further (inl fault) = inl fault
missing_of tells revision at there Gone Further before after why same further (inr damaged) = inr (damaged.0 ∙ ap (λ (n : ℕ). Refusal.Damaged revision n) same, λ told. further told (damaged.1 told))

pub missing_damaged : (tells : Bool) (revision at : ℕ) (Gone : Type 0) (before after : ℕ) (why : Refusal) → why ≡ Refusal.Damaged revision at → (IsTrue tells → Gone) → Missing tells revision at Gone before after why
missing_damaged tells revision at Gone before after why is gone = inr (is, gone)

-- the reason that a cause is
pub cause_reason : (tells : Bool) (revision : ℕ) (Lies Breaks Further : ℕ → Type 0) (first before after : ℕ) (why : Refusal) → first ≤ before → (IsTrue tells → (block : ℕ) → Lies block → Breaks block → Further block) → Cause tells revision Lies Breaks before after why → Reason tells revision Further first after why
cause_reason tells revision Lies Breaks Further first before after why le further (inl memory) = inl memory
cause_reason tells revision Lies Breaks Further first before after why le further (inr (inl fault)) = let up = fault.1 in inr (inl (fault.0, omega arith))
cause_reason tells revision Lies Breaks Further first before after why le further (inr (inr damaged)) = inr (inr (damaged.0, damaged.1, λ told. further told damaged.0 damaged.2 (damaged.3 told)))

pub missing_reason : (tells : Bool) (revision at : ℕ) (Gone : Type 0) (Further : ℕ → Type 0) (before after : ℕ) (why : Refusal) → (IsTrue tells → Gone → Further at) → Missing tells revision at Gone before after why → Reason tells revision Further before after why
missing_reason tells revision at Gone Further before after why further (inl fault) = inr (inl fault)
missing_reason tells revision at Gone Further before after why further (inr damaged) = inr (inr (at, damaged.0, λ told. further told (damaged.1 told)))

-- a block that came into hand is there
pub shown_loaded : (asked : Asked) (file : List Block) (at : ℕ) (new : Place) (test : Bool) → Loads asked file at new test → (kind : ℕ) × (payload : List ℕ) × Shows asked.revision asked.tail file at kind payload
shown_loaded asked file at new true loads = (1, new.bytes, loads.1)
shown_loaded asked file at new false loads = let other = loads.1 in (other.0, other.1, other.3)

-- what an error says
pub same_err : {T : Type 0} (why : Refusal) (file block : ℕ) → ◌≡◌ {A = Result T Refusal} (Err why) (Err (Refusal.Damaged file block)) → why ≡ Refusal.Damaged file block
same_err why file block is = cc

pub either_err : {T : Type 0} (result : Result T Refusal) (why damaged : Refusal) → result ≡ Err why → (why ≡ Refusal.DiskFault) ⊎ (why ≡ damaged) → (result ≡ Err damaged) ⊎ (result ≡ Err Refusal.DiskFault)
either_err result why damaged is (inl fault) = inr (is ∙ ap Err fault)
either_err result why damaged is (inr block) = inl (is ∙ ap Err block)
