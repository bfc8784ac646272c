-- Where a reader asks nothing of the view, and where no memory.
use Rattle.std.proofs.Common.{◌≡◌, ◌≢◌, inl, inr, ℕ, ◌+◌, ◌≤◌, Bool, List, [], length, drop, Option, Some, None, Err, Result, sym, ◌∙◌, ap, subst, arith}
use Rattle.std.proofs.lemmas.List.{append-nil, length-drop}
use Rattle.block_host.specs.declared.block.Block.{Block}
use Rattle.forest_model.specs.declared.refusal.Refusal.{Refusal}
use Rattle.doc_stream.specs.Broken.{Begins, IsHead}
use Rattle.doc_stream.specs.Causes.{Missing}
use Rattle.doc_stream.specs.Memory.{HasHead}
use Rattle.doc_stream.specs.OpenBlock.{OpenBlock}
use Rattle.doc_stream.specs.Shown.{Asked, IsNotOpen}
use Rattle.doc_stream.specs.Steps.{in_hand, Moves, Place, Takes}
use Rattle.doc_stream.specs.Unasked.{IsOpenAt, IsShort}
use Rattle.doc_stream.proofs.Steps.{begins_none}

pub open_not : (tail : Option OpenBlock) (at : ℕ) → IsOpenAt tail at → IsNotOpen tail at → ⊥
open_not None at is not = is
open_not (Some tail) at is not = not is

pub short_full : (place : Place) → place.offset ≡ 4064 → IsShort place → ⊥
short_full place full short = omega arith

pub short_moved : (asked : Asked) (a b : Place) (blocks count : ℕ) → Moves asked a b blocks count → IsShort a → IsShort b
short_moved asked a b blocks count moved short =
    let further = moved.further in
    let exact = moved.exact in
    omega arith

pub short_skipped : (a b : Place) (count : ℕ) → b.offset ≡ a.offset + count → b.bytes ≡ drop count a.bytes → count ≤ length a.bytes → IsShort a → IsShort b
short_skipped a b count offset bytes fits short =
    let long : length b.bytes ≡ length (drop count a.bytes) = ap length bytes in
    omega (arith, length-drop {A = ℕ})

-- an error is no other one
pub err_other : {S T : Type 0} (why other : Refusal) (result : Result T Refusal) → result ≡ Err why → ◌≢◌ {A = Result S Refusal} (Err why) (Err other) → result ≢ Err other
err_other {S} {T} why other result is not same =
    let both : ◌≡◌ {A = Result T Refusal} (Err why) (Err other) = sym is ∙ same in
    let one : why ≡ other = cc in
    not (ap Err one)

-- the same error, of another result
pub same_other : {S T : Type 0} (why other : Refusal) (result : Result T Refusal) → result ≡ Err why → result ≡ Err other → ◌≡◌ {A = Result S Refusal} (Err why) (Err other)
same_other {S} {T} why other result is same =
    let both : ◌≡◌ {A = Result T Refusal} (Err why) (Err other) = sym is ∙ same in
    let one : why ≡ other = cc in
    ap Err one

pub missing_memory : {T : Type 0} (tells : Bool) (revision at : ℕ) (Gone : Type 0) (before after : ℕ) (why : Refusal) (result : Result T Refusal) → result ≡ Err why → Missing tells revision at Gone before after why → result ≢ Err Refusal.NoMemory
missing_memory {T} tells revision at Gone before after why result is (inl fault) same =
    let both : ◌≡◌ {A = Result T Refusal} (Err why) (Err Refusal.NoMemory) = sym is ∙ same in
    let one : why ≡ Refusal.NoMemory = cc in
    let never : Refusal.DiskFault ≡ Refusal.NoMemory = sym fault.0 ∙ one in
    absurd cc
missing_memory {T} tells revision at Gone before after why result is (inr damaged) same =
    let both : ◌≡◌ {A = Result T Refusal} (Err why) (Err Refusal.NoMemory) = sym is ∙ same in
    let one : why ≡ Refusal.NoMemory = cc in
    let never : Refusal.Damaged revision at ≡ Refusal.NoMemory = sym damaged.0 ∙ one in
    absurd cc

pub has_head : (asked : Asked) (file : List Block) (old new : Place) (bytes : List ℕ) (count : ℕ) → IsHead bytes count → Takes asked file old new bytes → HasHead asked file (in_hand old)
has_head asked file old new bytes count is takes = record {
  head = bytes;
  count = count;
  last = in_hand new;
  is = is;
  begins = subst (λ (b : List ℕ). Begins asked file (in_hand old) b (in_hand new)) (append-nil bytes) (takes.begins [] (in_hand new) (begins_none asked file (in_hand new)));
}
