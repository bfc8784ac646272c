-- A batch is its items one after another.
use Rattle.std.proofs.Common.{◌≡◌, ℕ, ◌+◌, ◌/◌, ◌%◌, ◌<◌, ◌≤◌, Bool, true, false, cond, List, [], ◌∷◌, length, Option, Some, None, refl, sym, ap, subst, ◌∙◌, arith}
use Rattle.std.specs.List.{AllByRecursion}
use Rattle.std.specs.Option.{is_none, is_some}
use Rattle.std.specs.FinMap as finite
use Rattle.std.proofs.lemmas.Bool.{true≢false}
use Rattle.std.proofs.lemmas.Option.{none-some, same_Some}
use Rattle.forest_model.specs.Documents.{Map, key_at, doc_of, doc_at, after_items}
use Rattle.forest_model.specs.Stores.{store_of, seq_of, with_seq}
use Rattle.forest_model.specs.State.{OfStore}
use Rattle.forest_model.specs.Step.{Outcome, written, answer}
use Rattle.forest_model.specs.declared.call.StoreRef.{StoreRef}
use Rattle.forest_model.specs.declared.call.Item.{Item}
use Rattle.forest_model.specs.declared.call.Item.TheVariants.{Put, Del}
use Rattle.forest_model.specs.declared.call.Call.TheVariants.{Set, Delete}
use Rattle.forest_model.specs.declared.state.State.{State}
use Rattle.forest_model.specs.declared.state.Store.{Store}
use Rattle.model_laws.specs.Laws.{state_after}
use Rattle.model_laws.specs.Answered.{IsItemKey, IsItemContent, MayWrite, MayDraw, MayDrawSeq, HasKey, NoCause, all_bytes}
use Rattle.model_laws.specs.Writes.{OneByOne, call_of_item}
use Rattle.model_laws.proofs.Conditions.{some_is}
use Rattle.model_laws.proofs.Free.{free_step, free_answered}
use Rattle.model_laws.proofs.FreeCalls.{free_is}
use Rattle.model_laws.proofs.Stores.{gone-with_seq, seq_of-with_seq, with_seq_twice, seq_at}

-- a state that so many items of so many bytes may be called on
pub record IsReady (s : State) (at : StoreRef) (count bytes : ℕ) : Type 0 where
  pub writes : MayWrite at
  pub there : is_none (store_of s.stores at.store) ≡ false
  pub draws : MayDraw (seq_of s.stores at.store + count)
  pub place : MayDraw (s.place + 1)
  pub room : (s.loose + bytes) / 4064 + 2 ≤ s.limits.max_blocks
  pub settled : with_seq s.stores at.store (seq_of s.stores at.store) ≡ s.stores
  pub open_block : s.loose < 4064

-- what one item leaves, at the old place
abbrev single : State → StoreRef → Map → ℕ → State
single s at m bytes = record (written s at (seq_of s.stores at.store + 1) m bytes).1 { place = s.place }

next_seq_is : (s : State) (at : StoreRef) (m : Map) (bytes count all : ℕ) → IsReady s at count all → seq_of (single s at m bytes).stores at.store ≡ seq_of s.stores at.store + 1
next_seq_is s at m bytes count all h = seq_of-with_seq s.stores at.store (seq_of s.stores at.store + 1) h.there

ready_after : (s : State) (at : StoreRef) (m : Map) (bytes count rest all : ℕ) → bytes + rest ≡ all → IsReady s at (count + 1) all → IsReady (single s at m bytes) at count rest
ready_after s at m bytes count rest all sum h =
    let next = next_seq_is s at m bytes (count + 1) all h in
    record {
      writes = h.writes;
      there = gone-with_seq s.stores at.store (seq_of s.stores at.store + 1) at.store ∙ h.there;
      draws = subst (λ n. MayDraw (n + count)) (sym next) (omega (arith, h.draws));
      place = h.place;
      room = omega (arith, h.room, sum, h.open_block);
      settled = ap (with_seq (with_seq s.stores at.store (seq_of s.stores at.store + 1)) at.store) next ∙ with_seq_twice s.stores at.store _ _;
      open_block = omega arith;
    }

-- a store that may come further may come one further
draws_one_more : (s : State) (at : StoreRef) (count all : ℕ) → IsReady s at (count + 1) all → MayDrawSeq s at.store 1
draws_one_more s at count all h =
    let found = (some_is (store_of s.stores at.store)).0 h.there in
    let st : Store = found.0 in
    let is = seq_at s.stores at.store st found.1 in
    subst (λ o. OfStore o (λ t. MayDraw (t.seq + 1))) (sym found.1) (omega (arith, h.draws, is))

-- what all of them leave
abbrev pub left : State → StoreRef → ℕ × Map → ℕ → State
left s at after bytes = record s { stores = with_seq s.stores at.store after.0; documents = after.1; loose = (s.loose + bytes) % 4064 }

left_after : (s : State) (at : StoreRef) (m : Map) (after : ℕ × Map) (bytes rest all : ℕ) → bytes + rest ≡ all → left (single s at m bytes) at after rest ≡ left s at after all
left_after s at m after bytes rest all sum =
    let loose : ((s.loose + bytes) % 4064 + rest) % 4064 ≡ (s.loose + all) % 4064 = omega (arith, sum) in
    λ i. record s { stores = with_seq_twice s.stores at.store (seq_of s.stores at.store + 1) after.0 i; documents = after.1; loose = loose i }

-- one item that is free, and then the others
one_then : (s : State) (at : StoreRef) (item : Item) (items : List Item) (m : Map) (after : ℕ × Map) (bytes all : ℕ)
    → NoCause s [] (call_of_item at item) → (answer s (call_of_item at item)).1 ≡ (written s at (seq_of s.stores at.store + 1) m bytes).1 → bytes + all_bytes items ≡ all
    → OneByOne (single s at m bytes) at items (left (single s at m bytes) at after (all_bytes items)) → OneByOne s at (item ∷ items) (left s at after all)
one_then s at item items m after bytes all free is sum later =
    let f = (free_is s [] (call_of_item at item)).1 free in
    let leaves : state_after s [] (call_of_item at item) ≡ (written s at (seq_of s.stores at.store + 1) m bytes).1 = ap (λ (o : Outcome). o.1) (free_step s [] (call_of_item at item) f) ∙ is in (
      free_answered s [] (call_of_item at item) f,
      subst (λ (t : State). OneByOne (record t { place = s.place }) at items (left s at after all)) (sym leaves)
          (subst (OneByOne (single s at m bytes) at items) (left_after s at m after bytes (all_bytes items) all sum) later),
    )

if_there : {X : Type 0} (b : Bool) (o : Option X) (x : X) → cond b o None ≡ Some x → (b ≡ true) × (o ≡ Some x)
if_there true o x e = (refl, e)
if_there false o x e = absurd (none-some x e)

is_there : {X : Type 0} (o : Option X) → is_some o ≡ true → is_none o ≡ false
is_there None e = absurd (true≢false (sym e))
is_there (Some x) e = refl

-- each item draws a number
pub items_draw : (id : ℕ) (items : List Item) (seq : ℕ) (m : Map) (after : ℕ × Map) → after_items id items seq m ≡ Some after → after.0 ≡ seq + length items
items_draw id [] seq m after e = let is : seq ≡ after.0 = ap (λ (p : ℕ × Map). p.0) (same_Some (seq, m) after e) in omega (arith, is)
items_draw id (Put key meta body ∷ items) seq m after e = let later = items_draw id items (seq + 1) (finite.insert m (key_at id key) (doc_of (seq + 1) meta body)) after e in omega (arith, later)
items_draw id (Del key ∷ items) seq m after e =
    let found = if_there (finite.contains_key m (key_at id key)) (after_items id items (seq + 1) (finite.remove m (key_at id key))) after e in
    let later = items_draw id items (seq + 1) (finite.remove m (key_at id key)) after found.1 in
    omega (arith, later)

pub one_by_one : (items : List Item) (s : State) (at : StoreRef) (after : ℕ × Map) → AllByRecursion IsItemKey items → AllByRecursion IsItemContent items → IsReady s at (length items) (all_bytes items)
    → after_items at.store items (seq_of s.stores at.store) s.documents ≡ Some after → OneByOne s at items (left s at after (all_bytes items))
one_by_one [] s at after keys contents h e =
    let is = same_Some (seq_of s.stores at.store, s.documents) after e in
    let stores : with_seq s.stores at.store after.0 ≡ s.stores = ap (λ (p : ℕ × Map). with_seq s.stores at.store p.0) (sym is) ∙ h.settled in
    let loose : (s.loose + 0) % 4064 ≡ s.loose = omega (arith, h.open_block) in
    let documents : after.1 ≡ s.documents = ap (λ (p : ℕ × Map). p.1) (sym is) in
    λ i. record s { stores = stores i; documents = documents i; loose = loose i }
one_by_one (Put key meta body ∷ items) s at after keys contents h e =
    let bytes = 24 + length key + length meta + length body in
    let m = finite.insert s.documents (key_at at.store key) (doc_of (seq_of s.stores at.store + 1) meta body) in
    let ready : IsReady s at (length items + 1) (bytes + all_bytes items) = subst (λ n. IsReady s at n (bytes + all_bytes items)) (omega arith) h in
    let free : NoCause s [] (Set at key meta body) = (h.writes, keys.0, contents.0, draws_one_more s at (length items) _ ready, h.place, omega (arith, h.room)) in
    let next = next_seq_is s at m bytes (length items + 1) _ ready in
    one_then s at (Put key meta body) items m after bytes (bytes + all_bytes items) free refl refl
    (one_by_one items (single s at m bytes) at after keys.1 contents.1 (ready_after s at m bytes (length items) (all_bytes items) _ refl ready) (ap (λ n. after_items at.store items n m) next ∙ e))
one_by_one (Del key ∷ items) s at after keys contents h e =
    let bytes = 24 + length key + 0 + 0 in
    let all = (24 + length key) + all_bytes items in
    let sum : bytes + all_bytes items ≡ all = omega arith in
    let m = finite.remove s.documents (key_at at.store key) in
    let found = if_there (finite.contains_key s.documents (key_at at.store key)) (after_items at.store items (seq_of s.stores at.store + 1) m) after e in
    let ready : IsReady s at (length items + 1) all = subst (λ n. IsReady s at n all) (omega arith) h in
    let has : HasKey s at.store key = (some_is (doc_at s.documents at.store key)).0 (is_there _ found.0) in
    let free : NoCause s [] (Delete at key) = (h.writes, keys.0, draws_one_more s at (length items) _ ready, h.place, has, omega (arith, h.room)) in
    let next = next_seq_is s at m bytes (length items + 1) _ ready in
    one_then s at (Del key) items m after bytes all free refl sum
    (one_by_one items (single s at m bytes) at after keys.1 contents.1 (ready_after s at m bytes (length items) (all_bytes items) all sum ready) (ap (λ n. after_items at.store items n m) next ∙ found.1))
