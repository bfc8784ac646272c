-- A place that is filled from the front.
use Rattle.std.proofs.Common.{◌≡◌, ℕ, ◌+◌, ◌-◌, ◌≤◌, ◌<◌, List, ◌++◌, length, take, drop, sym, ◌∙◌, ap, subst, arith, append_assoc, length-append}
use Rattle.std.proofs.lemmas.List.{take-append-drop, length-take-le, take_at}
use Rattle.block_host.specs.declared.block.Block.{Block}
use Rattle.doc_stream.specs.Shown.{Asked}
use Rattle.doc_stream.specs.Steps.{Place, IsNear, IsWithin, Moves, Takes, Turns, Stops}
use Rattle.doc_stream.proofs.Steps.{takes_hand, takes_both, turn_takes, stops_behind, stops_more}

pub fill_front : (out part rest : List ℕ) (filled n : ℕ) → filled ≤ length out → n ≤ length part → take (filled + n) (take filled out ++ (part ++ rest)) ≡ take filled out ++ take n part
fill_front out part rest filled n within fits =
    let front = take filled out in
    let long : length (front ++ take n part) ≡ filled + n = omega (arith, length-append front (take n part), length-take-le filled out within, length-take-le n part fits) in
    let split : front ++ (part ++ rest) ≡ (front ++ take n part) ++ (drop n part ++ rest) =
    ap (λ (l : List ℕ). front ++ (l ++ rest)) (sym (take-append-drop n part)) ∙ ap (λ (l : List ℕ). front ++ l) (append_assoc (take n part) (drop n part) rest) ∙ sym (append_assoc front (take n part) (drop n part ++ rest)) in
    ap (λ (l : List ℕ). take (filled + n) l) split ∙ take_at (front ++ take n part) (drop n part ++ rest) (filled + n) long

-- one more step of a loop that fills
pub fill_more : (asked : Asked) (file : List Block) (start old mid new : Place) (out part rest all : List ℕ) (filled n : ℕ) → filled ≤ length out → 1 ≤ n → n ≤ length part
    → all ≡ take filled out ++ (part ++ rest) → Takes asked file start old (take filled out) → Turns asked file old mid → new.next ≡ mid.next → new.offset ≡ mid.offset + n → mid.bytes ≡ take n part ++ new.bytes
    → Takes asked file start new (take (filled + n) all)
fill_more asked file start old mid new out part rest all filled n within some fits is so_far turns next offset split =
    let long : length (take n part) ≡ n = length-take-le n part fits in
    let front : take (filled + n) all ≡ take filled out ++ take n part = ap (λ (l : List ℕ). take (filled + n) l) is ∙ fill_front out part rest filled n within fits in
    let hand = takes_hand asked file mid new (take n part) next (offset ∙ ap (λ (k : ℕ). mid.offset + k) (sym long)) split in
    subst (λ (l : List ℕ). Takes asked file start new l) (sym front)
    (takes_both asked file start old new (take filled out) (take n part) so_far (turn_takes asked file old mid new (take n part) (omega arith) turns hand))

pub moved_more : (asked : Asked) (start old mid new : Place) (out : List ℕ) (filled n : ℕ) → 1 ≤ n → Moves asked start old filled filled → Moves asked old mid 1 0 → new.next ≡ mid.next → new.offset ≡ mid.offset + n → mid.bytes ≡ out ++ new.bytes → length out ≡ n
    → Moves asked start new (filled + n) (filled + n)
moved_more asked start old mid new out filled n some so_far turn next offset split long =
    let lengths : length mid.bytes ≡ length out + length new.bytes = ap length split ∙ length-append out new.bytes in
    let so_far_later = so_far.later in
    let so_far_near = so_far.near in
    let so_far_further = so_far.further in
    let turn_later = turn.later in
    let turn_near = turn.near in
    let turn_further = turn.further in
    let so_far_exact = so_far.exact in
    let turn_exact = turn.exact in
    record {
      later = omega arith;
      near = omega arith;
      within = subst (λ (k : ℕ). IsWithin asked.tail asked.end k) (sym next) turn.within;
      further = omega arith;
      exact = omega arith;
    }

pub stops_filling : (asked : Asked) (file : List Block) (start old : Place) (out : List ℕ) (filled block : ℕ) → filled < length out → Takes asked file start old (take filled out) → Stops asked file old 1 block → Stops asked file start (length out) block
stops_filling asked file start old out filled block lt so_far stops =
    let long : length (take filled out) ≡ filled = length-take-le filled out (omega arith) in
    stops_more asked file start (length (take filled out) + 1) (length out) block (omega arith) (stops_behind asked file start old (take filled out) 1 block so_far stops)

-- behind other bytes, in the same file
pub stops_after : (asked : Asked) (file file' : List Block) (start mid : Place) (bytes : List ℕ) (count all block : ℕ) → file' ≡ file → Takes asked file start mid bytes → length bytes + count ≤ all → Stops asked file' mid count block → Stops asked file start all block
stops_after asked file file' start mid bytes count all block same takes le stops =
    stops_more asked file start (length bytes + count) all block le (stops_behind asked file start mid bytes count block takes (subst (λ (f : List Block). Stops asked f mid count block) same stops))

pub takes_after : (asked : Asked) (file file' : List Block) (a b c : Place) (first second : List ℕ) → file' ≡ file → Takes asked file a b first → Takes asked file' b c second → Takes asked file a c (first ++ second)
takes_after asked file file' a b c first second same one two = takes_both asked file a b c first second one (subst (λ (f : List Block). Takes asked f b c second) same two)

pub moved_both : (asked : Asked) (a b c : Place) (n m : ℕ) → Moves asked a b n n → Moves asked b c m m → Moves asked a c (n + m) (n + m)
moved_both asked a b c n m one two =
    let one_later = one.later in
    let one_near = one.near in
    let one_further = one.further in
    let two_later = two.later in
    let two_near = two.near in
    let two_further = two.further in
    let one_exact = one.exact in
    let two_exact = two.exact in
    record { later = omega arith; near = omega arith; within = two.within; further = omega arith; exact = omega arith }

-- a block near a place that lies further on is near the earlier one
pub near_after : (asked : Asked) (a b : Place) (n count all block : ℕ) → Moves asked a b n n → n + count ≤ all → IsNear asked b count block → IsNear asked a all block
near_after asked a b n count all block moved le near =
    let later = moved.later in
    let exact = moved.exact in
    let reached = near.reached in
    let close = near.near in
    record { reached = omega arith; within = near.within; near = omega arith }

-- the block in hand, of which something was taken or all is left, is near
pub near_here : (asked : Asked) (a b : Place) (n all : ℕ) → 1 ≤ b.next → Moves asked a b n n → n ≤ all → IsNear asked a all (b.next - 1)
near_here asked a b n all first moved le =
    let later = moved.later in
    let exact = moved.exact in
    let block : b.next ≡ b.next - 1 + 1 = omega arith in
    record { reached = omega arith; within = subst (λ (k : ℕ). IsWithin asked.tail asked.end k) block moved.within; near = omega arith }

-- the blocks that a reader with nothing in hand may name: the one in hand, and where that is full the next one
pub near_back : (asked : Asked) (place : Place) → 1 ≤ place.next → IsWithin asked.tail asked.end place.next → IsNear asked place 1 (place.next - 1)
near_back asked place first within =
    let block : place.next ≡ place.next - 1 + 1 = omega arith in
    record { reached = omega arith; within = subst (λ (k : ℕ). IsWithin asked.tail asked.end k) block within; near = omega arith }

pub near_on : (asked : Asked) (place : Place) → place.offset ≡ 4064 → IsWithin asked.tail asked.end (place.next + 1) → IsNear asked place 1 place.next
near_on asked place full within = record { reached = omega arith; within = within; near = omega arith }

pub near_more : (asked : Asked) (place : Place) (count all block : ℕ) → count ≤ all → IsNear asked place count block → IsNear asked place all block
near_more asked place count all block le near = let close = near.near in record { reached = near.reached; within = near.within; near = omega arith }
