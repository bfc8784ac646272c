-- Steps of a reader, and what each tells of every way to go on.
use Rattle.std.proofs.Common.{◌≡◌, ◌≢◌, inl, inr, ℕ, ◌+◌, ◌-◌, ◌<◌, ◌≤◌, List, [], ◌∷◌, ◌++◌, length, Option, Some, None, refl, sym, ◌∙◌, ap, subst, arith, append_assoc, length-append, add-zero}
use Rattle.block_host.specs.declared.block.Block.{Block}
use Rattle.doc_stream.specs.OpenBlock.{OpenBlock}
use Rattle.doc_stream.specs.Runs.{Piece, Follows, Spreads}
use Rattle.doc_stream.specs.Broken.{AreShown, Begins, Ends, IsLastAsked}
use Rattle.doc_stream.specs.Shown.{Asked, Shows, Unsealed}
use Rattle.doc_stream.specs.Steps.{Place, in_hand, Following, IsWithin, SameBelow, Stretch, Turns, Takes, Stops}
use Rattle.doc_stream.proofs.Blocks.{lt_or_le, same_less, same_back, shows_other, shows_once, Next, next_there, following_on}

nonempty : (bytes : List ℕ) → 1 ≤ length bytes → bytes ≢ []
nonempty bytes some none =
    let empty : length bytes ≡ 0 = ap length none in
    absurd (omega arith)

-- nothing stands in front of everything
pub spreads_none : (p : Piece) (pieces : List Piece) → Spreads [] (p ∷ pieces) (p ∷ pieces)
spreads_none p pieces =
    inl (p.bytes, refl, ap (λ (n : ℕ). record { block = p.block; offset = n; bytes = p.bytes } ∷ pieces) (sym (add-zero p.offset)))

-- nothing begins everywhere
pub begins_none : (asked : Asked) (file : List Block) (p : Piece) → Begins asked file p [] p
begins_none asked file p = record { more = []; blocks = tt; spreads = spreads_none p [] }

-- the last block of a range
last_asked : (tail : Option OpenBlock) (end next : ℕ) → 1 ≤ next → IsWithin tail end next → (IsWithin tail end (next + 1) → ⊥) → IsLastAsked tail end (next - 1)
last_asked None end next first within never = elim (lt_or_le next end) [
  | inl lt ↦ absurd (never (omega arith))
  | inr le ↦ omega arith
]
last_asked (Some tail) end next first within never = absurd (never tt)

-- a place at which no bytes are left of the block in hand
module _ (asked : Asked) (file : List Block) (place : Place) (none : place.bytes ≡ []) where
  -- what goes on from there lies in the next block, behind a full one
  behind_none : (other : List Block) (bytes : List ℕ) (behind : List Piece) → 1 ≤ length bytes → (s : Stretch asked other place bytes behind)
      → (place.offset ≡ 4064) × Follows (in_hand place) s.pieces × Spreads bytes s.pieces behind
  behind_none other bytes behind some s = elim s.spreads [
    | inl here ↦ (let empty : length bytes + length here.0 ≡ 0 = sym (length-append bytes here.0) ∙ ap length (sym here.1) ∙ ap length none in absurd (omega arith))
    | inr further ↦
        (let same : bytes ≡ further.0 = further.1 ∙ ap (λ (b : List ℕ). b ++ further.0) none in
        let empty : length place.bytes ≡ 0 = ap length none in
        let full : place.offset + length place.bytes ≡ 4064 = further.3 in
        (omega arith, further.4, subst (λ (b : List ℕ). Spreads b s.pieces behind) (sym same) further.5))
  ]

  -- a block that doesn't let them go on
  stops_if : (block : ℕ) → place.next ≤ block + 1 → IsWithin asked.tail asked.end (block + 1) → Ends asked file (in_hand place) block
      → ((other : List Block) (pieces : List Piece) (bytes : List ℕ) (behind : List Piece) → SameBelow (block + 1) file other → 1 ≤ length bytes → place.offset ≡ 4064
      → Following asked.revision asked.tail asked.end other place.next pieces → Follows (in_hand place) pieces → Spreads bytes pieces behind → ⊥)
      → Stops asked file place 1 block
  stops_if block reached within why never = record {
    reached = reached;
    within = within;
    fewer = ([], omega arith, record { last = in_hand place; begins = begins_none asked file (in_hand place); none = none; why = why });
    broken = λ other all behind same long s.
        let next = behind_none other all behind long s in
        never other s.pieces all behind same long next.0 s.following next.1 next.2;
  }

  -- a block that isn't full
  pub stops_short : 1 ≤ place.next → IsWithin asked.tail asked.end place.next → place.offset < 4064 → Stops asked file place 1 (place.next - 1)
  stops_short first within short =
      let block : place.next ≡ place.next - 1 + 1 = omega arith in
      stops_if (place.next - 1) (omega arith) (subst (λ (n : ℕ). IsWithin asked.tail asked.end n) block within) (inl (refl, short))
      (λ other pieces bytes behind same some full following follows spreads. absurd (omega arith))

  module _ (first : 1 ≤ place.next) where
    low : (in_hand place).block + 1 ≡ place.next
    low = omega arith

    next_of : (other : List Block) (pieces : List Piece) → Following asked.revision asked.tail asked.end other place.next pieces → Follows (in_hand place) pieces → Next asked.revision asked.tail asked.end other place.next pieces
    next_of other pieces following follows = next_there asked.revision asked.tail asked.end other place.next (in_hand place) pieces following follows low

    -- the end of the range
    pub stops_end : IsWithin asked.tail asked.end place.next → (IsWithin asked.tail asked.end (place.next + 1) → ⊥) → Stops asked file place 1 (place.next - 1)
    stops_end within end =
        let block : place.next ≡ place.next - 1 + 1 = omega arith in
        stops_if (place.next - 1) (omega arith) (subst (λ (n : ℕ). IsWithin asked.tail asked.end n) block within) (inr (inl (refl, last_asked asked.tail asked.end place.next first within end)))
        (λ other pieces bytes behind same some full following follows spreads. end (next_of other pieces following follows).within)

    -- the next block is neither open nor sealed
    pub stops_unsealed : place.offset ≡ 4064 → IsWithin asked.tail asked.end (place.next + 1) → Unsealed asked file place.next → Stops asked file place 1 place.next
    stops_unsealed is_full within unsealed =
        stops_if place.next (omega arith) within (inr (inr (inl (sym low, is_full, unsealed))))
        (λ other pieces bytes behind same some full following follows spreads.
        let next = next_of other pieces following follows in
        unsealed 1 next.payload (shows_other asked.revision asked.tail other file (place.next + 1) place.next 1 next.payload (omega arith) (same_back (place.next + 1) file other same) next.shows))

    -- it has no records
    pub stops_other : (kind : ℕ) (payload : List ℕ) → place.offset ≡ 4064 → IsWithin asked.tail asked.end (place.next + 1) → kind ≢ 1 → Shows asked.revision asked.tail file place.next kind payload → Stops asked file place 1 place.next
    stops_other kind payload is_full within not shows =
        stops_if place.next (omega arith) within (inr (inr (inr (sym low, is_full, (kind, payload, inl not, shows)))))
        (λ other pieces bytes behind same some full following follows spreads.
        let next = next_of other pieces following follows in
        let there = shows_other asked.revision asked.tail file other (place.next + 1) place.next kind payload (omega arith) same shows in
        not (shows_once asked.revision asked.tail other place.next kind 1 payload next.payload there next.shows).0)

    empty_stops : (at : ℕ) (bytes : List ℕ) (rest behind : List Piece) → 1 ≤ length bytes → Spreads bytes (record { block = at; offset = 0; bytes = [] } ∷ rest) behind → ⊥
    empty_stops at bytes rest behind some spreads = elim spreads [
      | inl here ↦ (let empty : length bytes + length here.0 ≡ 0 = sym (length-append bytes here.0) ∙ ap length (sym here.1) in absurd (omega arith))
      | inr further ↦ (let full : 0 + 0 ≡ 4064 = further.3 in absurd (omega arith))
    ]

    -- it has no bytes
    pub stops_empty : (payload : List ℕ) → place.offset ≡ 4064 → IsWithin asked.tail asked.end (place.next + 1) → payload ≡ [] → Shows asked.revision asked.tail file place.next 1 payload → Stops asked file place 1 place.next
    stops_empty payload is_full within empty shows =
        stops_if place.next (omega arith) within (inr (inr (inr (sym low, is_full, (1, payload, inr empty, shows)))))
        (λ other pieces bytes behind same some full following follows spreads.
        let next = next_of other pieces following follows in
        let there = shows_other asked.revision asked.tail file other (place.next + 1) place.next 1 payload (omega arith) same shows in
        let is : next.payload ≡ [] = (shows_once asked.revision asked.tail other place.next 1 1 next.payload payload next.shows there).1 ∙ empty in
        let at_next : Spreads bytes (record { block = place.next; offset = 0; bytes = next.payload } ∷ next.rest) behind = subst (λ (ps : List Piece). Spreads bytes ps behind) next.is spreads in
        empty_stops place.next bytes next.rest behind some (subst (λ (b : List ℕ). Spreads bytes (record { block = place.next; offset = 0; bytes = b } ∷ next.rest) behind) is at_next))

    -- on to the next block
    module _ (new : Place) (full : place.offset ≡ 4064) (next_is : new.next ≡ place.next + 1) (offset : new.offset ≡ 0) (some : 1 ≤ length new.bytes)
        (within : IsWithin asked.tail asked.end (place.next + 1)) (shows : Shows asked.revision asked.tail file place.next 1 new.bytes) where
      hand_is : in_hand new ≡ record { block = place.next; offset = 0; bytes = new.bytes }
      hand_is =
          let piece : ℕ → ℕ → Piece = λ a b. record { block = a; offset = b; bytes = new.bytes } in
          let block : new.next - 1 ≡ place.next = omega arith in
          ap (λ (a : ℕ). piece a new.offset) block ∙ ap (λ (b : ℕ). piece place.next b) offset

      there_in : (other : List Block) → SameBelow new.next file other → Shows asked.revision asked.tail other place.next 1 new.bytes
      there_in other same = shows_other asked.revision asked.tail file other new.next place.next 1 new.bytes (omega arith) same shows

      turn_on : (other : List Block) (bytes : List ℕ) (behind : List Piece) → SameBelow new.next file other → 1 ≤ length bytes → Stretch asked other new bytes behind → Stretch asked other place bytes behind
      turn_on other bytes behind same long s =
          let piece : Piece = record { block = place.next; offset = 0; bytes = new.bytes } in
          let empty : length place.bytes ≡ 0 = ap length none in
          let follows : place.next ≡ place.next - 1 + 1 = omega arith in
          record {
            pieces = piece ∷ s.pieces;
            following = following_on asked.revision asked.tail asked.end other place.next new.bytes s.pieces (there_in other same) some within
                (subst (λ (n : ℕ). Following asked.revision asked.tail asked.end other n s.pieces) next_is s.following);
            spreads = inr (bytes, ap (λ (b : List ℕ). b ++ bytes) (sym none), nonempty bytes long, omega arith, follows, subst (λ (p : Piece). Spreads bytes (p ∷ s.pieces) behind) hand_is s.spreads);
          }

      turn_back : (other : List Block) (bytes : List ℕ) (behind : List Piece) → SameBelow new.next file other → 1 ≤ length bytes → Stretch asked other place bytes behind → Stretch asked other new bytes behind
      turn_back other bytes behind same long s =
          let over = behind_none other bytes behind long s in
          let next = next_of other s.pieces s.following over.1 in
          let is : next.payload ≡ new.bytes = (shows_once asked.revision asked.tail other place.next 1 1 next.payload new.bytes next.shows (there_in other same)).1 in
          let at_next : Spreads bytes (record { block = place.next; offset = 0; bytes = next.payload } ∷ next.rest) behind = subst (λ (ps : List Piece). Spreads bytes ps behind) next.is over.2 in
          let at_new : Spreads bytes (record { block = place.next; offset = 0; bytes = new.bytes } ∷ next.rest) behind = subst (λ (b : List ℕ). Spreads bytes (record { block = place.next; offset = 0; bytes = b } ∷ next.rest) behind) is at_next in
          record {
            pieces = next.rest;
            following = subst (λ (n : ℕ). Following asked.revision asked.tail asked.end other n next.rest) (sym next_is) next.following;
            spreads = subst (λ (p : Piece). Spreads bytes (p ∷ next.rest) behind) (sym hand_is) at_new;
          }

      turn_begins : (bytes : List ℕ) (last : Piece) → 1 ≤ length bytes → Begins asked file (in_hand new) bytes last → Begins asked file (in_hand place) bytes last
      turn_begins bytes last long b =
          let piece : Piece = record { block = place.next; offset = 0; bytes = new.bytes } in
          let empty : length place.bytes ≡ 0 = ap length none in
          let at : place.next ≡ place.next - 1 + 1 = omega arith in
          let after : new.next - 1 + 1 ≡ place.next - 1 + 1 + 1 = omega arith in
          record {
            more = piece ∷ b.more;
            blocks = (
              at,
              refl,
              subst (λ (n : ℕ). Shows asked.revision asked.tail file n 1 new.bytes) at shows,
              subst (λ (n : ℕ). AreShown asked file n b.more) after b.blocks,
            );
            spreads = inr (bytes, ap (λ (l : List ℕ). l ++ bytes) (sym none), nonempty bytes long, omega arith, at, subst (λ (p : Piece). Spreads bytes (p ∷ b.more) (last ∷ [])) hand_is b.spreads);
          }

      pub turned : Turns asked file place new
      turned = record { later = omega arith; on = turn_on; back = turn_back; begins = turn_begins }

pub turned_not : (asked : Asked) (file : List Block) (place : Place) → Turns asked file place place
turned_not asked file place = record {
  later = omega arith;
  on = λ other bytes behind same long s. s;
  back = λ other bytes behind same long s. s;
  begins = λ bytes last long b. b;
}

same_follows : (p q : Piece) (pieces : List Piece) → p.block ≡ q.block → Follows p pieces → Follows q pieces
same_follows p q [] same follows = absurd follows
same_follows p q (r ∷ pieces) same follows = follows ∙ ap (λ (n : ℕ). n + 1) same

-- a list in front of which another stands
pub split_front : (xs ys zs ws : List ℕ) → xs ++ ys ≡ zs ++ ws → length xs ≤ length zs → (more : List ℕ) × (zs ≡ xs ++ more) × (ys ≡ more ++ ws)
split_front [] ys zs ws is le = (zs, refl, is)
split_front (x ∷ xs) ys [] ws is le = absurd (omega arith)
split_front (x ∷ xs) ys (z ∷ zs) ws is le =
    let first : x ≡ z = cc in
    let rest : xs ++ ys ≡ zs ++ ws = cc in
    let deeper = split_front xs ys zs ws rest (omega arith) in
    (deeper.0, cc (first, deeper.1), deeper.2)

-- bytes of the block in hand
module _ (asked : Asked) (file : List Block) (old new : Place) (bytes : List ℕ) (next_is : new.next ≡ old.next) (offset : new.offset ≡ old.offset + length bytes) (split : old.bytes ≡ bytes ++ new.bytes) where
  hand_on : (more : List ℕ) (pieces behind : List Piece) → Spreads more (in_hand new ∷ pieces) behind → Spreads (bytes ++ more) (in_hand old ∷ pieces) behind
  hand_on more pieces behind spreads = elim spreads [
    | inl here ↦
        (let lengths = length-append bytes more in
        let piece : ℕ → ℕ → Piece = λ a b. record { block = a; offset = b; bytes = here.0 } in
        let at : new.offset + length more ≡ old.offset + length (bytes ++ more) = omega arith in
        let block : new.next - 1 ≡ old.next - 1 = omega arith in
        inl (
          here.0,
          split ∙ ap (λ (b : List ℕ). bytes ++ b) here.1 ∙ sym (append_assoc bytes more here.0),
          here.2 ∙ ap (λ (b : ℕ). piece (new.next - 1) b ∷ pieces) at ∙ ap (λ (a : ℕ). piece a (old.offset + length (bytes ++ more)) ∷ pieces) block,
        ))
    | inr further ↦
        (let lengths : length old.bytes ≡ length bytes + length new.bytes = ap length split ∙ length-append bytes new.bytes in
        let full : new.offset + length new.bytes ≡ 4064 = further.3 in
        let follows : Follows (in_hand old) pieces = same_follows (in_hand new) (in_hand old) pieces (ap (λ (n : ℕ). n - 1) next_is) further.4 in
        inr (further.0, ap (λ (b : List ℕ). bytes ++ b) further.1 ∙ sym (append_assoc bytes new.bytes further.0) ∙ ap (λ (b : List ℕ). b ++ further.0) (sym split), further.2, omega arith, follows, further.5))
  ]

  hand_back : (all : List ℕ) (pieces behind : List Piece) → length bytes ≤ length all → Spreads all (in_hand old ∷ pieces) behind → (more : List ℕ) × (all ≡ bytes ++ more) × Spreads more (in_hand new ∷ pieces) behind
  hand_back all pieces behind le spreads = elim spreads [
    | inl here ↦
        (let front = split_front bytes new.bytes all here.0 (sym split ∙ here.1) le in
        let lengths : length all ≡ length bytes + length front.0 = ap length front.1 ∙ length-append bytes front.0 in
        let piece : ℕ → ℕ → Piece = λ a b. record { block = a; offset = b; bytes = here.0 } in
        let at : old.offset + length all ≡ new.offset + length front.0 = omega arith in
        let block : old.next - 1 ≡ new.next - 1 = omega arith in
        (front.0, front.1, inl (here.0, front.2, here.2 ∙ ap (λ (b : ℕ). piece (old.next - 1) b ∷ pieces) at ∙ ap (λ (a : ℕ). piece a (new.offset + length front.0) ∷ pieces) block)))
    | inr further ↦
        (let lengths : length old.bytes ≡ length bytes + length new.bytes = ap length split ∙ length-append bytes new.bytes in
        let full : old.offset + length old.bytes ≡ 4064 = further.3 in
        let follows : Follows (in_hand new) pieces = same_follows (in_hand old) (in_hand new) pieces (ap (λ (n : ℕ). n - 1) (sym next_is)) further.4 in (
          new.bytes ++ further.0,
          further.1 ∙ ap (λ (b : List ℕ). b ++ further.0) split ∙ append_assoc bytes new.bytes further.0,
          inr (further.0, refl, further.2, omega arith, follows, further.5),
        ))
  ]

  pub takes_hand : Takes asked file old new bytes
  takes_hand = record {
    later = omega arith;
    on = λ other more behind same s. record {
      pieces = s.pieces;
      following = subst (λ (n : ℕ). Following asked.revision asked.tail asked.end other n s.pieces) next_is s.following;
      spreads = hand_on more s.pieces behind s.spreads;
    };
    back = λ other all behind same le s.
        let there = hand_back all s.pieces behind le s.spreads in (
          there.0,
          there.1,
          record {
            pieces = s.pieces;
            following = subst (λ (n : ℕ). Following asked.revision asked.tail asked.end other n s.pieces) (sym next_is) s.following;
            spreads = there.2;
          },
        );
    begins = λ more last b. record {
      more = b.more;
      blocks = subst (λ (n : ℕ). AreShown asked file (n - 1 + 1) b.more) next_is b.blocks;
      spreads = hand_on more b.more (last ∷ []) b.spreads;
    };
  }

pub takes_none : (asked : Asked) (file : List Block) (place : Place) → Takes asked file place place []
takes_none asked file place = record {
  later = omega arith;
  on = λ other more behind same s. s;
  back = λ other all behind same le s. (all, refl, s);
  begins = λ more last b. b;
}

pub takes_both : (asked : Asked) (file : List Block) (a b c : Place) (first second : List ℕ) → Takes asked file a b first → Takes asked file b c second → Takes asked file a c (first ++ second)
takes_both asked file a b c first second one two =
    let lengths = length-append first second in
    let one_later = one.later in
    let two_later = two.later in
    record {
      later = omega arith;
      on = λ other more behind same s.
          subst (λ (l : List ℕ). Stretch asked other a l behind) (sym (append_assoc first second more))
          (one.on other (second ++ more) behind (same_less b.next c.next file other two_later same) (two.on other more behind same s));
      back = λ other all behind same le s.
          let front = one.back other all behind (same_less b.next c.next file other two_later same) (omega arith) s in
          let all_is : length all ≡ length first + length front.0 = ap length front.1 ∙ length-append first front.0 in
          let further = two.back other front.0 behind same (omega arith) front.2 in
          (further.0, front.1 ∙ ap (λ (l : List ℕ). first ++ l) further.1 ∙ sym (append_assoc first second further.0), further.2);
      begins = λ more last t. subst (λ (l : List ℕ). Begins asked file (in_hand a) l last) (sym (append_assoc first second more)) (one.begins (second ++ more) last (two.begins more last t));
    }

pub turn_takes : (asked : Asked) (file : List Block) (a b c : Place) (bytes : List ℕ) → 1 ≤ length bytes → Turns asked file a b → Takes asked file b c bytes → Takes asked file a c bytes
turn_takes asked file a b c bytes some one two =
    let one_later = one.later in
    let two_later = two.later in
    record {
      later = omega arith;
      on = λ other more behind same s.
          let lengths = length-append bytes more in
          one.on other (bytes ++ more) behind (same_less b.next c.next file other two_later same) (omega arith) (two.on other more behind same s);
      back = λ other all behind same le s.
          two.back other all behind same le (one.back other all behind (same_less b.next c.next file other two_later same) (omega arith) s);
      begins = λ more last t. let lengths = length-append bytes more in one.begins (bytes ++ more) last (omega arith) (two.begins more last t);
    }

pub stops_behind : (asked : Asked) (file : List Block) (a b : Place) (bytes : List ℕ) (count block : ℕ) → Takes asked file a b bytes → Stops asked file b count block → Stops asked file a (length bytes + count) block
stops_behind asked file a b bytes count block takes stops =
    let later = takes.later in
    let reached = stops.reached in
    let few = stops.fewer in
    let long = few.1 in
    record {
      reached = omega arith;
      within = stops.within;
      fewer = (bytes ++ few.0, omega (arith, length-append bytes few.0), record { last = few.2.last; begins = takes.begins few.0 few.2.last few.2.begins; none = few.2.none; why = few.2.why });
      broken = λ other all behind same le s.
          let front = takes.back other all behind (same_less b.next (block + 1) file other reached same) (omega arith) s in
          let all_is : length all ≡ length bytes + length front.0 = ap length front.1 ∙ length-append bytes front.0 in
          stops.broken other front.0 behind same (omega arith) front.2;
    }

pub stops_more : (asked : Asked) (file : List Block) (place : Place) (count more block : ℕ) → count ≤ more → Stops asked file place count block → Stops asked file place more block
stops_more asked file place count more block le stops = record {
  reached = stops.reached;
  within = stops.within;
  fewer = (let few = stops.fewer in let long = few.1 in (few.0, omega arith, few.2));
  broken = λ other all behind same long s. stops.broken other all behind same (omega arith) s;
}
