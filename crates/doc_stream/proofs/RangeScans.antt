-- The records of a range, one after another.
use Rattle.std.proofs.Common.{◌≡◌, ◌≢◌, ◌⊎◌, inl, inr, ℕ, ◌+◌, ◌-◌, ◌≤◌, ◌<◌, Bool, true, false, List, [], ◌∷◌, ◌++◌, length, Option, None, IsTrue, refl, sym, ◌∙◌, ap, subst, arith, append_assoc}
use Rattle.std.proofs.lemmas.List.{append-nil}
use Rattle.block_host.specs.declared.block.Block.{Block}
use Rattle.forest_model.specs.declared.stored.Rec.{Rec}
use Rattle.doc_stream.specs.Causes.{BreaksRecords}
use Rattle.doc_stream.specs.Memory.{HasHead, HasHeadBehind}
use Rattle.doc_stream.specs.OpenBlock.{OpenBlock, address_of}
use Rattle.forest_model.specs.Records.{record_bytes, is_record}
use Rattle.doc_stream.specs.Runs.{Piece, RecordBlocks, Spreads, AreRecords, StartsAt, RecordsOf, left}
use Rattle.doc_stream.specs.Scans.{IsAhead, RestOf, Scans, BreaksRest}
use Rattle.doc_stream.specs.Broken.{BreaksAt, BreaksRange}
use Rattle.doc_stream.specs.Shown.{range_of, Asked, Stands, Shows, Unsealed}
use Rattle.doc_stream.specs.Steps.{Place, in_hand, Following, IsNear, IsWithin, SameBelow, Stretch, Loads, TakesRecord, StopsRecord}
use Rattle.doc_stream.proofs.Blocks.{same_less, same_back, stands_other, some_or_none, kept, passed, left_left, front, pass_on, pass_back, following_on, front_back}
use Rattle.doc_stream.proofs.Ahead.{Lifts, head_lifted, into, over_record, past, precede_same, range_lifted}
use Rattle.doc_stream.proofs.Before.{last_block, range_there}
use Rattle.doc_stream.proofs.Fronts.{nil_rest}
use Rattle.doc_stream.proofs.Steps.{spreads_none}

-- what pieces with no bytes lie between tells nothing
pub are_same : (xs ys : List Piece) (records : List (ℕ × Rec)) → left xs ≡ left ys → AreRecords xs records → AreRecords ys records
are_same xs ys [] same are = sym same ∙ are
are_same xs ys ((address, r) ∷ records) same are =
    (are.0, subst (λ (ps : List Piece). StartsAt address ps) same are.1, (are.2.0, subst (λ (ps : List Piece). Spreads (record_bytes r) ps are.2.0) same are.2.1, are.2.2))

pub before_end : (a b n : ℕ) → (a < b) ⊎ (1 ≤ n) → n ≡ 0 → a < b
before_end a b n (inl lt) none = lt
before_end a b n (inr some) none = absurd (omega arith)

pub ahead : (start old new left : ℕ) → start ≤ old → (1 ≤ left → start < old) → old ≤ new → (old < new) ⊎ (1 ≤ left) → start < new
ahead start old new left behind ready later (inl lt) = omega arith
ahead start old new left behind ready later (inr some) = let higher : start < old = ready some in omega arith

-- what a reader may name of a range lies in it
pub low_ahead : (asked : Asked) (start : ℕ) (now : Place) (block : ℕ) → start ≤ now.next → (1 ≤ length now.bytes → start < now.next) → IsAhead asked now block → (start ≤ block) × (block < asked.end)
low_ahead asked start now block later ready ahead =
    let within = ahead.within in
    let behind = ahead.behind in
    elim ahead.reached [
      | inl some ↦ (let higher = ready some in (omega arith, omega arith))
      | inr le ↦ (omega arith, omega arith)
    ]

pub ahead_near : (asked : Asked) → asked.tail ≡ None → (place : Place) (block : ℕ) → 1 ≤ length place.bytes → IsNear asked place 1052355 block → IsAhead asked place block
ahead_near asked none place block some near = record {
  reached = inl some;
  behind = near.reached;
  within = subst (λ (t : Option OpenBlock). IsWithin t asked.end (block + 1)) none near.within;
}

-- the first block is there, once a step has been made from the start
pub shown_first : (asked : Asked) (file file' : List Block) (start old : Place) → length start.bytes ≡ 0 → file' ≡ file → old ≡ start
    → (length old.bytes ≡ 0 → (kind : ℕ) × (payload : List ℕ) × Shows asked.revision asked.tail file' old.next kind payload) → (kind : ℕ) × (payload : List ℕ) × Shows asked.revision asked.tail file start.next kind payload
shown_first asked file file' start old none same is shown =
    let empty : length old.bytes ≡ 0 = ap (λ (p : Place). length p.bytes) is ∙ none in
    let there = shown empty in (
      there.0,
      there.1,
      subst (λ (f : List Block). Shows asked.revision asked.tail f start.next there.0 there.1) same (subst (λ (p : Place). Shows asked.revision asked.tail file' p.next there.0 there.1) is there.2),
    )

-- a range, with no open block
module _ (asked : Asked) (none : asked.tail ≡ None) (file : List Block) where
  pub ranged : (other : List Block) (at : ℕ) (pieces : List Piece) → Following asked.revision asked.tail asked.end other at pieces → Following asked.revision None asked.end other at pieces
  ranged other at pieces f = subst (λ (t : Option OpenBlock). Following asked.revision t asked.end other at pieces) none f

  pub unranged : (other : List Block) (at : ℕ) (pieces : List Piece) → Following asked.revision None asked.end other at pieces → Following asked.revision asked.tail asked.end other at pieces
  unranged other at pieces f = subst (λ (t : Option OpenBlock). Following asked.revision t asked.end other at pieces) (sym none) f

  asked_is : asked ≡ range_of asked.revision asked.end
  asked_is = ap (λ (t : Option OpenBlock). record { revision = asked.revision; tail = t; end = asked.end }) none

  stood : (at kind : ℕ) (payload : List ℕ) → Shows asked.revision asked.tail file at kind payload → Stands asked.revision file at kind payload
  stood at kind payload s = subst (λ (t : Option OpenBlock). Shows asked.revision t file at kind payload) none s

  left_once : (other : List Block) (at : ℕ) (pieces : List Piece) → Following asked.revision None asked.end other at pieces → left pieces ≡ pieces
  left_once other at pieces f = ap left f.2 ∙ left_left f.0 ∙ sym f.2

  pub scans_none : (place : Place) → Scans asked file place place []
  scans_none place = record {
    later = omega arith;
    on = λ other rest same r. r;
    back = λ other records same r. (records, refl, r);
    breaks = λ block b. b;
    heads = λ h. h;
  }

  pub scans_both : (a b c : Place) (first second : List (ℕ × Rec)) → Scans asked file a b first → Scans asked file b c second → Scans asked file a c (first ++ second)
  scans_both a b c first second one two =
      let one_later = one.later in
      let two_later = two.later in
      record {
        later = omega arith;
        on = λ other rest same r.
            subst (λ (l : List (ℕ × Rec)). RestOf asked other a l) (sym (append_assoc first second rest))
            (one.on other (second ++ rest) (same_less b.next c.next file other two_later same) (two.on other rest same r));
        back = λ other records same r.
            let front = one.back other records (same_less b.next c.next file other two_later same) r in
            let further = two.back other front.0 same front.2 in
            (further.0, front.1 ∙ ap (λ (l : List (ℕ × Rec)). first ++ l) further.1 ∙ sym (append_assoc first second further.0), further.2);
        breaks = λ block b. one.breaks block (two.breaks block b);
        heads = λ h. one.heads (two.heads h);
      }

  -- a block that is passed over
  module _ (old new : Place) (empty : old.bytes ≡ []) (next_is : new.next ≡ old.next + 1) (within : old.next < asked.end) where
    module _ (empty_too : new.bytes ≡ []) (kind : ℕ) (payload : List ℕ) (stands : Stands asked.revision file old.next kind payload) (why : (kind ≢ 1) ⊎ ((kind ≡ 1) × (payload ≡ []))) where
      there_in : (other : List Block) → SameBelow new.next file other → Stands asked.revision other old.next kind payload
      there_in other same = stands_other asked.revision file other new.next old.next kind payload (omega arith) same stands

      same_left : (pieces : List Piece) → left (in_hand new ∷ pieces) ≡ left (in_hand old ∷ pieces)
      same_left pieces = passed (in_hand new) pieces empty_too ∙ sym (passed (in_hand old) pieces empty)

      lifted : (kind ≢ 1) ⊎ ((kind ≡ 1) × (payload ≡ [])) → Lifts asked.revision file (in_hand new ∷ []) new.next (in_hand old ∷ []) old.next 1
      lifted (inl other) = subst (λ (n : ℕ). Lifts asked.revision file (in_hand new ∷ []) n (in_hand old ∷ []) old.next 1) (sym next_is)
          (past asked.revision file old.next kind payload stands (in_hand old ∷ []) (in_hand new ∷ []) other (λ pieces. same_left pieces))
      lifted (inr none_there) =
          let p : Piece = record { block = old.next; offset = 0; bytes = payload } in
          subst (λ (n : ℕ). Lifts asked.revision file (in_hand new ∷ []) n (in_hand old ∷ []) old.next 1) (sym next_is)
          (into asked.revision file old.next kind payload stands (in_hand old ∷ []) (in_hand new ∷ []) none_there.0
          (λ pieces. same_left pieces ∙ passed (in_hand old) pieces empty ∙ sym (passed p pieces none_there.1) ∙ sym (passed (in_hand old) (p ∷ pieces) empty)))

      pub scans_past : Scans asked file old new []
      scans_past = record {
        later = omega arith;
        on = λ other rest same r. record {
          pieces = r.pieces;
          following = unranged other old.next r.pieces (pass_on asked.revision asked.end other old.next r.pieces kind payload within (there_in other same) why
              (subst (λ (n : ℕ). Following asked.revision None asked.end other n r.pieces) next_is (ranged other new.next r.pieces r.following)));
          are = are_same (in_hand new ∷ r.pieces) (in_hand old ∷ r.pieces) rest (same_left r.pieces) r.are;
        };
        back = λ other records same r. (
          records,
          refl,
          record {
            pieces = r.pieces;
            following = unranged other new.next r.pieces (subst (λ (n : ℕ). Following asked.revision None asked.end other n r.pieces) (sym next_is)
                (pass_back asked.revision asked.end other old.next r.pieces kind payload within (there_in other same) why (ranged other old.next r.pieces r.following)));
            are = are_same (in_hand old ∷ r.pieces) (in_hand new ∷ r.pieces) records (sym (same_left r.pieces)) r.are;
          },
        );
        breaks = range_lifted asked.revision asked.end file (in_hand new ∷ []) new.next (in_hand old ∷ []) old.next 1 next_is (lifted why);
        heads = head_lifted asked.revision asked.end file (in_hand new ∷ []) new.next (in_hand old ∷ []) old.next 1 next_is (lifted why);
      }

    -- a record block with bytes
    module _ (offset : new.offset ≡ 0) (some : 1 ≤ length new.bytes) (stands : Stands asked.revision file old.next 1 new.bytes) where
      abbrev piece : Piece
      piece = record { block = old.next; offset = 0; bytes = new.bytes }

      hand_is : in_hand new ≡ piece
      hand_is =
          let make : ℕ → ℕ → Piece = λ a b. record { block = a; offset = b; bytes = new.bytes } in
          let block : new.next - 1 ≡ old.next = omega arith in
          ap (λ (a : ℕ). make a new.offset) block ∙ ap (λ (b : ℕ). make old.next b) offset

      block_in : (other : List Block) → SameBelow new.next file other → Stands asked.revision other old.next 1 new.bytes
      block_in other same = stands_other asked.revision file other new.next old.next 1 new.bytes (omega arith) same stands

      taken_left : (pieces : List Piece) → left (in_hand new ∷ pieces) ≡ left (in_hand old ∷ piece ∷ pieces)
      taken_left pieces = ap (λ (p : Piece). left (p ∷ pieces)) hand_is ∙ sym (passed (in_hand old) (piece ∷ pieces) empty)

      load_on : (other : List Block) (rest : List (ℕ × Rec)) → SameBelow new.next file other → RestOf asked other new rest → RestOf asked other old rest
      load_on other rest same r = record {
        pieces = piece ∷ r.pieces;
        following = unranged other old.next (piece ∷ r.pieces) (following_on asked.revision None asked.end other old.next new.bytes r.pieces (block_in other same) some (omega arith)
            (subst (λ (n : ℕ). Following asked.revision None asked.end other n r.pieces) next_is (ranged other new.next r.pieces r.following)));
        are = are_same (in_hand new ∷ r.pieces) (in_hand old ∷ piece ∷ r.pieces) rest (taken_left r.pieces) r.are;
      }

      load_back : (other : List Block) (records : List (ℕ × Rec)) → SameBelow new.next file other → RestOf asked other old records → RestOf asked other new records
      load_back other records same r =
          let front = front_back asked.revision asked.end other old.next new.bytes r.pieces (block_in other same) some within (ranged other old.next r.pieces r.following) in
          record {
            pieces = front.0;
            following = unranged other new.next front.0 (subst (λ (n : ℕ). Following asked.revision None asked.end other n front.0) (sym next_is) front.2);
            are = are_same (in_hand old ∷ r.pieces) (in_hand new ∷ front.0) records (ap (λ (ps : List Piece). left (in_hand old ∷ ps)) front.1 ∙ sym (taken_left front.0)) r.are;
          }

      lifted_into : Lifts asked.revision file (in_hand new ∷ []) new.next (in_hand old ∷ []) old.next 1
      lifted_into = subst (λ (n : ℕ). Lifts asked.revision file (in_hand new ∷ []) n (in_hand old ∷ []) old.next 1) (sym next_is)
          (into asked.revision file old.next 1 new.bytes stands (in_hand old ∷ []) (in_hand new ∷ []) refl (λ pieces. taken_left pieces))

      pub scans_into : Scans asked file old new []
      scans_into = record {
        later = omega arith;
        on = load_on;
        back = λ other records same r. (records, refl, load_back other records same r);
        breaks = range_lifted asked.revision asked.end file (in_hand new ∷ []) new.next (in_hand old ∷ []) old.next 1 next_is lifted_into;
        heads = head_lifted asked.revision asked.end file (in_hand new ∷ []) new.next (in_hand old ∷ []) old.next 1 next_is lifted_into;
      }

    loaded : (test : Bool) → Loads asked file old.next new test → (new.bytes ≡ []) ⊎ (1 ≤ length new.bytes) → Scans asked file old new []
    loaded true loads (inl none_left) = scans_past none_left 1 new.bytes (stood old.next 1 new.bytes loads.1) (inr (refl, none_left))
    loaded true loads (inr some) = scans_into loads.0 some (stood old.next 1 new.bytes loads.1)
    loaded false loads any = let other = loads.1 in scans_past loads.0 other.0 other.1 (stood old.next other.0 other.1 other.3) (inl other.2)

    pub scans_loaded : (test : Bool) → Loads asked file old.next new test → Scans asked file old new []
    scans_loaded test loads = loaded test loads (some_or_none new.bytes)

  -- the next block isn't sealed
  pub breaks_unsealed : (place : Place) → place.bytes ≡ [] → place.next < asked.end → Unsealed asked file place.next → BreaksRest asked file place place.next
  breaks_unsealed place empty within unsealed = record {
    reached = inr (omega arith);
    behind = omega arith;
    within = omega arith;
    breaks = inl (
      0,
      omega arith,
      record { pieces = []; blocks = refl; records = []; precede = passed (in_hand place) [] empty },
      subst (λ (a : Asked). Unsealed a file place.next) asked_is unsealed,
    );
    broken = λ other records same r.
        let here = front asked.revision asked.end other place.next r.pieces (ranged other place.next r.pieces r.following) within in
        let stands = stands_other asked.revision other file (place.next + 1) place.next here.0 here.1 (omega arith) (same_back (place.next + 1) file other same) here.2.stands in
        unsealed here.0 here.1 (subst (λ (t : Option OpenBlock). Shows asked.revision t file place.next here.0 here.1) (sym none) stands);
  }

  -- a record
  module _ (old : Place) (first : 1 ≤ old.next) (some : 1 ≤ length old.bytes) where
    hand_left : (other : List Block) (pieces : List Piece) → Following asked.revision asked.tail asked.end other old.next pieces → left (in_hand old ∷ pieces) ≡ in_hand old ∷ pieces
    hand_left other pieces f = kept (in_hand old) pieces some ∙ ap (λ (ps : List Piece). in_hand old ∷ ps) (left_once other old.next pieces (ranged other old.next pieces f))

    stretched : (other : List Block) (records : List (ℕ × Rec)) → RestOf asked other old records
        → (r : Rec) × (rest : List (ℕ × Rec)) × (behind : List Piece) × (records ≡ (address_of (old.next - 1) old.offset, r) ∷ rest) × IsTrue (is_record r) × Stretch asked other old (record_bytes r) behind × AreRecords behind rest
    stretched other [] s =
        let empty : ◌≡◌ {A = List Piece} (in_hand old ∷ s.pieces) [] = sym (hand_left other s.pieces s.following) ∙ s.are in
        absurd cc
    stretched other ((address, r) ∷ rest) s =
        let all = hand_left other s.pieces s.following in
        let starts : address ≡ address_of (old.next - 1) old.offset = subst (λ (ps : List Piece). StartsAt address ps) all s.are.1 in (
          r,
          rest,
          s.are.2.0,
          ap (λ (a : ℕ). (a, r) ∷ rest) starts,
          s.are.0,
          record { pieces = s.pieces; following = s.following; spreads = subst (λ (ps : List Piece). Spreads (record_bytes r) ps s.are.2.0) all s.are.2.1 },
          s.are.2.2,
        )

    none_behind : (p : Piece) (pieces behind : List Piece) → Spreads [] (p ∷ pieces) behind → behind ≡ p ∷ pieces
    none_behind p pieces behind spreads = elim spreads [
      | inl here ↦ (let make : ℕ → List ℕ → List Piece = λ n b. record { block = p.block; offset = n; bytes = b } ∷ pieces in
          let at : p.offset + 0 ≡ p.offset = omega arith in
          here.2 ∙ ap (λ (n : ℕ). make n here.0) at ∙ ap (λ (b : List ℕ). make p.offset b) (sym here.1))
      | inr further ↦ absurd (further.2 (nothing p.bytes further.0 further.1))
    ]
      where
        nothing : (xs ys : List ℕ) → [] ≡ xs ++ ys → ys ≡ []
        nothing [] ys is = sym is
        nothing (x ∷ xs) ys is = absurd cc

    pub scans_record : (new : Place) (rec : Rec) → IsTrue (is_record rec) → TakesRecord asked file old new rec → Scans asked file old new ((address_of (old.next - 1) old.offset, rec) ∷ [])
    scans_record new rec is takes = record {
      later = takes.later;
      on = λ other rest same s.
          let there = takes.on other (in_hand new ∷ s.pieces) same (record { pieces = s.pieces; following = s.following; spreads = spreads_none (in_hand new) s.pieces }) in
          let all = hand_left other there.pieces there.following in
          record {
            pieces = there.pieces;
            following = there.following;
            are = (
              is,
              subst (λ (ps : List Piece). StartsAt (address_of (old.next - 1) old.offset) ps) (sym all) refl,
              (in_hand new ∷ s.pieces, subst (λ (ps : List Piece). Spreads (record_bytes rec) ps (in_hand new ∷ s.pieces)) (sym all) there.spreads, s.are),
            );
          };
      back = λ other records same s.
          let one = stretched other records s in
          let there = takes.back other one.0 one.2 same one.4 one.5 in
          let behind = none_behind (in_hand new) there.1.pieces one.2 there.1.spreads in (
            one.1,
            one.3 ∙ ap (λ (r : Rec). (address_of (old.next - 1) old.offset, r) ∷ one.1) there.0,
            record { pieces = there.1.pieces; following = there.1.following; are = subst (λ (ps : List Piece). AreRecords ps one.1) behind one.6 },
          );
      breaks = range_lifted asked.revision asked.end file (in_hand new ∷ []) new.next (in_hand old ∷ []) old.next (length takes.begins.more) (counted new rec takes) (over new rec is takes);
      heads = head_lifted asked.revision asked.end file (in_hand new ∷ []) new.next (in_hand old ∷ []) old.next (length takes.begins.more) (counted new rec takes) (over new rec is takes);
    }
      where
        counted : (new : Place) (rec : Rec) → (takes : TakesRecord asked file old new rec) → new.next ≡ old.next + length takes.begins.more
        counted new rec takes =
            let later = takes.later in
            let at = last_block asked file (record_bytes rec) (in_hand old) (in_hand new) takes.begins.more takes.begins.blocks takes.begins.spreads in
            omega arith

        over : (new : Place) (rec : Rec) → IsTrue (is_record rec) → (takes : TakesRecord asked file old new rec) → Lifts asked.revision file (in_hand new ∷ []) new.next (in_hand old ∷ []) old.next (length takes.begins.more)
        over new rec is takes =
            let later = takes.later in
            let start : old.next - 1 + 1 ≡ old.next = omega arith in
            subst (λ (n : ℕ). Lifts asked.revision file (in_hand new ∷ []) new.next (in_hand old ∷ []) n (length takes.begins.more)) start
            (over_record asked file (in_hand old) (in_hand new) rec new.next none some is takes.begins (omega arith))

    pub head_behind : old.next ≤ asked.end → HasHead asked file (in_hand old) → HasHeadBehind asked.revision asked.end file (in_hand old ∷ []) old.next
    head_behind within stands = record {
      count = 0;
      first = in_hand old;
      at = omega arith;
      within = omega arith;
      leads = record { pieces = []; blocks = refl; records = []; precede = kept (in_hand old) [] some };
      stands = subst (λ (a : Asked). HasHead a file (in_hand old)) asked_is stands;
    }

    pub breaks_record : (block : ℕ) → StopsRecord asked file old block → BreaksRest asked file old block
    breaks_record block stops = record {
      reached = inl some;
      behind = stops.reached;
      within = subst (λ (t : Option OpenBlock). IsWithin t asked.end (block + 1)) none stops.within;
      breaks = inr (
        0,
        in_hand old,
        omega arith,
        record { pieces = []; blocks = refl; records = []; precede = kept (in_hand old) [] some },
        subst (λ (a : Asked). BreaksAt a file (in_hand old) block) asked_is stops.breaks,
      );
      broken = λ other records same s.
          let one = stretched other records s in
          stops.broken other one.0 one.2 same one.4 one.5;
    }

  -- the range's start
  module _ (start : Place) (empty : start.bytes ≡ []) where
    start_left : (all : List Piece) → left all ≡ left (in_hand start ∷ left all)
    start_left all = sym (left_left all) ∙ sym (passed (in_hand start) (left all) empty)

    pub rest_start : (other : List Block) (records : List (ℕ × Rec)) → RecordsOf asked.revision other start.next (asked.end - start.next) records → RestOf asked other start records
    rest_start other records of = record {
      pieces = left of.pieces;
      following = unranged other start.next (left of.pieces) (of.pieces, of.blocks, refl);
      are = are_same of.pieces (in_hand start ∷ left of.pieces) records (start_left of.pieces) of.are;
    }

    start_rest : (other : List Block) (records : List (ℕ × Rec)) → RestOf asked other start records → RecordsOf asked.revision other start.next (asked.end - start.next) records
    start_rest other records s =
        let f = ranged other start.next s.pieces s.following in
        let same : left (in_hand start ∷ s.pieces) ≡ left f.0 = ap (λ (ps : List Piece). left (in_hand start ∷ ps)) f.2 ∙ sym (start_left f.0) in
        record { pieces = f.0; blocks = f.1; are = are_same (in_hand start ∷ s.pieces) f.0 records same s.are }

    nothing_in_hand : Lifts asked.revision file (in_hand start ∷ []) start.next [] start.next 0
    nothing_in_hand count all behind is leads =
        let counted : count ≡ all = omega arith in
        record {
          pieces = leads.pieces;
          blocks = subst (λ (n : ℕ). RecordBlocks asked.revision file start.next n leads.pieces) counted leads.blocks;
          records = leads.records;
          precede = precede_same (in_hand start ∷ leads.pieces) leads.pieces leads.records behind (passed (in_hand start) leads.pieces empty) leads.precede;
        }

    pub breaks_records : (now : Place) (done : List (ℕ × Rec)) (block : ℕ) → start.next ≤ now.next → (1 ≤ length now.bytes → start.next < now.next) → Scans asked file start now done → BreaksRest asked file now block → BreaksRecords asked.revision file start.next (asked.end - start.next) block
    breaks_records now done block later ready scans breaks =
        let low : start.next ≤ block = low_of now block later ready breaks.reached breaks.behind in
        let within = breaks.within in
        let end : asked.end ≡ start.next + (asked.end - start.next) = omega arith in
        let at : BreaksRange asked.revision (start.next + (asked.end - start.next)) file [] start.next block = subst (λ (n : ℕ). BreaksRange asked.revision n file [] start.next block) end (range_lifted asked.revision asked.end file (in_hand start ∷ []) start.next [] start.next 0 (omega arith) nothing_in_hand block (scans.breaks block breaks.breaks)) in
        record {
          asked = low;
          within = omega arith;
          sealed = range_there asked.revision (start.next + (asked.end - start.next)) file [] start.next block at;
          breaks = at;
          broken = λ other records same of.
              let back = scans.back other records (same_less now.next (block + 1) file other breaks.behind same) (rest_start other records of) in
              breaks.broken other back.0 same back.2;
        }
      where
        low_of : (now : Place) (block : ℕ) → start.next ≤ now.next → (1 ≤ length now.bytes → start.next < now.next) → (1 ≤ length now.bytes) ⊎ (now.next ≤ block) → now.next ≤ block + 1 → start.next ≤ block
        low_of now block later ready (inl some) behind = let higher : start.next < now.next = ready some in omega arith
        low_of now block later ready (inr le) behind = omega arith

    pub head_from : (now : Place) (done : List (ℕ × Rec)) → Scans asked file start now done → HasHeadBehind asked.revision asked.end file (in_hand now ∷ []) now.next → HasHeadBehind asked.revision asked.end file [] start.next
    head_from now done scans h = head_lifted asked.revision asked.end file (in_hand start ∷ []) start.next [] start.next 0 (omega arith) nothing_in_hand (scans.heads h)

    -- no records are left where there are none
    pub hand_none : (now : Place) (done : List (ℕ × Rec)) → Scans asked file start now done → RecordsOf asked.revision file start.next (asked.end - start.next) [] → length now.bytes ≡ 0
    hand_none now done scans of =
        let back = scans.back file [] refl (rest_start file [] of) in
        let none_left : back.0 ≡ [] = nil_rest done back.0 (sym back.1) in
        let s = subst (λ (l : List (ℕ × Rec)). RestOf asked file now l) none_left back.2 in
        elim (some_or_none now.bytes) [
          | inl empty_hand ↦ ap length empty_hand
          | inr some ↦ (let gone : ◌≡◌ {A = List Piece} (in_hand now ∷ left s.pieces) [] = sym (kept (in_hand now) s.pieces some) ∙ s.are in absurd cc)
        ]

    -- the range's end
    module _ (end : Place) (done : List (ℕ × Rec)) (scans : Scans asked file start end done) (nothing : end.bytes ≡ []) (past : asked.end ≤ end.next) where
      rest_end : RestOf asked file end []
      rest_end =
          let zero_left : 0 ≡ asked.end - end.next = omega arith in
          record {
            pieces = [];
            following = unranged file end.next [] ([], subst (λ (n : ℕ). RecordBlocks asked.revision file end.next n []) zero_left refl, refl);
            are = passed (in_hand end) [] nothing;
          }

      pub all_records : RecordsOf asked.revision file start.next (asked.end - start.next) done
      all_records = start_rest file done (subst (λ (l : List (ℕ × Rec)). RestOf asked file start l) (append-nil done) (scans.on file [] refl rest_end))

      end_none : (rest : List (ℕ × Rec)) → RestOf asked file end rest → rest ≡ []
      end_none [] s = refl
      end_none ((address, r) ∷ rest) s =
          let none_left : asked.end - end.next ≡ 0 = omega arith in
          let f = ranged file end.next s.pieces s.following in
          let blocks : f.0 ≡ [] = subst (λ (n : ℕ). RecordBlocks asked.revision file end.next n f.0) none_left f.1 in
          let pieces : s.pieces ≡ [] = f.2 ∙ ap left blocks in
          let all : left (in_hand end ∷ s.pieces) ≡ [] = ap (λ (ps : List Piece). left (in_hand end ∷ ps)) pieces ∙ passed (in_hand end) [] nothing in
          absurd (subst (λ (ps : List Piece). StartsAt address ps) all s.are.1)

      pub only_records : (records : List (ℕ × Rec)) → RecordsOf asked.revision file start.next (asked.end - start.next) records → records ≡ done
      only_records records of =
          let back = scans.back file records refl (rest_start file records of) in
          back.1 ∙ ap (λ (l : List (ℕ × Rec)). done ++ l) (end_none back.0 back.2) ∙ append-nil done
