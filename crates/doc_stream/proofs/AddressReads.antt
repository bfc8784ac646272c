-- The record at an address.
use Rattle.std.proofs.Common.{◌≡◌, ◌≢◌, ◌⊎◌, inl, inr, ℕ, ◌+◌, ◌-◌, ◌/◌, ◌%◌, ◌≤◌, ◌<◌, Bool, List, [], ◌∷◌, length, drop, Option, Some, IsTrue, Ok, Err, Result, refl, sym, ◌∙◌, ap, subst, arith}
use Rattle.block_host.specs.declared.block.Block.{Block}
use Rattle.forest_model.specs.declared.refusal.Refusal.{Refusal}
use Rattle.forest_model.specs.declared.stored.Rec.{Rec}
use Rattle.doc_stream.specs.Causes.{BreaksRecord, Cause, Missing, Reason, longest_run}
use Rattle.doc_stream.specs.Broken.{BreaksAddress, BreaksAt}
use Rattle.doc_stream.specs.OpenBlock.{OpenBlock}
use Rattle.doc_stream.specs.Reading.{RecordAt, AreHeld, IsInside, from_offset}
use Rattle.forest_model.specs.Records.{record_bytes, is_record}
use Rattle.doc_stream.specs.Runs.{Piece, Spreads}
use Rattle.doc_stream.specs.Scans.{StartsFrom}
use Rattle.doc_stream.specs.Shown.{Asked, Shows, Unsealed, AreSealed, open_file}
use Rattle.doc_stream.specs.Steps.{Place, in_hand, Following, SameBelow, Stretch, TakesRecord, StopsRecord, IsNear}
use Rattle.doc_stream.proofs.Blocks.{same_less, same_back, shows_other, shows_once, held_shown, shows_held}
use Rattle.doc_stream.proofs.Before.{address_there}
use Rattle.doc_stream.proofs.Steps.{spreads_none}

-- what is asked has an open block
module _ (asked : Asked) (tail : OpenBlock) (open_is : asked.tail ≡ Some tail) (end_is : asked.end ≡ 0) (file : List Block) (address : ℕ) where
  asked_is : asked ≡ open_file asked.revision tail
  asked_is =
      let make : Option OpenBlock → ℕ → Asked = λ t e. record { revision = asked.revision; tail = t; end = e } in
      ap (λ (t : Option OpenBlock). make t asked.end) open_is ∙ ap (λ (e : ℕ). make (Some tail) e) end_is

  of_open : (block : ℕ) → BreaksAddress asked file address block → BreaksAddress (open_file asked.revision tail) file address block
  of_open block breaks = subst (λ (a : Asked). BreaksAddress a file address block) asked_is breaks

  none_before : AreSealed (open_file asked.revision tail) file (address / 4096) (address / 4096)
  none_before at ge lt = absurd (omega arith)

  held : (other : List Block) (at : ℕ) (pieces : List Piece) → Following asked.revision asked.tail asked.end other at pieces → AreHeld asked.revision other tail at pieces
  held other at pieces f = subst (λ (t : Option OpenBlock). Following asked.revision t asked.end other at pieces) open_is f

  following : (other : List Block) (at : ℕ) (pieces : List Piece) → AreHeld asked.revision other tail at pieces → Following asked.revision asked.tail asked.end other at pieces
  following other at pieces f = subst (λ (t : Option OpenBlock). Following asked.revision t asked.end other at pieces) (sym open_is) f

  -- the block in which a record begins
  first_block : (other : List Block) (pieces : List Piece) (bytes : List ℕ) (behind : List Piece) → AreHeld asked.revision other tail (address / 4096) pieces → IsInside (address % 4096) pieces → Spreads bytes (from_offset (address % 4096) pieces) behind
      → (payload : List ℕ) × (rest : List Piece) × Shows asked.revision asked.tail other (address / 4096) 1 payload × (address % 4096 < length payload) × AreHeld asked.revision other tail (address / 4096 + 1) rest
      × Spreads bytes (record { block = address / 4096; offset = address % 4096; bytes = drop (address % 4096) payload } ∷ rest) behind
  first_block other [] bytes behind h inside spreads = absurd inside
  first_block other (q ∷ rest) bytes behind h inside spreads = (
    q.bytes,
    rest,
    subst (λ (t : Option OpenBlock). Shows asked.revision t other (address / 4096) 1 q.bytes) (sym open_is) (shows_held asked.revision other tail (address / 4096) q.bytes h.2),
    inside,
    h.3,
    subst (λ (n : ℕ). Spreads bytes (record { block = n; offset = address % 4096; bytes = drop (address % 4096) q.bytes } ∷ rest) behind) h.0 spreads,
  )

  first_of : (other : List Block) (r : Rec) → (at : RecordAt asked.revision other tail address r) → (payload : List ℕ) × (rest : List Piece) × Shows asked.revision asked.tail other (address / 4096) 1 payload × (address % 4096 < length payload) × AreHeld asked.revision other tail (address / 4096 + 1) rest
      × Spreads (record_bytes r) (record { block = address / 4096; offset = address % 4096; bytes = drop (address % 4096) payload } ∷ rest) at.behind
  first_of other r at = first_block other at.pieces (record_bytes r) at.behind at.held at.inside at.spreads

  -- it is neither open nor sealed
  pub breaks_unsealed : Unsealed asked file (address / 4096) → BreaksRecord asked.revision file tail address (address / 4096)
  breaks_unsealed unsealed = record {
    asked = omega arith;
    within = omega arith;
    sealed = none_before;
    breaks = of_open (address / 4096) (inl (refl, unsealed));
    broken = λ other r same at.
        let first = first_of other r at in
        unsealed 1 first.0 (shows_other asked.revision asked.tail other file (address / 4096 + 1) (address / 4096) 1 first.0 (omega arith) (same_back (address / 4096 + 1) file other same) first.2);
  }

  -- it has no records
  pub breaks_other : (kind : ℕ) (payload : List ℕ) → kind ≢ 1 → Shows asked.revision asked.tail file (address / 4096) kind payload → BreaksRecord asked.revision file tail address (address / 4096)
  breaks_other kind payload not shows = record {
    asked = omega arith;
    within = omega arith;
    sealed = none_before;
    breaks = of_open (address / 4096) (inr (inl (refl, (kind, payload, inl not, shows))));
    broken = λ other r same at.
        let first = first_of other r at in
        let there = shows_other asked.revision asked.tail file other (address / 4096 + 1) (address / 4096) kind payload (omega arith) same shows in
        not (shows_once asked.revision asked.tail other (address / 4096) kind 1 payload first.0 there first.2).0;
  }

  -- it has too few bytes
  pub breaks_short : (payload : List ℕ) → length payload ≤ address % 4096 → Shows asked.revision asked.tail file (address / 4096) 1 payload → BreaksRecord asked.revision file tail address (address / 4096)
  breaks_short payload short shows = record {
    asked = omega arith;
    within = omega arith;
    sealed = none_before;
    breaks = of_open (address / 4096) (inr (inl (refl, (1, payload, inr short, shows))));
    broken = λ other r same at.
        let first = first_of other r at in
        let there = shows_other asked.revision asked.tail file other (address / 4096 + 1) (address / 4096) 1 payload (omega arith) same shows in
        let is : length payload ≡ length first.0 = ap length (shows_once asked.revision asked.tail other (address / 4096) 1 1 payload first.0 there first.2).1 in
        let inside = first.3 in
        absurd (omega arith);
  }

  -- it has the address's byte
  module _ (place : Place) (payload : List ℕ) (next : place.next ≡ address / 4096 + 1) (offset : place.offset ≡ address % 4096) (bytes : place.bytes ≡ drop (address % 4096) payload) (inside : address % 4096 < length payload)
      (shows : Shows asked.revision asked.tail file (address / 4096) 1 payload) where
    abbrev first_piece : Piece
    first_piece = record { block = address / 4096; offset = address % 4096; bytes = drop (address % 4096) payload }

    pub hand_is : in_hand place ≡ first_piece
    hand_is =
        let make : ℕ → ℕ → List ℕ → Piece = λ a b d. record { block = a; offset = b; bytes = d } in
        let block : place.next - 1 ≡ address / 4096 = omega arith in
        ap (λ (a : ℕ). make a place.offset place.bytes) block ∙ ap (λ (b : ℕ). make (address / 4096) b place.bytes) offset ∙ ap (λ (d : List ℕ). make (address / 4096) (address % 4096) d) bytes

    there_in : (other : List Block) → SameBelow place.next file other → Shows asked.revision asked.tail other (address / 4096) 1 payload
    there_in other same = shows_other asked.revision asked.tail file other place.next (address / 4096) 1 payload (omega arith) same shows

    starts_on : (other : List Block) (r : Rec) (behind : List Piece) → SameBelow place.next file other → IsTrue (is_record r) → Stretch asked other place (record_bytes r) behind → RecordAt asked.revision other tail address r
    starts_on other r behind same is s =
        let q : Piece = record { block = address / 4096; offset = 0; bytes = payload } in
        let there = subst (λ (t : Option OpenBlock). Shows asked.revision t other (address / 4096) 1 payload) open_is (there_in other same) in
        record {
          is_record = is;
          pieces = q ∷ s.pieces;
          behind = behind;
          held = (refl, refl, held_shown asked.revision other tail (address / 4096) payload there, subst (λ (n : ℕ). AreHeld asked.revision other tail n s.pieces) next (held other place.next s.pieces s.following));
          inside = inside;
          spreads = subst (λ (p : Piece). Spreads (record_bytes r) (p ∷ s.pieces) behind) hand_is s.spreads;
        }

    starts_back : (other : List Block) (r : Rec) → SameBelow place.next file other → RecordAt asked.revision other tail address r → (behind : List Piece) × Stretch asked other place (record_bytes r) behind
    starts_back other r same at =
        let first = first_of other r at in
        let is : first.0 ≡ payload = (shows_once asked.revision asked.tail other (address / 4096) 1 1 first.0 payload first.2 (there_in other same)).1 in
        let spreads : Spreads (record_bytes r) (first_piece ∷ first.1) at.behind = subst (λ (p : List ℕ). Spreads (record_bytes r) (record { block = address / 4096; offset = address % 4096; bytes = drop (address % 4096) p } ∷ first.1) at.behind) is first.5 in (
          at.behind,
          record {
            pieces = first.1;
            following = subst (λ (n : ℕ). Following asked.revision asked.tail asked.end other n first.1) (sym next) (following other (address / 4096 + 1) first.1 first.4);
            spreads = subst (λ (p : Piece). Spreads (record_bytes r) (p ∷ first.1) at.behind) (sym hand_is) spreads;
          },
        )

    pub starts_from : StartsFrom asked file tail address place
    starts_from = record {
      next = next;
      breaks = λ block breaks. inr (inr (payload, inside, shows, subst (λ (p : Piece). BreaksAt asked file p block) hand_is breaks));
      on = starts_on;
      back = starts_back;
    }

  -- the record is read from there
  module _ (place : Place) (starts : StartsFrom asked file tail address place) where
    pub breaks_record : (block : ℕ) → place.offset < 4064 → IsNear asked place 1052355 block → StopsRecord asked file place block → BreaksRecord asked.revision file tail address block
    breaks_record block offset near stops =
        let reached = stops.reached in
        let close = near.near in
        let next = starts.next in
        let at = of_open block (starts.breaks block stops.breaks) in
        record {
          asked = omega arith;
          within = omega arith;
          sealed = address_there (open_file asked.revision tail) file address block at;
          breaks = at;
          broken = λ other r same at.
              let s = starts.back other r (same_less place.next (block + 1) file other reached same) at in
              stops.broken other r s.0 same at.is_record s.1;
        }

    module _ (new : Place) (rec : Rec) (takes : TakesRecord asked file place new rec) where
      pub is_at : IsTrue (is_record rec) → RecordAt asked.revision file tail address rec
      is_at is =
          let hand : Stretch asked file new [] (in_hand new ∷ []) = record { pieces = []; following = following file new.next [] tt; spreads = spreads_none (in_hand new) [] } in
          starts.on file rec (in_hand new ∷ []) refl is (takes.on file (in_hand new ∷ []) refl hand)

      pub only_at : (r : Rec) → RecordAt asked.revision file tail address r → r ≡ rec
      only_at r at =
          let s = starts.back file r refl at in
          (takes.back file r s.0 refl at.is_record s.1).0

-- what a reader may name at an address lies in what a record can reach
pub near_address : (asked : Asked) (address : ℕ) (place : Place) (block : ℕ) → place.next ≡ address / 4096 + 1 → place.offset < 4064 → IsNear asked place 1052355 block → (address / 4096 ≤ block) × (block ≤ address / 4096 + longest_run)
near_address asked address place block next offset near =
    let reached = near.reached in
    let close = near.near in
    (omega arith, omega arith)

-- the block that a cause names
pub cause_asked : (tells : Bool) (revision : ℕ) (Lies Breaks : ℕ → Type 0) (before after : ℕ) (why : Refusal) (file block : ℕ) → why ≡ Refusal.Damaged file block → Cause tells revision Lies Breaks before after why → (file ≡ revision) × Lies block
cause_asked tells revision Lies Breaks before after why file block is (inl memory) =
    let both : Refusal.NoMemory ≡ Refusal.Damaged file block = sym memory ∙ is in
    absurd cc
cause_asked tells revision Lies Breaks before after why file block is (inr (inl fault)) =
    let both : Refusal.DiskFault ≡ Refusal.Damaged file block = sym fault.0 ∙ is in
    absurd cc
cause_asked tells revision Lies Breaks before after why file block is (inr (inr damaged)) =
    let both : Refusal.Damaged revision damaged.0 ≡ Refusal.Damaged file block = sym damaged.1 ∙ is in
    let same_file : revision ≡ file = cc in
    let same : damaged.0 ≡ block = cc in
    (sym same_file, subst (λ (n : ℕ). Lies n) same damaged.2)

pub missing_asked : (tells : Bool) (revision at : ℕ) (Gone : Type 0) (before after : ℕ) (why : Refusal) (file block : ℕ) → why ≡ Refusal.Damaged file block → Missing tells revision at Gone before after why → (file ≡ revision) × (block ≡ at)
missing_asked tells revision at Gone before after why file block is (inl fault) =
    let both : Refusal.DiskFault ≡ Refusal.Damaged file block = sym fault.0 ∙ is in
    absurd cc
missing_asked tells revision at Gone before after why file block is (inr damaged) =
    let both : Refusal.Damaged revision at ≡ Refusal.Damaged file block = sym damaged.0 ∙ is in
    let same_file : revision ≡ file = cc in
    let same : at ≡ block = cc in
    (sym same_file, sym same)

pub missing_why : (tells : Bool) (revision at : ℕ) (Gone : Type 0) (before after : ℕ) (why : Refusal) → Missing tells revision at Gone before after why → (why ≡ Refusal.DiskFault) ⊎ (why ≡ Refusal.Damaged revision at)
missing_why tells revision at Gone before after why (inl fault) = inl fault.0
missing_why tells revision at Gone before after why (inr damaged) = inr damaged.0

-- a refusal where nothing is broken
pub refused : {T : Type 0} (tells : Bool) (revision : ℕ) (Breaks : ℕ → Type 0) (before after : ℕ) (why : Refusal) (result : Result T Refusal) (x : T) → result ≡ Err why → IsTrue tells → ((block : ℕ) → Breaks block → ⊥)
    → Reason tells revision Breaks before after why → (result ≡ Ok x) ⊎ ((result ≡ Err Refusal.NoMemory) ⊎ (result ≡ Err Refusal.DiskFault))
refused tells revision Breaks before after why result x is told never (inl memory) = inr (inl (is ∙ ap Err memory))
refused tells revision Breaks before after why result x is told never (inr (inl fault)) = inr (inr (is ∙ ap Err fault.0))
refused tells revision Breaks before after why result x is told never (inr (inr damaged)) = absurd (never damaged.0 (damaged.2 told))
