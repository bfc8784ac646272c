-- The record blocks from a block on, one by one.
use Rattle.std.proofs.Common.{◌≡◌, ◌≢◌, ◌⊎◌, inl, inr, ℕ, zero, suc, ◌+◌, ◌-◌, ◌<◌, ◌≤◌, true, false, not, List, [], ◌∷◌, length, take, slice_get, Option, Some, None, refl, sym, ◌∙◌, ap, subst, arith}
use Rattle.std.proofs.lemmas.List.{take-take}
use Rattle.std.proofs.lemmas.Option.{same_Some}
use Rattle.block_host.specs.Sealed.{IsSealed}
use Rattle.block_host.specs.declared.block.Block.{Block}
use Rattle.block_host.proofs.Back.{kind_back, used_back, payload_back}
use Rattle.doc_stream.specs.OpenBlock.{OpenBlock}
use Rattle.forest_model.specs.Records.{is_empty}
use Rattle.doc_stream.specs.Runs.{Piece, RecordBlocks, Follows, left}
use Rattle.doc_stream.specs.Reading.{Holds, AreHeld}
use Rattle.doc_stream.specs.Shown.{Stands, Shows}
use Rattle.doc_stream.specs.Steps.{Following, IsWithin, SameBelow}

pub same_less : (m n : ℕ) (file other : List Block) → m ≤ n → SameBelow n file other → SameBelow m file other
same_less m n file other le same = sym (take-take m n other le) ∙ ap (λ (b : List Block). take m b) same ∙ take-take m n file le

pub same_back : (n : ℕ) (file other : List Block) → SameBelow n file other → SameBelow n other file
same_back n file other same = sym same

slice_get_take : (xs : List Block) (n i : ℕ) → i < n → slice_get (take n xs) i ≡ slice_get xs i
slice_get_take [] zero i lt = absurd (omega arith)
slice_get_take [] (suc n) i lt = refl
slice_get_take (x ∷ xs) zero i lt = absurd (omega arith)
slice_get_take (x ∷ xs) (suc n) zero lt = refl
slice_get_take (x ∷ xs) (suc n) (suc i) lt = slice_get_take xs n i (omega arith)

pub get_same : (at n : ℕ) (file other : List Block) → at < n → SameBelow n file other → slice_get other at ≡ slice_get file at
get_same at n file other lt same = sym (slice_get_take other n at lt) ∙ ap (λ (b : List Block). slice_get b at) same ∙ slice_get_take file n at lt

pub stands_other : (revision : ℕ) (file other : List Block) (n at kind : ℕ) (payload : List ℕ) → at < n → SameBelow n file other → Stands revision file at kind payload → Stands revision other at kind payload
stands_other revision file other n at kind payload lt same s = record { block = s.block; there = get_same at n file other lt same ∙ s.there; sealed = s.sealed }

pub shows_other : (revision : ℕ) (tail : Option OpenBlock) (file other : List Block) (n at kind : ℕ) (payload : List ℕ) → at < n → SameBelow n file other → Shows revision tail file at kind payload → Shows revision tail other at kind payload
shows_other revision None file other n at kind payload lt same s = stands_other revision file other n at kind payload lt same s
shows_other revision (Some tail) file other n at kind payload lt same (inl s) = inl s
shows_other revision (Some tail) file other n at kind payload lt same (inr s) = inr (s.0, stands_other revision file other n at kind payload lt same s.1)

-- a block is read in one way
pub stands_once : (revision : ℕ) (file : List Block) (at kind kind' : ℕ) (payload payload' : List ℕ) → Stands revision file at kind payload → Stands revision file at kind' payload' → (kind ≡ kind') × (payload ≡ payload')
stands_once revision file at kind kind' payload payload' a b =
    let same : a.block ≡ b.block = same_Some a.block b.block (sym a.there ∙ b.there) in
    let sealed : IsSealed revision at kind' payload' a.block = subst (λ (x : Block). IsSealed revision at kind' payload' x) (sym same) b.sealed in
    let used : length payload ≡ length payload' = sym (used_back revision at kind payload a.block a.sealed) ∙ used_back revision at kind' payload' a.block sealed in (
      sym (kind_back revision at kind payload a.block a.sealed) ∙ kind_back revision at kind' payload' a.block sealed,
      sym (payload_back revision at kind payload a.block a.sealed) ∙ ap (λ (n : ℕ). take n a.block.bytes) used ∙ payload_back revision at kind' payload' a.block sealed,
    )

pub shows_once : (revision : ℕ) (tail : Option OpenBlock) (file : List Block) (at kind kind' : ℕ) (payload payload' : List ℕ) → Shows revision tail file at kind payload → Shows revision tail file at kind' payload' → (kind ≡ kind') × (payload ≡ payload')
shows_once revision None file at kind kind' payload payload' a b = stands_once revision file at kind kind' payload payload' a b
shows_once revision (Some tail) file at kind kind' payload payload' (inl a) (inl b) = (a.1 ∙ sym b.1, a.2 ∙ sym b.2)
shows_once revision (Some tail) file at kind kind' payload payload' (inl a) (inr b) = absurd (b.0 a.0)
shows_once revision (Some tail) file at kind kind' payload payload' (inr a) (inl b) = absurd (a.0 b.0)
shows_once revision (Some tail) file at kind kind' payload payload' (inr a) (inr b) = stands_once revision file at kind kind' payload payload' a.1 b.1

-- pieces with bytes and without
pub some_or_none : (bytes : List ℕ) → (bytes ≡ []) ⊎ (1 ≤ length bytes)
some_or_none [] = inl refl
some_or_none (x ∷ bytes) = inr (omega arith)

pub kept : (p : Piece) (rest : List Piece) → 1 ≤ length p.bytes → left (p ∷ rest) ≡ p ∷ left rest
kept p rest some =
    let yes : not (is_empty p.bytes) ≡ true = grind arith in
    rw yes refl

pub passed : (p : Piece) (rest : List Piece) → p.bytes ≡ [] → left (p ∷ rest) ≡ left rest
passed p rest none =
    let no : not (is_empty p.bytes) ≡ false = ap (λ (b : List ℕ). not (is_empty b)) none in
    rw no refl

left_next : (p : Piece) (rest : List Piece) → left (left rest) ≡ left rest → (p.bytes ≡ []) ⊎ (1 ≤ length p.bytes) → left (left (p ∷ rest)) ≡ left (p ∷ rest)
left_next p rest again (inl none) = ap left (passed p rest none) ∙ again ∙ sym (passed p rest none)
left_next p rest again (inr some) = ap left (kept p rest some) ∙ kept p (left rest) some ∙ ap (λ (ps : List Piece). p ∷ ps) again ∙ sym (kept p rest some)

pub left_left : (pieces : List Piece) → left (left pieces) ≡ left pieces
left_left [] = refl
left_left (p ∷ rest) = left_next p rest (left_left rest) (some_or_none p.bytes)

-- the first of what is left lies no lower
first_next : (at : ℕ) (payload : List ℕ) (rest : List Piece) (q : Piece) (behind : List Piece) → left (record { block = at; offset = 0; bytes = payload } ∷ rest) ≡ q ∷ behind → (payload ≡ []) ⊎ (1 ≤ length payload) → (at ≡ q.block) ⊎ (left rest ≡ q ∷ behind)
first_next at payload rest q behind is (inl none) = inr (sym (passed (record { block = at; offset = 0; bytes = payload }) rest none) ∙ is)
first_next at payload rest q behind is (inr some) =
    let same : record { block = at; offset = 0; bytes = payload } ∷ left rest ≡ q ∷ behind = sym (kept (record { block = at; offset = 0; bytes = payload }) rest some) ∙ is in
    let first : ◌≡◌ {A = Piece} (record { block = at; offset = 0; bytes = payload }) q = cc in
    inl (ap (λ (p : Piece). p.block) first)

first_in : (revision : ℕ) (file : List Block) (more at : ℕ) (all : List Piece) (q : Piece) (behind : List Piece) (kind : ℕ) (payload : List ℕ)
    → ((later : List Piece) → RecordBlocks revision file (at + 1) more later → left later ≡ q ∷ behind → at + 1 ≤ q.block) → left all ≡ q ∷ behind
    → ((kind ≡ 1) × (rest : List Piece) × (all ≡ record { block = at; offset = 0; bytes = payload } ∷ rest) × RecordBlocks revision file (at + 1) more rest) ⊎ ((kind ≢ 1) × RecordBlocks revision file (at + 1) more all)
    → at ≤ q.block
first_in revision file more at all q behind kind payload further is (inl here) =
    elim (first_next at payload here.1 q behind (ap left (sym here.2) ∙ is) (some_or_none payload)) [
      | inl same ↦ omega arith
      | inr later ↦ (let higher : at + 1 ≤ q.block = further here.1 here.3 later in omega arith)
    ]
first_in revision file more at all q behind kind payload further is (inr other) =
    let higher : at + 1 ≤ q.block = further all other.1 is in
    omega arith

pub first_at_least : (revision : ℕ) (file : List Block) (more at : ℕ) (all : List Piece) (q : Piece) (behind : List Piece) → RecordBlocks revision file at more all → left all ≡ q ∷ behind → at ≤ q.block
first_at_least revision file zero at all q behind blocks is =
    let none : ◌≡◌ {A = List Piece} [] (q ∷ behind) = ap left (sym blocks) ∙ is in
    absurd cc
first_at_least revision file (suc more) at all q behind blocks is =
    first_in revision file more at all q behind blocks.1 blocks.2 (λ later later_blocks later_is. first_at_least revision file more (at + 1) later q behind later_blocks later_is) is blocks.5

-- the block at the front of a range, and what follows it
pub record Front (revision end : ℕ) (file : List Block) (at : ℕ) (pieces : List Piece) (kind : ℕ) (payload : List ℕ) : Type 0 where
  pub stands : Stands revision file at kind payload
  pub follows : ((kind ≡ 1) × (1 ≤ length payload) × (rest : List Piece) × (pieces ≡ record { block = at; offset = 0; bytes = payload } ∷ rest) × Following revision None end file (at + 1) rest)
      ⊎ (((kind ≢ 1) ⊎ (payload ≡ [])) × Following revision None end file (at + 1) pieces)

front_of : (revision end : ℕ) (file : List Block) (at more : ℕ) (all pieces : List Piece) (kind : ℕ) (payload : List ℕ) → end - (at + 1) ≡ more → pieces ≡ left all → Stands revision file at kind payload
    → ((kind ≡ 1) × (rest : List Piece) × (all ≡ record { block = at; offset = 0; bytes = payload } ∷ rest) × RecordBlocks revision file (at + 1) more rest) ⊎ ((kind ≢ 1) × RecordBlocks revision file (at + 1) more all)
    → (payload ≡ []) ⊎ (1 ≤ length payload) → Front revision end file at pieces kind payload
front_of revision end file at more all pieces kind payload count is stands (inr other) any =
    record { stands = stands; follows = inr (inl other.0, (all, subst (λ (n : ℕ). RecordBlocks revision file (at + 1) n all) (sym count) other.1, is)) }
front_of revision end file at more all pieces kind payload count is stands (inl here) (inl none) =
    let p : Piece = record { block = at; offset = 0; bytes = payload } in
    record { stands = stands; follows = inr (inr none, (here.1, subst (λ (n : ℕ). RecordBlocks revision file (at + 1) n here.1) (sym count) here.3, is ∙ ap left here.2 ∙ passed p here.1 none)) }
front_of revision end file at more all pieces kind payload count is stands (inl here) (inr some) =
    let p : Piece = record { block = at; offset = 0; bytes = payload } in
    record { stands = stands; follows = inl (here.0, some, left here.1, is ∙ ap left here.2 ∙ kept p here.1 some, (here.1, subst (λ (n : ℕ). RecordBlocks revision file (at + 1) n here.1) (sym count) here.3, refl)) }

pub front : (revision end : ℕ) (file : List Block) (at : ℕ) (pieces : List Piece) → Following revision None end file at pieces → at < end → (kind : ℕ) × (payload : List ℕ) × Front revision end file at pieces kind payload
front revision end file at pieces f lt =
    let count : end - at ≡ suc (end - (at + 1)) = omega arith in
    let blocks : RecordBlocks revision file at (suc (end - (at + 1))) f.0 = subst (λ (n : ℕ). RecordBlocks revision file at n f.0) count f.1 in
    (blocks.1, blocks.2, front_of revision end file at (end - (at + 1)) f.0 pieces blocks.1 blocks.2 refl f.2 (record { block = blocks.0; there = blocks.3; sealed = blocks.4 }) blocks.5 (some_or_none blocks.2))

-- a block that is passed over
pub pass_on : (revision end : ℕ) (file : List Block) (at : ℕ) (pieces : List Piece) (kind : ℕ) (payload : List ℕ) → at < end → Stands revision file at kind payload → (kind ≢ 1) ⊎ ((kind ≡ 1) × (payload ≡ [])) → Following revision None end file (at + 1) pieces → Following revision None end file at pieces
pass_on revision end file at pieces kind payload lt s (inl other) f =
    let count : suc (end - (at + 1)) ≡ end - at = omega arith in
    let blocks : RecordBlocks revision file at (suc (end - (at + 1))) f.0 = (s.block, kind, payload, s.there, s.sealed, inr (other, f.1)) in
    (f.0, subst (λ (n : ℕ). RecordBlocks revision file at n f.0) count blocks, f.2)
pass_on revision end file at pieces kind payload lt s (inr none) f =
    let p : Piece = record { block = at; offset = 0; bytes = payload } in
    let count : suc (end - (at + 1)) ≡ end - at = omega arith in
    let blocks : RecordBlocks revision file at (suc (end - (at + 1))) (p ∷ f.0) = (s.block, kind, payload, s.there, s.sealed, inl (none.0, f.0, refl, f.1)) in
    (p ∷ f.0, subst (λ (n : ℕ). RecordBlocks revision file at n (p ∷ f.0)) count blocks, f.2 ∙ sym (passed p f.0 none.1))

passes : (revision end : ℕ) (file : List Block) (at : ℕ) (pieces : List Piece) (kind kind' : ℕ) (payload payload' : List ℕ) → (kind' ≡ kind) × (payload' ≡ payload) → (kind ≢ 1) ⊎ ((kind ≡ 1) × (payload ≡ []))
    → ((kind' ≡ 1) × (1 ≤ length payload') × (rest : List Piece) × (pieces ≡ record { block = at; offset = 0; bytes = payload' } ∷ rest) × Following revision None end file (at + 1) rest)
    ⊎ (((kind' ≢ 1) ⊎ (payload' ≡ [])) × Following revision None end file (at + 1) pieces)
    → Following revision None end file (at + 1) pieces
passes revision end file at pieces kind kind' payload payload' same why (inr f) = f.1
passes revision end file at pieces kind kind' payload payload' same (inl other) (inl here) = absurd (other (sym same.0 ∙ here.0))
passes revision end file at pieces kind kind' payload payload' same (inr none) (inl here) =
    let empty : length payload' ≡ 0 = ap length (same.1 ∙ none.1) in
    let some : 1 ≤ length payload' = here.1 in
    absurd (omega arith)

pub pass_back : (revision end : ℕ) (file : List Block) (at : ℕ) (pieces : List Piece) (kind : ℕ) (payload : List ℕ) → at < end → Stands revision file at kind payload → (kind ≢ 1) ⊎ ((kind ≡ 1) × (payload ≡ [])) → Following revision None end file at pieces → Following revision None end file (at + 1) pieces
pass_back revision end file at pieces kind payload lt s why f =
    let here = front revision end file at pieces f lt in
    passes revision end file at pieces kind here.0 payload here.1 (stands_once revision file at here.0 kind here.1 payload here.2.stands s) why here.2.follows

-- what comes next in pieces
pub record Next (revision : ℕ) (tail : Option OpenBlock) (end : ℕ) (file : List Block) (at : ℕ) (pieces : List Piece) : Type 0 where
  pub payload : List ℕ
  pub rest : List Piece
  pub shows : Shows revision tail file at 1 payload
  pub is : pieces ≡ record { block = at; offset = 0; bytes = payload } ∷ rest
  pub within : IsWithin tail end (at + 1)
  pub following : Following revision tail end file (at + 1) rest

next_front : (revision end : ℕ) (file : List Block) (at : ℕ) (q : Piece) (rest : List Piece) (kind : ℕ) (payload : List ℕ) → q.block ≡ at → at < end → Front revision end file at (q ∷ rest) kind payload
    → ((kind ≡ 1) × (1 ≤ length payload) × (behind : List Piece) × (q ∷ rest ≡ record { block = at; offset = 0; bytes = payload } ∷ behind) × Following revision None end file (at + 1) behind)
    ⊎ (((kind ≢ 1) ⊎ (payload ≡ [])) × Following revision None end file (at + 1) (q ∷ rest))
    → Next revision None end file at (q ∷ rest)
next_front revision end file at q rest kind payload low lt f (inl here) = record {
  payload = payload;
  rest = here.2;
  shows = subst (λ (k : ℕ). Stands revision file at k payload) here.0 f.stands;
  is = here.3;
  within = omega arith;
  following = here.4;
}
next_front revision end file at q rest kind payload low lt f (inr other) =
    let g = other.1 in
    let higher : at + 1 ≤ q.block = first_at_least revision file (end - (at + 1)) (at + 1) g.0 q rest g.1 (sym g.2) in
    absurd (omega arith)

next_range : (revision end : ℕ) (file : List Block) (at : ℕ) (q : Piece) (rest : List Piece) → Following revision None end file at (q ∷ rest) → q.block ≡ at → (at < end) ⊎ (end ≤ at) → Next revision None end file at (q ∷ rest)
next_range revision end file at q rest f low (inl lt) =
    let here = front revision end file at (q ∷ rest) f lt in
    next_front revision end file at q rest here.0 here.1 low lt here.2 here.2.follows
next_range revision end file at q rest f low (inr le) =
    let none : end - at ≡ 0 = omega arith in
    let blocks : f.0 ≡ [] = subst (λ (n : ℕ). RecordBlocks revision file at n f.0) none f.1 in
    let empty : ◌≡◌ {A = List Piece} (q ∷ rest) [] = f.2 ∙ ap left blocks in
    absurd cc

same_piece : (q : Piece) (at : ℕ) → q.block ≡ at → q.offset ≡ 0 → q ≡ record { block = at; offset = 0; bytes = q.bytes }
same_piece q at block offset =
    let piece : ℕ → ℕ → Piece = λ a b. record { block = a; offset = b; bytes = q.bytes } in
    ap (λ (a : ℕ). piece a q.offset) block ∙ ap (λ (b : ℕ). piece at b) offset

pub shows_held : (revision : ℕ) (file : List Block) (tail : OpenBlock) (at : ℕ) (bytes : List ℕ) → Holds revision file tail at bytes → Shows revision (Some tail) file at 1 bytes
shows_held revision file tail at bytes (inl here) = inl (here.0, refl, here.1)
shows_held revision file tail at bytes (inr there) = inr (there.0, record { block = there.1; there = there.2; sealed = there.3 })

pub held_shown : (revision : ℕ) (file : List Block) (tail : OpenBlock) (at : ℕ) (bytes : List ℕ) → Shows revision (Some tail) file at 1 bytes → Holds revision file tail at bytes
held_shown revision file tail at bytes (inl here) = inl (here.0, here.2)
held_shown revision file tail at bytes (inr there) = inr (there.0, there.1.block, there.1.there, there.1.sealed)

pub lt_or_le : (a b : ℕ) → (a < b) ⊎ (b ≤ a)
lt_or_le zero zero = inr (omega arith)
lt_or_le zero (suc b) = inl (omega arith)
lt_or_le (suc a) zero = inr (omega arith)
lt_or_le (suc a) (suc b) = elim (lt_or_le a b) [
  | inl lt ↦ inl (omega arith)
  | inr le ↦ inr (omega arith)
]

-- the first piece of what an open block's file holds
pub next_held : (revision : ℕ) (tail : OpenBlock) (end : ℕ) (file : List Block) (at : ℕ) (q : Piece) (rest : List Piece) → AreHeld revision file tail at (q ∷ rest) → Next revision (Some tail) end file at (q ∷ rest)
next_held revision tail end file at q rest f = record {
  payload = q.bytes;
  rest = rest;
  shows = shows_held revision file tail at q.bytes f.2;
  is = ap (λ (p : Piece). p ∷ rest) (same_piece q at f.0 f.1);
  within = tt;
  following = f.3;
}

pub next_there : (revision : ℕ) (tail : Option OpenBlock) (end : ℕ) (file : List Block) (at : ℕ) (p : Piece) (pieces : List Piece) → Following revision tail end file at pieces → Follows p pieces → p.block + 1 ≡ at → Next revision tail end file at pieces
next_there revision tail end file at p [] f follows low = absurd follows
next_there revision None end file at p (q ∷ rest) f follows low = next_range revision end file at q rest f (omega arith) (lt_or_le at end)
next_there revision (Some tail) end file at p (q ∷ rest) f follows low = next_held revision tail end file at q rest f

-- a record block put in front
pub following_on : (revision : ℕ) (tail : Option OpenBlock) (end : ℕ) (file : List Block) (at : ℕ) (payload : List ℕ) (pieces : List Piece) → Shows revision tail file at 1 payload → 1 ≤ length payload → IsWithin tail end (at + 1) → Following revision tail end file (at + 1) pieces → Following revision tail end file at (record { block = at; offset = 0; bytes = payload } ∷ pieces)
following_on revision None end file at payload pieces s some within f =
    let p : Piece = record { block = at; offset = 0; bytes = payload } in
    let count : suc (end - (at + 1)) ≡ end - at = omega arith in
    let blocks : RecordBlocks revision file at (suc (end - (at + 1))) (p ∷ f.0) = (s.block, 1, payload, s.there, s.sealed, inl (refl, f.0, refl, f.1)) in
    (p ∷ f.0, subst (λ (n : ℕ). RecordBlocks revision file at n (p ∷ f.0)) count blocks, ap (λ (ps : List Piece). p ∷ ps) f.2 ∙ sym (kept p f.0 some))
following_on revision (Some tail) end file at payload pieces s some within f = (refl, refl, held_shown revision file tail at payload s, f)

front_kept : (revision end : ℕ) (file : List Block) (at : ℕ) (pieces : List Piece) (kind : ℕ) (payload payload' : List ℕ) → (kind ≡ 1) × (payload' ≡ payload) → 1 ≤ length payload
    → ((kind ≡ 1) × (1 ≤ length payload') × (rest : List Piece) × (pieces ≡ record { block = at; offset = 0; bytes = payload' } ∷ rest) × Following revision None end file (at + 1) rest)
    ⊎ (((kind ≢ 1) ⊎ (payload' ≡ [])) × Following revision None end file (at + 1) pieces)
    → (rest : List Piece) × (pieces ≡ record { block = at; offset = 0; bytes = payload } ∷ rest) × Following revision None end file (at + 1) rest
front_kept revision end file at pieces kind payload payload' same some (inl here) = (here.2, here.3 ∙ ap (λ (b : List ℕ). record { block = at; offset = 0; bytes = b } ∷ here.2) same.1, here.4)
front_kept revision end file at pieces kind payload payload' same some (inr (inl other, f)) = absurd (other same.0)
front_kept revision end file at pieces kind payload payload' same some (inr (inr none, f)) =
    let empty : length payload ≡ 0 = ap length (sym same.1 ∙ none) in
    absurd (omega arith)

-- a record block that is in front
pub front_back : (revision end : ℕ) (file : List Block) (at : ℕ) (payload : List ℕ) (pieces : List Piece) → Stands revision file at 1 payload → 1 ≤ length payload → at < end → Following revision None end file at pieces → (rest : List Piece) × (pieces ≡ record { block = at; offset = 0; bytes = payload } ∷ rest) × Following revision None end file (at + 1) rest
front_back revision end file at payload pieces s some lt f =
    let here = front revision end file at pieces f lt in
    front_kept revision end file at pieces here.0 payload here.1 (stands_once revision file at here.0 1 here.1 payload here.2.stands s) some here.2.follows
