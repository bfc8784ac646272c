-- The two slots of the meta file, and which of them counts.
use Rattle.std.specs.Prelude.{◌≡◌, ℕ, ◌+◌, ◌^◌, ◌<◌, Bool, true, false, List, ◌++◌, Option, Some, None, MatchOption, nat_lt, if◌then◌else◌}
use Rattle.std.specs.Int.{w64, to_be_bytes}
use Rattle.block_host.specs.Sealed.{IsSealed}
use Rattle.block_host.specs.declared.block.Block.{Block}

-- the payload of a slot: its generation, and the revision of the current file
abbrev pub slot_bytes : ℕ → ℕ → List ℕ
slot_bytes generation revision = to_be_bytes w64 generation ++ to_be_bytes w64 revision

-- a generation with its revision
abbrev pub Slot : Type 0
Slot = ℕ × ℕ

-- the block is this slot's
pub record IsSlot (n : ℕ) (slot : Slot) (block : Block) : Type 0 where
  pub generation : slot.0 < 2 ^ 64
  pub revision : slot.1 < 2 ^ 64
  pub is_sealed : IsSealed 0 n 5 (slot_bytes slot.0 slot.1) block

-- what the block of a slot says: nothing where it is no slot's
abbrev pub Says : ℕ → Block → Option Slot → Type 0
Says n block None = (slot : Slot) → IsSlot n slot block → ⊥
Says n block (Some slot) = IsSlot n slot block

-- slot 1 counts: it alone is there, or it has the greater generation
abbrev pub is_second : Option Slot → Option Slot → Bool
is_second None b = true
is_second (Some a) None = false
is_second (Some a) (Some b) = nat_lt a.0 b.0

-- the slot that counts
abbrev pub newer : Option Slot → Option Slot → Option Slot
newer a b = if is_second a b then b else a

-- of the two blocks of a meta file, this counts
pub record IsCurrent (slot0 slot1 : Block) (now : Option Slot) : Type 0 where
  pub first : Option Slot
  pub second : Option Slot
  pub says_first : Says 0 slot0 first
  pub says_second : Says 1 slot1 second
  pub is : now ≡ newer first second

-- the slot to write next, which is the other one, and its block: a generation later, for this revision
abbrev pub other_slot : Option Slot → Option Slot → ℕ
other_slot a b = if is_second a b then 0 else 1

pub record IsFollowing (slot0 slot1 : Block) (revision : ℕ) (next : Option (ℕ × Block)) : Type 0 where
  pub first : Option Slot
  pub second : Option Slot
  pub says_first : Says 0 slot0 first
  pub says_second : Says 1 slot1 second
  pub is : MatchOption (newer first second) (next ≡ None) (λ now. MatchOption next ⊥ (λ f. (f.0 ≡ other_slot first second) × IsSlot f.0 (now.0 + 1, revision) f.1))
