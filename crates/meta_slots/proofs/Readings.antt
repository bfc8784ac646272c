-- A block is read in one way.
use Rattle.std.proofs.Common.{◌≡◌, ◌≢◌, ◌<◌, ◌^◌, ℕ, List, length, take, drop, Option, Some, None, MatchOption, true, false, cond, refl, sym, ◌∙◌, ap, subst}
use Rattle.std.proofs.lemmas.Nat.{from_be_bytes-to_be_bytes_8}
use Rattle.std.specs.Int.{w64, from_be_bytes}
use Rattle.block_host.specs.Sealed.{IsSealed}
use Rattle.block_host.specs.declared.block.Block.{Block}
use Rattle.block_host.proofs.Back.{kind_back, used_back, payload_back}
use Rattle.meta_slots.specs.Slots.{Slot, IsSlot, Says, IsCurrent, slot_bytes, is_second, newer}

module _ (n kind : ℕ) (payload : List ℕ) (block : Block) (sealed : IsSealed 0 n kind payload block) where
  pub same_kind : (slot : Slot) → IsSlot n slot block → kind ≡ 5
  same_kind slot is = sym (kind_back 0 n kind payload block sealed) ∙ kind_back 0 n 5 (slot_bytes slot.0 slot.1) block is.is_sealed

  pub same_length : (slot : Slot) → IsSlot n slot block → length payload ≡ 16
  same_length slot is = sym (used_back 0 n kind payload block sealed) ∙ used_back 0 n 5 (slot_bytes slot.0 slot.1) block is.is_sealed

  -- the numbers of the payload are what the block says
  pub says : (read : Option Slot) → kind ≡ 5 → MatchOption read (length payload ≢ 16) (λ slot. (slot.0 < 2 ^ 64) × (slot.1 < 2 ^ 64) × (payload ≡ slot_bytes slot.0 slot.1)) → Says n block read
  says None meta other = λ slot is. other (same_length slot is)
  says (Some slot) meta numbers = record {
    generation = numbers.0;
    revision = numbers.1;
    is_sealed = subst (λ (k : ℕ). IsSealed 0 n k (slot_bytes slot.0 slot.1) block) meta (subst (λ (p : List ℕ). IsSealed 0 n kind p block) numbers.2 sealed);
  }

numbers_back : (a b c d : ℕ) → a < 2 ^ 64 → b < 2 ^ 64 → c < 2 ^ 64 → d < 2 ^ 64 → slot_bytes a b ≡ slot_bytes c d → ◌≡◌ {A = Slot} (a, b) (c, d)
numbers_back a b c d a_fits b_fits c_fits d_fits is =
    let first : a ≡ c = sym (from_be_bytes-to_be_bytes_8 a a_fits) ∙ ap (λ (bytes : List ℕ). from_be_bytes w64 (take 8 bytes)) is ∙ from_be_bytes-to_be_bytes_8 c c_fits in
    let second : b ≡ d = sym (from_be_bytes-to_be_bytes_8 b b_fits) ∙ ap (λ (bytes : List ℕ). from_be_bytes w64 (drop 8 bytes)) is ∙ from_be_bytes-to_be_bytes_8 d d_fits in
    cc

one_slot : (n : ℕ) (block : Block) (a b : Slot) → IsSlot n a block → IsSlot n b block → a ≡ b
one_slot n block a b is is' =
    numbers_back a.0 a.1 b.0 b.1 is.generation is.revision is'.generation is'.revision
    (sym (payload_back 0 n 5 (slot_bytes a.0 a.1) block is.is_sealed) ∙ payload_back 0 n 5 (slot_bytes b.0 b.1) block is'.is_sealed)

one_saying : (n : ℕ) (block : Block) (a b : Option Slot) → Says n block a → Says n block b → a ≡ b
one_saying n block None None says says' = refl
one_saying n block None (Some b) says says' = absurd (says b says')
one_saying n block (Some a) None says says' = absurd (says' a says)
one_saying n block (Some a) (Some b) says says' = ap Some (one_slot n block a b says says')

pub one_current : (slot0 slot1 : Block) (a b : Option Slot) → IsCurrent slot0 slot1 a → IsCurrent slot0 slot1 b → a ≡ b
one_current slot0 slot1 a b is is' =
    is.is
    ∙ ap (λ first. newer first is.second) (one_saying 0 slot0 is.first is'.first is.says_first is'.says_first)
    ∙ ap (λ second. newer is'.first second) (one_saying 1 slot1 is.second is'.second is.says_second is'.says_second)
    ∙ sym is'.is

-- which of two slots counts
pub newer-second : (first second : Option Slot) (now : Slot) → is_second first second ≡ true → second ≡ Some now → Some now ≡ newer first second
newer-second first second now counts is = sym is ∙ ap (λ t. cond t second first) (sym counts)

-- no other answer than what the blocks say
module _ (slot0 slot1 : Block) (first second : Option Slot) (says_first : Says 0 slot0 first) (says_second : Says 1 slot1 second) where
  only_newer : (now : Option Slot) → IsCurrent slot0 slot1 now → now ≡ newer first second
  only_newer now is = one_current slot0 slot1 now (newer first second) is (record { first = first; second = second; says_first = says_first; says_second = says_second; is = refl })

  pub only_second : true ≡ is_second first second → (now : Option Slot) → IsCurrent slot0 slot1 now → now ≡ second
  only_second counts now is = only_newer now is ∙ ap (λ t. cond t second first) (sym counts)

  pub only_first : false ≡ is_second first second → (now : Option Slot) → IsCurrent slot0 slot1 now → now ≡ first
  only_first counts now is = only_newer now is ∙ ap (λ t. cond t second first) (sym counts)

pub newer-first : (first second : Option Slot) (now : Slot) → is_second first second ≡ false → first ≡ Some now → Some now ≡ newer first second
newer-first first second now counts is = sym is ∙ ap (λ t. cond t second first) (sym counts)
