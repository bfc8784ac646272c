-- A run over the host in memory, and its new store.
use Rattle.std.proofs.Common.{◌≡◌, ◌≢◌, ◌≤◌, ℕ, Bool, List, [], ◌∷◌, true, false, ltb, refl, subst, arith, inl, inr}
use Rattle.std.specs.Prelude.{IsTrue, ◌⊎◌}
use Rattle.std.proofs.lemmas.Bool.{ltb-true, ltb-false}
use Rattle.block_host.specs.Disk.{Image}
use Rattle.block_host.specs.Sealed.{IsSealed, zero_block}
use Rattle.block_host.specs.declared.block.Block.{Block}
use Rattle.host_memory.specs.Formatted.{first_slot, first_header}
use Rattle.file_image.specs.NewStore.{IsNewStore, new_header}
use Rattle.header_block.specs.Layout.{header_bytes, long}

-- a host that tells its content meets no damaged block
pub none_damaged : (s : ℕ) → (s ≡ 6 → IsTrue true → ⊥) → (s ≡ 3) ⊎ ((s ≡ 4) ⊎ ((s ≡ 5) ⊎ (s ≡ 6))) → (s ≡ 3) ⊎ ((s ≡ 4) ⊎ (s ≡ 5))
none_damaged s sound (inl three) = inl three
none_damaged s sound (inr (inl four)) = inr (inl four)
none_damaged s sound (inr (inr (inl five))) = inr (inr five)
none_damaged s sound (inr (inr (inr six))) = absurd (sound six refl)

pub none_damaged_or : (s : ℕ) → (s ≡ 6 → IsTrue true → ⊥) → (s ≡ 2) ⊎ ((s ≡ 3) ⊎ ((s ≡ 4) ⊎ ((s ≡ 5) ⊎ (s ≡ 6)))) → (s ≡ 2) ⊎ ((s ≡ 3) ⊎ ((s ≡ 4) ⊎ (s ≡ 5)))
none_damaged_or s sound (inl two) = inl two
none_damaged_or s sound (inr more) = inr (none_damaged s sound more)

pub not_six : (s : ℕ) → s ≤ 7 → (s ≡ 6 → IsTrue true → ⊥) → (s ≢ 6) × (s ≤ 7)
not_six s most six = (λ is. six is refl, most)

pub at_most_five : (s : ℕ) → (s ≢ 6) × (s ≤ 7) → (s ≡ 7 → ⊥) → s ≤ 5
at_most_five s most seven = by (ltb s 6) refl (ltb s 7) refl where
  by : (a : Bool) → ltb s 6 ≡ a → (b : Bool) → ltb s 7 ≡ b → s ≤ 5
  by true e b f = omega (arith, ltb-true s 6 e)
  by false e true f = absurd (most.0 (omega (arith, ltb-false s 6 e, ltb-true s 7 f)))
  by false e false f = absurd (seven (omega (arith, most.1, ltb-false s 7 f)))

-- the bytes of a new store that the host spells out are those of the format
same_header : first_header ≡ header_bytes new_header
unfolding long
same_header = refl

-- the host's files are those of a new store
pub formatted_is_new : (files : Image) → ((slot : Block) × IsSealed 0 0 5 first_slot slot × (files 0 ≡ slot ∷ zero_block ∷ [])) → ((header : Block) × IsSealed 1 0 4 first_header header × (files 1 ≡ header ∷ [])) → IsNewStore files
formatted_is_new files s h = record {
  slot = s.0;
  header = h.0;
  slot_is = s.1;
  header_is = subst (λ (xs : List ℕ). IsSealed 1 0 4 xs h.0) same_header h.1;
  meta = s.2;
  file = h.2;
}
