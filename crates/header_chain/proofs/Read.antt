-- What is read of a block of a file.
use Rattle.std.proofs.Common.{◌≡◌, ◌≢◌, ℕ, List, length, take, slice_get, Option, Some, None, unwrap_or, IsTrue, refl, sym, ◌∙◌, ap, subst}
use Rattle.block_host.specs.Calls.{block_at}
use Rattle.block_host.specs.Sealed.{IsSealed, IsTorn, zero_block}
use Rattle.block_host.specs.declared.block.Block.{Block}
use Rattle.block_host.proofs.Back.{kind_back, used_back, payload_back, zero_block-torn}
use Rattle.forest_model.specs.declared.stored.Header.{Header}
use Rattle.header_block.specs.Headers.{IsHeaderAt}
use Rattle.header_block.specs.Layout.{header_bytes, is_well_formed}
use Rattle.header_chain.specs.Chain.{IsSealedAt}

-- a block is sealed in one way
pub sealed_once : (revision at kind kind' : ℕ) (payload payload' : List ℕ) (block : Block) → IsSealed revision at kind payload block → IsSealed revision at kind' payload' block → (kind ≡ kind') × (payload ≡ payload')
sealed_once revision at kind kind' payload payload' block a b =
    let used : length payload ≡ length payload' = sym (used_back revision at kind payload block a) ∙ used_back revision at kind' payload' block b in
    let kinds : kind ≡ kind' = sym (kind_back revision at kind payload block a) ∙ kind_back revision at kind' payload' block b in
    (kinds, sym (payload_back revision at kind payload block a) ∙ ap (λ (n : ℕ). take n block.bytes) used ∙ payload_back revision at kind' payload' block b)

module _ (revision : ℕ) (file : List Block) (at : ℕ) (block : Block) (is : block ≡ block_at file at) where
  there_in : (found : Option Block) (kind : ℕ) (payload : List ℕ) → slice_get file at ≡ found → block ≡ unwrap_or found zero_block → IsSealed revision at kind payload block → slice_get file at ≡ Some block
  there_in None kind payload there same sealed = absurd (zero_block-torn revision at kind payload (subst (λ (b : Block). IsSealed revision at kind payload b) same sealed))
  there_in (Some b) kind payload there same sealed = there ∙ ap Some (sym same)

  there_sealed : (kind : ℕ) (payload : List ℕ) → IsSealed revision at kind payload block → slice_get file at ≡ Some block
  there_sealed kind payload sealed = there_in (slice_get file at) kind payload refl is sealed

  read_as : (s : IsSealedAt revision file at) → IsSealed revision at 4 s.payload block
  read_as s = subst (λ (b : Block). IsSealed revision at 4 s.payload b) (sym (is ∙ ap (λ (o : Option Block). unwrap_or o zero_block) s.there)) s.is_sealed

  pub none_torn : IsTorn revision at block → IsSealedAt revision file at → ⊥
  none_torn torn s = torn 4 s.payload (read_as s)

  pub none_other : (kind : ℕ) (payload : List ℕ) → IsSealed revision at kind payload block → kind ≢ 4 → IsSealedAt revision file at → ⊥
  none_other kind payload sealed other s = other (sealed_once revision at kind 4 payload s.payload block sealed (read_as s)).0

  pub header_in : (kind : ℕ) (payload : List ℕ) (h : Header) → IsSealed revision at kind payload block → kind ≡ 4 → payload ≡ header_bytes h → IsTrue (is_well_formed at h) → IsHeaderAt revision file at h
  header_in kind payload h sealed four bytes formed = record {
    block = block;
    there = there_sealed kind payload sealed;
    is_sealed = subst (λ (k : ℕ). IsSealed revision at k (header_bytes h) block) four (subst (λ (p : List ℕ). IsSealed revision at kind p block) bytes sealed);
    well_formed = formed;
  }

  pub ill_in : (kind : ℕ) (payload : List ℕ) → IsSealed revision at kind payload block → kind ≡ 4 → ((h : Header) → payload ≡ header_bytes h → IsTrue (is_well_formed at h) → ⊥)
      → IsSealedAt revision file at × ((h : Header) → IsHeaderAt revision file at h → ⊥)
  ill_in kind payload sealed four ill = (
    record { block = block; payload = payload; there = there_sealed kind payload sealed; is_sealed = subst (λ (k : ℕ). IsSealed revision at k payload block) four sealed },
    λ h there.
        let same = sealed_once revision at kind 4 payload (header_bytes h) block sealed (read_as (record { block = there.block; payload = header_bytes h; there = there.there; is_sealed = there.is_sealed })) in
        ill h same.1 there.well_formed,
  )
