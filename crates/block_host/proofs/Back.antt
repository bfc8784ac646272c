-- What stands in a sealed block, read back.
use Rattle.std.proofs.Common.{◌≡◌, ℕ, ◌+◌, ◌-◌, ◌<◌, List, [], ◌∷◌, ◌++◌, length, take, drop, get_or, refl, sym, ◌∙◌, ap, arith, append_assoc}
use Rattle.std.specs.Int.{w16, w64, to_be_bytes, from_be_bytes}
use Rattle.std.proofs.lemmas.List.{take_at, get_or-append-add, get_or-replicate}
use Rattle.std.specs.Prelude.{slice_range}
use Rattle.std.proofs.Math.Seq.{drop-append-add}
use lib.Pointwise.{pointwise}
use Rattle.std.proofs.Common.{true, eqb, eq-eqb}
use Rattle.std.proofs.lemmas.Nat.{from_be_bytes-to_be_bytes_2}
use Rattle.sha2.specs.Sha256.{sha256}
use Rattle.block_host.specs.Sealed.{zeros, padded, sealed_front, with_checksum, zero_block, IsSealed, IsTorn}
use Rattle.block_host.specs.declared.block.Block.{Block}
use Rattle.block_host.proofs.Padding.{length-padded}
use Rattle.block_host.proofs.Front.{zero_block-bytes}

split : (front tag used rev place sum : List ℕ) → (rest : List ℕ) × (padded 4072 (front ++ tag ++ used) ++ rev ++ place ++ sum ≡ front ++ (tag ++ (used ++ rest)))
unfolding padded
split front tag used rev place sum = (zeros (4072 - length (front ++ tag ++ used)) ++ (rev ++ (place ++ sum)), simp append_assoc)

-- a sealed block is its payload with zeros, its kind, the version and its length, and something behind
pub sealed_split : (revision at kind : ℕ) (payload : List ℕ) → (rest : List ℕ) × (with_checksum (sealed_front revision at kind payload) ≡ padded 4064 payload ++ (kind ∷ 1 ∷ (to_be_bytes w16 (length payload) ++ rest)))
unfolding with_checksum sealed_front
sealed_split revision at kind payload = split (padded 4064 payload) (kind ∷ 1 ∷ []) (to_be_bytes w16 (length payload)) (to_be_bytes w64 revision) (to_be_bytes w64 at) (take 8 (sha256 (sealed_front revision at kind payload)))

get_or-behind : (xs ys : List ℕ) (i n : ℕ) → length xs ≡ n → get_or (xs ++ ys) (n + i) 0 ≡ get_or ys i 0
get_or-behind xs ys i n is = ap (λ (k : ℕ). get_or (xs ++ ys) (k + i) 0) (sym is) ∙ get_or-append-add xs ys i 0

module _ (revision at kind : ℕ) (payload : List ℕ) (block : Block) (sealed : IsSealed revision at kind payload block) where
  pub kind_back : get_or block.bytes 4064 0 ≡ kind
  kind_back =
      let split = sealed_split revision at kind payload in
      ap (λ (bytes : List ℕ). get_or bytes 4064 0) (sealed.bytes ∙ split.1)
      ∙ get_or-behind (padded 4064 payload) (kind ∷ 1 ∷ (to_be_bytes w16 (length payload) ++ split.0)) 0 4064 (length-padded 4064 payload sealed.fits)

  pub used_back : from_be_bytes w16 (get_or block.bytes 4066 0 ∷ get_or block.bytes 4067 0 ∷ []) ≡ length payload
  used_back =
      let split = sealed_split revision at kind payload in
      let behind = kind ∷ 1 ∷ (to_be_bytes w16 (length payload) ++ split.0) in
      let long = length-padded 4064 payload sealed.fits in
      let whole = sealed.bytes ∙ split.1 in
      let high = ap (λ (bytes : List ℕ). get_or bytes 4066 0) whole ∙ get_or-behind (padded 4064 payload) behind 2 4064 long in
      let low = ap (λ (bytes : List ℕ). get_or bytes 4067 0) whole ∙ get_or-behind (padded 4064 payload) behind 3 4064 long in
      ap (λ (a : ℕ). from_be_bytes w16 (a ∷ get_or block.bytes 4067 0 ∷ [])) high
      ∙ ap (λ (a : ℕ). from_be_bytes w16 (get_or behind 2 0 ∷ a ∷ [])) low
      ∙ from_be_bytes-to_be_bytes_2 (length payload) (omega (arith, sealed.fits))

  -- the same, as a range of bytes
  pub in_use_back : from_be_bytes w16 (slice_range block.bytes 4066 4068) ≡ length payload
  in_use_back =
      let split = sealed_split revision at kind payload in
      let behind = kind ∷ 1 ∷ (to_be_bytes w16 (length payload) ++ split.0) in
      ap (λ (bytes : List ℕ). from_be_bytes w16 (slice_range bytes 4066 4068)) (sealed.bytes ∙ split.1)
      ∙ ap (λ (n : ℕ). from_be_bytes w16 (take 2 (drop (n + 2) (padded 4064 payload ++ behind)))) (sym (length-padded 4064 payload sealed.fits))
      ∙ ap (λ (bytes : List ℕ). from_be_bytes w16 (take 2 bytes)) (drop-append-add (padded 4064 payload) behind 2)
      ∙ from_be_bytes-to_be_bytes_2 (length payload) (omega (arith, sealed.fits))

  pub payload_back : take (length payload) block.bytes ≡ payload
  unfolding padded
  payload_back =
      let split = sealed_split revision at kind payload in
      let behind = kind ∷ 1 ∷ (to_be_bytes w16 (length payload) ++ split.0) in
      ap (λ (bytes : List ℕ). take (length payload) bytes) (sealed.bytes ∙ split.1 ∙ append_assoc payload (zeros (4064 - length payload)) behind)
      ∙ take_at payload (zeros (4064 - length payload) ++ behind) (length payload) refl

pub pointwise-same : (xs : List ℕ) → pointwise eqb xs xs ≡ true
pointwise-same [] = refl
pointwise-same (x ∷ xs) = rw (eq-eqb x x refl) (pointwise-same xs)

get_or-zeros : (n i : ℕ) → i < n → get_or (zeros n) i 0 ≡ 0
unfolding zeros
get_or-zeros n i lt = get_or-replicate n i 0 0 lt

-- zeros have no kind
pub zero_block-torn : (file at : ℕ) → IsTorn file at zero_block
zero_block-torn file at kind payload sealed =
    let none = sym (kind_back file at kind payload zero_block sealed) ∙ ap (λ (bytes : List ℕ). get_or bytes 4064 0) zero_block-bytes ∙ get_or-zeros 4096 4064 (omega arith) in
    omega (arith, none, sealed.least)
