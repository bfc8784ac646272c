-- What an unsealing finds in a block: sealing is decidable, by sealing again what stands there.
use Rattle.std.specs.Prelude.{◌==◌, ◌&&◌, ℕ, Bool, true, false, List, [], ◌∷◌, length, take, nat_le, slice_index, Option, Some, None, if◌then◌else◌}
use Rattle.std.specs.Int.{w16, from_be_bytes}
use Rattle.block_host.specs.Sealed.{with_checksum, sealed_front, is_whole}
use Rattle.block_host.specs.declared.block.Block.{Block}

-- the kind that stands in a block
unfoldable pub kind_in : Block → ℕ
kind_in b = slice_index b.bytes 4064

-- the length in use that stands in a block
unfoldable pub used_in : Block → ℕ
used_in b = from_be_bytes w16 (slice_index b.bytes 4066 ∷ slice_index b.bytes 4067 ∷ [])

-- so many bytes of the block
unfoldable pub payload_in : Block → List ℕ
payload_in b = take (used_in b) b.bytes

abbrev pub same_bytes : List ℕ → List ℕ → Bool
same_bytes [] [] = true
same_bytes [] (y ∷ ys) = false
same_bytes (x ∷ xs) [] = false
same_bytes (x ∷ xs) (y ∷ ys) = (x == y) && same_bytes xs ys

-- whether a block is sealed for this revision and number, with this kind and payload
unfoldable pub is_sealed : ℕ → ℕ → ℕ → List ℕ → Block → Bool
is_sealed revision at kind payload b =
    nat_le 1 kind && nat_le kind 5 && nat_le (length payload) 4064
    && same_bytes b.bytes (with_checksum (sealed_front revision at kind payload)) && is_whole b.bytes

-- the kind and the payload of a block, if it is sealed for this revision and number
unfoldable pub found_in : ℕ → ℕ → Block → Option (ℕ × List ℕ)
found_in revision at b =
    if is_sealed revision at (kind_in b) (payload_in b) b then Some (kind_in b, payload_in b) else None
