-- What a sealed block is.
use Rattle.std.specs.Prelude.{◌≡◌, ◌-◌, ◌≤◌, ◌&&◌, ◌==◌, ℕ, Bool, IsTrue, List, [], ◌∷◌, ◌++◌, length, take, replicate, nat_lt}
use Rattle.std.specs.List.{list_all}
use Rattle.std.specs.Int.{w16, w64, to_be_bytes}
use Rattle.sha2.specs.Sha256.{sha256}
use Rattle.block_host.specs.declared.block.Block.{Block}

-- this many zero bytes
unfoldable pub zeros : ℕ → List ℕ
zeros n = replicate n 0

-- the bytes with zeros behind them, up to this length
unfoldable pub padded : ℕ → List ℕ → List ℕ
padded n bytes = bytes ++ zeros (n - length bytes)

-- the block of zeros, which stands past a file's end
unfoldable pub zero_block : Block
zero_block = record { bytes = zeros 4096 }

-- the bytes before the checksum: the payload, zeros up to byte 4064, the kind, the version 1, the length in use, four
-- zeros, the file's revision and the block's number
unfoldable pub sealed_front : ℕ → ℕ → ℕ → List ℕ → List ℕ
sealed_front revision at kind payload =
    padded 4072 (padded 4064 payload ++ (kind ∷ 1 ∷ []) ++ to_be_bytes w16 (length payload))
    ++ to_be_bytes w64 revision ++ to_be_bytes w64 at

-- bytes and their checksum, the first 8 bytes of their SHA-256
unfoldable pub with_checksum : List ℕ → List ℕ
with_checksum front = front ++ take 8 (sha256 front)

-- 4,096 bytes
abbrev pub is_whole : List ℕ → Bool
is_whole bytes = (length bytes == 4096) && list_all (λ b. nat_lt b 256) bytes

-- the block is sealed for this revision and number, with this kind and payload
pub record IsSealed (revision at kind : ℕ) (payload : List ℕ) (block : Block) : Type 0 where
  pub least : 1 ≤ kind
  pub greatest : kind ≤ 5
  pub fits : length payload ≤ 4064
  pub bytes : block.bytes ≡ with_checksum (sealed_front revision at kind payload)
  pub whole : IsTrue (is_whole block.bytes)

-- a torn block of a file, which isn't sealed for both its revision and its number
abbrev pub IsTorn : ℕ → ℕ → Block → Type 0
IsTorn file at block = (kind : ℕ) (payload : List ℕ) → IsSealed file at kind payload block → ⊥
