-- The chunk list of a key in a store.
use Rattle.std.specs.Prelude.{◌≡◌, ℕ, zero, suc, ◌-◌, ◌/◌, ◌<◌, ◌≤◌, ◌^◌, nat_lt, min, List, [], ◌∷◌, ◌++◌, length, take, drop, replicate, slice_index, if◌then◌else◌}
use Rattle.std.specs.List.{AllByRecursion}
use Rattle.std.specs.Int.{w64, from_be_bytes, to_be_bytes}

-- ---- one group of a key

-- the 7 bytes of the group at the front, the last one filled up with zeros
abbrev pub first_group : List ℕ → List ℕ
first_group key = take 7 (key ++ replicate 7 0)

-- 8 where a further group follows the one at the front, and else how many bytes of the key it has
abbrev pub count_byte : List ℕ → ℕ
count_byte key = if nat_lt 7 (length key) then 8 else length key

-- both together, read as one number, the highest byte first
unfoldable pub first_chunk : List ℕ → ℕ
first_chunk key = from_be_bytes w64 (first_group key ++ count_byte key ∷ [])

-- ---- a whole key

-- the chunks of a key with so many groups behind the first
unfoldable pub groups : ℕ → List ℕ → List ℕ
groups zero key = first_chunk key ∷ []
groups (suc more) key = first_chunk key ∷ groups more (drop 7 key)

abbrev pub groups_of : List ℕ → List ℕ
groups_of key = groups ((length key - 1) / 7) key

-- the chunk list of a key in a store: the store's id, and then a chunk for each group of the key
abbrev pub chunks_of : ℕ → List ℕ → List ℕ
chunks_of store key = store ∷ groups_of key

-- ---- which keys have one

abbrev pub HasKeyLength : List ℕ → Type 0
HasKeyLength key = (1 ≤ length key) × (length key ≤ 3500)

pub record IsKey (key : List ℕ) : Type 0 where
  pub has_length : HasKeyLength key
  pub bytes : AllByRecursion (λ b. b < 256) key

-- The list is that of the key in the store.
pub record IsChunkList (store : ℕ) (key : List ℕ) (list : List ℕ) : Type 0 where
  pub is_id : store < 2 ^ 64
  pub is_key : IsKey key
  pub is_list : list ≡ chunks_of store key

-- ---- reading

-- the bytes of a key that a chunk has
unfoldable pub bytes_in : ℕ → List ℕ
bytes_in chunk = let bytes = to_be_bytes w64 chunk in take (min (slice_index bytes 7) 7) bytes
