-- The bytes of a header, and which headers are well-formed.
use Rattle.std.specs.Prelude.{ℕ, suc, ◌+◌, ◌-◌, ◌^◌, Bool, true, false, ◌&&◌, not, ◌==◌, List, [], ◌∷◌, ◌++◌, length, replicate, codes, Option, IfSome, ◌≤◌, nat_le, nat_lt, nat_eq}
use Rattle.std.specs.List.{list_all, flat_map}
use Rattle.std.specs.Option.{option_map_or}
use Rattle.std.specs.Cmp.Lexicographic.{pointwise}
use Rattle.std.specs.Int.{w64, to_be_bytes}
use Rattle.forest_model.specs.Stored.{StoreRow}
use Rattle.forest_model.specs.declared.stored.Header.{Header}

-- a number in 8 bytes
unfoldable pub long : ℕ → List ℕ
long n = to_be_bytes w64 n

-- an optional block: 0 for none, else one more than the block
abbrev pub optional : Option ℕ → List ℕ
optional at = long (option_map_or suc at 0)

-- a store, 56 bytes: its id, the length of its name, the name with zeros up to 31 bytes, its sequence number and how many documents it has
abbrev pub store_bytes : StoreRow → List ℕ
store_bytes s = long s.id ++ (length s.name ∷ []) ++ s.name ++ replicate (31 - length s.name) 0 ++ long s.seq ++ long s.documents

-- the fields of a header, 8 bytes each
abbrev pub fields : Header → List ℕ
fields h =
    long h.commit ++ long h.next_commit ++ optional h.previous ++ optional h.key ++ optional h.seq ++ long h.wal_from
    ++ long h.live ++ long h.next_store ++ long (length h.stores)

-- the fields and the stores
abbrev pub header_bytes : Header → List ℕ
header_bytes h = fields h ++ flat_map store_bytes h.stores

-- the blocks that a header names are none past 2 ^ 41
pub record NamesBlocks (h : Header) : Type 0 where
  pub previous : IfSome h.previous (λ block. block ≤ 2 ^ 41)
  pub key : IfSome h.key (λ block. block ≤ 2 ^ 41)
  pub seq : IfSome h.seq (λ block. block ≤ 2 ^ 41)

-- no number of a header reaches this one
abbrev pub is_small : ℕ → Bool
is_small n = nat_lt n (2 ^ 62)

-- a block below this one, where there is one
abbrev pub is_below : ℕ → Option ℕ → Bool
is_below at block = option_map_or (λ b. nat_lt b at) block true

-- a store of a table whose ids lie below the next one
abbrev pub is_row : ℕ → StoreRow → Bool
is_row next s = nat_lt s.id next && nat_le 1 (length s.name) && nat_le (length s.name) 31 && is_small s.seq && is_small s.documents

-- ids rise, and names differ
abbrev pub is_before : StoreRow → StoreRow → Bool
is_before a b = nat_lt a.id b.id && not (pointwise nat_eq a.name b.name)

abbrev pub are_apart : List StoreRow → Bool
are_apart [] = true
are_apart (s ∷ later) = list_all (is_before s) later && are_apart later

-- the first store has id 0 and is `default`
abbrev pub begins_with_default : List StoreRow → Bool
begins_with_default [] = false
begins_with_default (s ∷ later) = (s.id == 0) && pointwise nat_eq s.name (codes "default")

-- the table of stores, at most 64
abbrev pub is_table : ℕ → List StoreRow → Bool
is_table next stores = nat_le (length stores) 64 && begins_with_default stores && list_all (is_row next) stores && are_apart stores

-- the header at this block is well-formed by itself
abbrev pub is_well_formed : ℕ → Header → Bool
is_well_formed at h =
    nat_lt at (2 ^ 41) && is_below at h.previous && is_below at h.key && is_below at h.seq && nat_le h.wal_from (at + 1)
    && nat_lt h.commit h.next_commit && is_small h.next_commit && is_small h.live && is_small h.next_store && is_table h.next_store h.stores
