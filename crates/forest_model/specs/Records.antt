-- The bytes of a record, and which records there are.
use Rattle.std.specs.Prelude.{ℕ, ◌^◌, Bool, ◌&&◌, ◌||◌, not, ◌==◌, List, ◌∷◌, ◌++◌, [], length, nat_lt}
use Rattle.std.specs.Int.{w16, w32, w64, to_be_bytes}
use Rattle.forest_model.specs.Limits.{is_wrong_key, is_wrong_body, is_name}
use Rattle.forest_model.specs.declared.stored.Rec.{Rec}

-- a head of 24 bytes: kind, length of the meta, of the key and of the body, store and sequence number; then key, meta and body
abbrev pub head_bytes : Rec → List ℕ
head_bytes r =
    (r.kind ∷ length r.meta ∷ []) ++ to_be_bytes w16 (length r.key) ++ to_be_bytes w32 (length r.body)
    ++ to_be_bytes w64 r.store ++ to_be_bytes w64 r.seq

abbrev pub record_bytes : Rec → List ℕ
record_bytes r = head_bytes r ++ r.key ++ r.meta ++ r.body

-- the numbers of a record are those of a u64
abbrev pub has_numbers : Rec → Bool
has_numbers r = nat_lt r.store (2 ^ 64) && nat_lt r.seq (2 ^ 64)

abbrev pub is_empty : List ℕ → Bool
is_empty bytes = length bytes == 0

-- a key is set; one is deleted; a store is made under its name; one is removed
abbrev pub is_put : Rec → Bool
is_put r = (r.kind == 1) && not (is_wrong_key r.key) && not (is_wrong_body r.meta r.body)

abbrev pub is_del : Rec → Bool
is_del r = (r.kind == 2) && not (is_wrong_key r.key) && is_empty r.meta && is_empty r.body

abbrev pub is_store_new : Rec → Bool
is_store_new r = (r.kind == 3) && is_name r.key && (r.seq == 0) && is_empty r.meta && is_empty r.body

abbrev pub is_store_gone : Rec → Bool
is_store_gone r = (r.kind == 4) && is_empty r.key && (r.seq == 0) && is_empty r.meta && is_empty r.body

abbrev pub is_record : Rec → Bool
is_record r = has_numbers r && (is_put r || is_del r || is_store_new r || is_store_gone r)
