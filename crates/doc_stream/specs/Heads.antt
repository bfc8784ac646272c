-- The numbers in a record's head.
use Rattle.std.specs.Prelude.{ℕ, List, ◌∷◌, ◌++◌, [], Bool, ◌&&◌, ◌||◌, ◌==◌, nat_le}
use Rattle.forest_model.specs.declared.stored.Rec.{Rec}
use Rattle.forest_model.specs.Records.{is_put, is_del, is_store_new, is_store_gone}
use Rattle.std.specs.Int.{w16, w32, w64, to_be_bytes}

-- the bytes of a head with these numbers
abbrev pub head_with : ℕ → ℕ → ℕ → ℕ → ℕ → ℕ → List ℕ
head_with kind meta key body store seq =
    (kind ∷ meta ∷ []) ++ to_be_bytes w16 key ++ to_be_bytes w32 body ++ to_be_bytes w64 store ++ to_be_bytes w64 seq

-- a record but for its numbers
abbrev pub has_form : Rec → Bool
has_form r = is_put r || is_del r || is_store_new r || is_store_gone r

-- the lengths that a record of this kind may have
abbrev pub allows : ℕ → ℕ → ℕ → ℕ → ℕ → Bool
allows kind meta key body seq =
    ((kind == 1) && nat_le 1 key && nat_le key 3500 && nat_le body 1048576)
    || ((kind == 2) && nat_le 1 key && nat_le key 3500 && (meta == 0) && (body == 0))
    || ((kind == 3) && nat_le 1 key && nat_le key 31 && (seq == 0) && (meta == 0) && (body == 0))
    || ((kind == 4) && (key == 0) && (seq == 0) && (meta == 0) && (body == 0))
