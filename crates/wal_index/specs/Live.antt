-- The bytes of the live records of a store's newest entries.
use Rattle.std.specs.Prelude.{ℕ, ◌==◌, Bool, ◌&&◌, ◌||◌, nat_lt, sum_by, if◌then◌else◌}
use Rattle.forest_model.specs.declared.documents.DocKey.{DocKey}
use Rattle.forest_model.specs.declared.stored.Entry.{Entry}
use Rattle.forest_model.specs.declared.stored.KeyEntry.{KeyEntry}
use Rattle.wal_index.specs.Index.{Map, in_order}

-- the bytes of an entry's record, where it is live
abbrev pub len_if_live : Entry → ℕ
len_if_live e = if e.live then e.len else 0

-- the same of an entry in order, where it is of a store
abbrev pub own_len : ℕ → KeyEntry → ℕ
own_len store e = if e.store == store then len_if_live e.entry else 0

-- the bytes of the live records of a store
abbrev pub own_live : ℕ → Map → ℕ
own_live store entries = sum_by (own_len store) (in_order entries)

-- whether k stands before the keys of a store; `through` has those stand there too
abbrev pub is_before_store : Bool → ℕ → DocKey → Bool
is_before_store through store k = nat_lt k.store store || (through && (k.store == store))
