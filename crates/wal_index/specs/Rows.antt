-- Rows in the order of store and key.
use Rattle.std.specs.Prelude.{◌≡◌, ℕ, Bool, true, false, ◌<◌, ◌≤◌, List, length, map, slice_index_or, T, Option, Some, None, ◌==◌, if◌then◌else◌}
use Rattle.std.specs.Global.{Box}
use Rattle.std.specs.FinMap as finite
use Rattle.forest_model.specs.Key.{key_cmp}
use Rattle.forest_model.specs.declared.documents.DocKey.{DocKey}
use Rattle.forest_model.specs.declared.stored.Entry.{Entry}
use Rattle.forest_model.specs.declared.stored.KeyEntry.{KeyEntry}
use Rattle.wal_index.specs.Index.{key_at}

-- where a row stands, and with it its entry
abbrev pub key_of : Box KeyEntry → DocKey
key_of r = key_at r.value.store r.value.key

abbrev pub pair_of : Box KeyEntry → DocKey × Entry
pair_of r = (key_of r, r.value.entry)

abbrev pub pairs : List (Box KeyEntry) → List (DocKey × Entry)
pairs = map pair_of

-- the rows themselves
abbrev pub held : List (Box KeyEntry) → List KeyEntry
held = map (λ r. r.value)

-- keys rise
abbrev pub AreSorted : List (Box KeyEntry) → Type 0
AreSorted rows = T (finite.is_sorted key_cmp (pairs rows))

-- p holds of the keys of the first n rows, and of no other
pub record IsBorder (p : DocKey → Bool) (rows : List (Box KeyEntry)) (n : ℕ) : Type 0 where
  pub within : n ≤ length rows
  pub before : (j : ℕ) (d : Box KeyEntry) → j < n → p (key_of (slice_index_or rows j d)) ≡ true
  pub behind : (j : ℕ) (d : Box KeyEntry) → n ≤ j → j < length rows → p (key_of (slice_index_or rows j d)) ≡ false

-- an entry, where it is one of this store
abbrev pub of_store : ℕ → Option (DocKey × Entry) → Option (DocKey × Entry)
of_store store None = None
of_store store (Some e) = if e.0.store == store then Some e else None
