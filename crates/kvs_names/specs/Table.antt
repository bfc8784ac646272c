-- The table of store names: a finite map from names to ids, with each store's sequence number and count of documents.
use Rattle.std.specs.Prelude.{◌≡◌, ◌≢◌, ℕ, ◌+◌, ◌<◌, ◌≤◌, not, ◌==◌, List, [], ◌∷◌, ◌++◌, length, map, filter, find, codes, Option, nat_eq, if◌then◌else◌}
use Rattle.std.specs.List.{AllByRecursion}
use Rattle.std.specs.Cmp.Lexicographic.{pointwise}
use Rattle.forest_model.specs.State.{EachLater}
use Rattle.forest_model.specs.Stored.{StoreRow}

-- the stores by rising id, and the id of the next one
pub record Table : Type 0 where
  pub rows : List StoreRow
  pub next : ℕ

-- the store of an id, and of a name
abbrev pub row_with_id : List StoreRow → ℕ → Option StoreRow
row_with_id rows id = find (λ s. s.id == id) rows

abbrev pub row_named : List StoreRow → List ℕ → Option StoreRow
row_named rows name = find (λ s. pointwise nat_eq s.name name) rows

-- the first store has id 0 and is `default`
abbrev pub BeginsWithDefault : List StoreRow → Type 0
BeginsWithDefault [] = ⊥
BeginsWithDefault (s ∷ later) = (s.id ≡ 0) × (s.name ≡ codes "default")

-- ids rise, and names differ
abbrev pub AreApart : List StoreRow → Type 0
AreApart = EachLater (λ a b. (a.id < b.id) × (a.name ≢ b.name))

-- every id lies below this one
abbrev pub AreBelow : ℕ → List StoreRow → Type 0
AreBelow next = AllByRecursion (λ s. s.id < next)

-- the stores that can be there with this next id
pub record IsTable (rows : List StoreRow) (next : ℕ) : Type 0 where
  pub default : BeginsWithDefault rows
  pub apart : AreApart rows
  pub below : AreBelow next rows
  pub at_most : length rows ≤ 64

-- the table with a new store behind the others, which has drawn no number and has no document
abbrev pub with_new : Table → List ℕ → Table
with_new t name = record { rows = t.rows ++ record { id = t.next; name = name; seq = 0; documents = 0 } ∷ []; next = t.next + 1 }

-- the table without a store
abbrev pub without : Table → ℕ → Table
without t id = record t { rows = filter (λ s. not (s.id == id)) t.rows }

-- the table with other numbers for a store
abbrev pub with_numbers : ℕ → ℕ → ℕ → StoreRow → StoreRow
with_numbers id seq documents s = if s.id == id then record s { seq = seq; documents = documents } else s

abbrev pub counted : Table → ℕ → ℕ → ℕ → Table
counted t id seq documents = record t { rows = map (with_numbers id seq documents) t.rows }

-- `default` in a new file
abbrev pub default_row : StoreRow
default_row = record { id = 0; name = codes "default"; seq = 0; documents = 0 }
