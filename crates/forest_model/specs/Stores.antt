-- The table of stores, and the commits that have one.
use Rattle.std.specs.Prelude.{ℕ, Bool, false, ◌&&◌, not, ◌==◌, List, [], ◌∷◌, map, filter, Option, Some, None, nat_eq, find, if◌then◌else◌}
use Rattle.std.specs.Cmp.Lexicographic.{pointwise}
use Rattle.std.specs.Option.{option_map_or}
use Rattle.forest_model.specs.declared.state.Store.{Store}
use Rattle.forest_model.specs.declared.state.Commit.{Commit}

-- the store of an id, and of a name
abbrev pub store_of : List Store → ℕ → Option Store
store_of stores id = find (λ s. s.id == id) stores

abbrev pub store_named : List Store → List ℕ → Option Store
store_named stores name = find (λ s. pointwise nat_eq s.name name) stores

-- the sequence number of a store, and 0 where there is none
abbrev pub seq_of : List Store → ℕ → ℕ
seq_of stores id = option_map_or (λ s. s.seq) (store_of stores id) 0

-- the stores, one of them at another sequence number
abbrev pub at_seq : ℕ → ℕ → Store → Store
at_seq id seq s = if s.id == id then record s { seq = seq } else s

abbrev pub with_seq : List Store → ℕ → ℕ → List Store
with_seq stores id seq = map (at_seq id seq) stores

-- the stores with a new one, and without one
abbrev pub new_store : ℕ → List ℕ → Store
new_store id name = record { id = id; name = name; seq = 0 }

abbrev pub without : List Store → ℕ → List Store
without stores id = filter (λ s. not (s.id == id)) stores

-- the same stores
abbrev pub is_same_store : Store → Store → Bool
is_same_store a b = (a.id == b.id) && pointwise nat_eq a.name b.name && (a.seq == b.seq)

abbrev pub are_same_stores : List Store → List Store → Bool
are_same_stores = pointwise is_same_store

-- a commit in which the store has exactly this sequence number
abbrev pub has_seq : ℕ → ℕ → Commit → Bool
has_seq id seq c = option_map_or (λ s. s.seq == seq) (store_of c.stores id) false

-- a commit with the older ones behind it: the newest with this number
abbrev pub from_number : ℕ → List Commit → Option (Commit × List Commit)
from_number number [] = None
from_number number (c ∷ older) = if c.number == number then Some (c, older) else from_number number older
