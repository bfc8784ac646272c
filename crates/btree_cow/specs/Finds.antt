-- What a walk down a tree comes to.
use Rattle.std.specs.Prelude.{◌≡◌, ℕ, ◌+◌, ◌≤◌, Bool, true, ◌&&◌, List, [], nat_lt, ◌==◌, if◌then◌else◌, Option, Some, None, IsTrue}
use Rattle.std.specs.Option.{option_or, option_map_or}
use Rattle.node_page.specs.Nodes.{Entry, rises}
use Rattle.btree_cow.specs.Shelf.{Shelf}
use Rattle.btree_cow.specs.Trees.{TreeAt, nearest, value_of}
use Rattle.btree_cow.specs.Walks.{first_of, EndsAt}
use Rattle.btree_cow.specs.Barred.{IsBeside}
use Rattle.btree_cow.specs.declared.walk.Place.{Place}

-- the entries of the place where the search goes on, and none where there is none
abbrev pub Remains : (ℕ → ℕ → Bool) → Shelf → Option Place → List Entry → Type 0
Remains ok s None entries = entries ≡ []
Remains ok s (Some place) entries = (height low : ℕ) × (high : Option ℕ) × TreeAt ok s height 126 place.at low high entries

-- The search in a tree comes to this entry of a leaf, else to the first one where it goes on; and the leaf has the chunk
-- where the tree has it.
pub record Finds (ok : ℕ → ℕ → Bool) (s : Shelf) (with up : Bool) (q : ℕ) (entries : List Entry) (entry : Option Entry) (second : Option Place) : Type 0 where
  pub leaf : List Entry
  pub rise : IsTrue (rises leaf)
  pub here : entry ≡ nearest with up leaf q
  pub value : value_of entries q ≡ value_of leaf q
  pub rest : List Entry
  pub near : nearest with up entries q ≡ option_or entry (first_of up rest)
  pub remains : Remains ok s second rest

-- a place that is neither too deep nor above another one
pub record IsWithin (from place : Place) : Type 0 where
  pub shallow : place.depth ≤ 9
  pub under : place.at ≤ from.at

-- a place is the sibling nearest to the end of a way from another one, and the way ends with an entry or none
pub record IsNearest (s : Shelf) (with up : Bool) (q : ℕ) (from place : Place) (entry : Option Entry) : Type 0 where
  pub depth : ℕ
  pub deeper : place.depth ≡ from.depth + depth
  pub block : ℕ
  pub beside : IsBeside s up q from.at depth place.at block
  pub end : EndsAt s with up q block entry

-- the block of a place
abbrev pub block_of : Option Place → Option ℕ
block_of None = None
block_of (Some place) = Some place.at

abbrev pub next_place : Option ℕ → ℕ → Option Place → Option Place
next_place None depth second = second
next_place (Some at) depth second = Some (record { at = at; depth = depth })

abbrev pub lie_under : ℕ → Option ℕ → ℕ → Bool
lie_under child sibling at = nat_lt child at && option_map_or (λ (s : ℕ). nat_lt s at) sibling true

-- the value of an entry, if it is that of a chunk
abbrev pub value_in : Option Entry → ℕ → Option ℕ
value_in None chunk = None
value_in (Some e) chunk = if e.0 == chunk then Some e.1 else None
