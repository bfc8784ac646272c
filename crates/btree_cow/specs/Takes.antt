-- What a removal makes of the nodes on its way, and what changes make of a root, on any blocks.
use Rattle.std.specs.Prelude.{◌≡◌, ◌⊎◌, ℕ, zero, suc, ◌+◌, ◌<◌, ◌≤◌, Bool, true, false, List, [], ◌∷◌, length, remove, Option, Some, None, Result, Ok, Err}
use Rattle.node_page.specs.Nodes.{Entry, rises}
use Rattle.btree_cow.specs.Shelf.{Shelf, Later}
use Rattle.btree_cow.specs.Trees.{NodeAt}
use Rattle.forest_model.specs.declared.refusal.Refusal.{Refusal}
use Rattle.btree_cow.specs.Changes.{Change, without_entry}
use Rattle.btree_cow.specs.Growing.{IsChild}
use Rattle.btree_cow.specs.Copies.{IsMade, Inserts, node_count}
use Rattle.btree_cow.specs.Shrinking.{IsNeighbour, first_place, led_to, side_by_side, with_joined}
use Rattle.btree_cow.specs.declared.grown.Grown.{Grown}
use Rattle.btree_cow.specs.declared.shrunk.Shrunk.{Shrunk}
use Rattle.btree_cow.specs.declared.shrunk.Shrunk.TheVariants.{Absent, Stored, Short}

-- ---- one node

-- what is left of a node is stored in a new block, from a number on, if it is enough for one
abbrev pub IsSettled : ℕ → Shelf → Bool → List Entry → Shrunk → Type 0
IsSettled from s leaf content Absent = ⊥
IsSettled from s leaf content (Stored block) = (126 ≤ length content) × NodeAt s block leaf content × (from ≤ block)
IsSettled from s leaf content (Short node) = (length content < 126) × (node.leaf ≡ leaf) × (node.entries.items ≡ content)

abbrev pub stored_count : Shrunk → ℕ
stored_count Absent = 0
stored_count (Stored block) = 1
stored_count (Short node) = 0

-- the most blocks that the last step of a removal adds, by its answer
abbrev pub most_stored : Result Shrunk Refusal → ℕ
most_stored (Ok shrunk) = stored_count shrunk
most_stored (Err why) = 1

-- what is left of a node stands in a block if it is enough for one, and as many blocks were added
pub record Settled (leaf : Bool) (content : List Entry) (old new : Shelf) (shrunk : Shrunk) : Type 0 where
  pub settled : IsSettled old.used new leaf content shrunk
  pub used : new.used ≡ old.used + stored_count shrunk

-- a short node is joined with its neighbour, the next one where there is one, which is below the parent, in new blocks
pub record IsJoined (from : ℕ) (s : Shelf) (at : ℕ) (leaf : Bool) (content children : List Entry) (place : ℕ) (after : List Entry) (nodes : ℕ) : Type 0 where
  pub in_front : Bool
  pub block : ℕ
  pub other : List Entry
  pub neighbour : IsNeighbour children place in_front block
  pub last : in_front ≡ true → length children ≤ place + 1
  pub beside : block < at
  pub node : NodeAt s block leaf other
  pub grown : Grown
  pub made : IsMade from s leaf (side_by_side in_front other content) grown
  pub replaced : after ≡ with_joined children (first_place in_front place) grown
  pub count : nodes ≡ node_count grown

-- a short node is stored as it is in a new block, or is gone where it is empty
abbrev pub IsAlone : ℕ → Shelf → Bool → List Entry → List Entry → ℕ → List Entry → ℕ → Type 0
IsAlone from s leaf content children place after nodes =
    ((content ≡ []) × (after ≡ remove children place) × (nodes ≡ 0))
    ⊎ ((block : ℕ) × NodeAt s block leaf content × (from ≤ block) × (after ≡ led_to children place block) × (nodes ≡ 1))

pub record LeftAlone (leaf : Bool) (content children : List Entry) (place : ℕ) (old new : Shelf) (after : List Entry) : Type 0 where
  pub nodes : ℕ
  pub alone : IsAlone old.used new leaf content children place after nodes
  pub used : new.used ≡ old.used + nodes

-- there is no neighbour, or the next one, else the one before, is of another level or has chunks that aren't on its side
abbrev pub HasNoPartner : Shelf → ℕ → Bool → List Entry → List Entry → ℕ → Type 0
HasNoPartner s at leaf content children place =
    (length children ≤ 1)
    ⊎ ((in_front : Bool) × (block : ℕ) × (level : Bool) × (other : List Entry) × IsNeighbour children place in_front block
    × (in_front ≡ true → length children ≤ place + 1) × (block < at) × NodeAt s block level other × (level ≡ leaf → rises (side_by_side in_front other content) ≡ false))

-- a short node is in its place among its siblings again
abbrev pub IsRefilled : ℕ → Shelf → ℕ → Bool → List Entry → List Entry → ℕ → List Entry → ℕ → Type 0
IsRefilled from s at leaf content children place after nodes =
    IsJoined from s at leaf content children place after nodes
    ⊎ (HasNoPartner s at leaf content children place × IsAlone from s leaf content children place after nodes)

pub record Refilled (at : ℕ) (leaf : Bool) (content children : List Entry) (place : ℕ) (old new : Shelf) (after : List Entry) : Type 0 where
  pub nodes : ℕ
  pub refilled : IsRefilled old.used new at leaf content children place after nodes
  pub used : new.used ≡ old.used + nodes

-- what became of a child is in its place
abbrev pub IsPassed : ℕ → Shelf → ℕ → List Entry → ℕ → Shrunk → Shrunk → ℕ → Type 0
IsPassed from s at children place Absent result nodes = (result ≡ Absent) × (nodes ≡ 0)
IsPassed from s at children place (Stored block) result nodes = IsSettled from s false (led_to children place block) result × (nodes ≡ stored_count result)
IsPassed from s at children place (Short node) result nodes =
    (after : List Entry) × (count : ℕ) × IsRefilled from s at node.leaf node.entries.items children place after count
    × IsSettled from s false after result × (nodes ≡ count + stored_count result)

pub record Passed (at : ℕ) (children : List Entry) (place : ℕ) (below : Shrunk) (old new : Shelf) (result : Shrunk) : Type 0 where
  pub nodes : ℕ
  pub passed : IsPassed old.used new at children place below result nodes
  pub used : new.used ≡ old.used + nodes

-- the chunk is absent, or what is left without it is settled
abbrev pub TakesEntry : ℕ → Shelf → List Entry → ℕ → Shrunk → ℕ → Type 0
TakesEntry from s content chunk shrunk nodes =
    ((shrunk ≡ Absent) × (without_entry content chunk ≡ content) × (nodes ≡ 0))
    ⊎ ((length (without_entry content chunk) < length content) × IsSettled from s true (without_entry content chunk) shrunk × (nodes ≡ stored_count shrunk))

pub record TakesOut (content : List Entry) (chunk : ℕ) (old new : Shelf) (shrunk : Shrunk) : Type 0 where
  pub nodes : ℕ
  pub taken : TakesEntry old.used new content chunk shrunk nodes
  pub used : new.used ≡ old.used + nodes

-- ---- a way

-- So many new nodes stand for those on a way of so many links down: the leaf's entries without the chunk, and above it
-- each node's children, all as they were but the one on the way and, where that got short, its neighbour.
abbrev pub TakesAlong : Shelf → Shelf → ℕ → ℕ → ℕ → Shrunk → ℕ → Type 0
TakesAlong old new zero at chunk shrunk nodes = (content : List Entry) × NodeAt old at true content × TakesEntry old.used new content chunk shrunk nodes
TakesAlong old new (suc links) at chunk shrunk nodes =
    (children : List Entry) × NodeAt old at false children × (place : ℕ) × (child : ℕ) × IsChild children chunk place child × (child < at)
    × (below : Shrunk) × (count : ℕ) × TakesAlong old new links child chunk below count
    × (more : ℕ) × IsPassed old.used new at children place below shrunk more × (nodes ≡ count + more)

-- nodes stand for those on the way from a block, without the chunk, and as many blocks were added: which ones, and that the
-- older ones stay, is said apart
pub record Taken (left at chunk : ℕ) (old new : Shelf) (shrunk : Shrunk) : Type 0 where
  pub links : ℕ
  pub few : links ≤ left
  pub nodes : ℕ
  pub along : TakesAlong old new links at chunk shrunk nodes
  pub used : new.used ≡ old.used + nodes

-- ---- a root

-- the root of what is left: none of nothing, the child in place of an inner node that has only one, else a new node
abbrev pub IsRootLeft : ℕ → Shelf → Bool → List Entry → Option ℕ → ℕ → Type 0
IsRootLeft from s leaf content root nodes =
    ((content ≡ []) × (root ≡ None) × (nodes ≡ 0))
    ⊎ ((c : Entry) × (leaf ≡ false) × (content ≡ c ∷ []) × (root ≡ Some c.1) × (nodes ≡ 0))
    ⊎ ((block : ℕ) × (root ≡ Some block) × NodeAt s block leaf content × (from ≤ block) × (nodes ≡ 1))

pub record RootLeft (leaf : Bool) (content : List Entry) (old new : Shelf) (root : Option ℕ) : Type 0 where
  pub nodes : ℕ
  pub left : IsRootLeft old.used new leaf content root nodes
  pub used : new.used ≡ old.used + nodes

abbrev pub IsRootAfter : ℕ → Shelf → ℕ → Shrunk → Option ℕ → ℕ → Type 0
IsRootAfter from s old Absent root nodes = (root ≡ Some old) × (nodes ≡ 0)
IsRootAfter from s old (Stored block) root nodes = (root ≡ Some block) × (nodes ≡ 0)
IsRootAfter from s old (Short node) root nodes = IsRootLeft from s node.leaf node.entries.items root nodes

-- what a removal adds to a file
abbrev pub Takes : Option ℕ → ℕ → Shelf → Shelf → Option ℕ → Type 0
Takes None chunk old new root = (root ≡ None) × (new ≡ old)
Takes (Some at) chunk old new root =
    (links : ℕ) × (links ≤ 9) × (shrunk : Shrunk) × (nodes : ℕ) × TakesAlong old new links at chunk shrunk nodes
    × (more : ℕ) × IsRootAfter old.used new at shrunk root more × (new.used ≡ old.used + nodes + more)

-- ---- changes one after another

abbrev pub MakesChange : Change → Option ℕ → Shelf → Shelf → Option ℕ → Type 0
MakesChange (chunk, Some value) root old new after = (at : ℕ) × (after ≡ Some at) × (at + 1 ≡ new.used) × Inserts root chunk value old new at
MakesChange (chunk, None) root old new after = Takes root chunk old new after

-- changes lead from a root to another, each over the blocks that the earlier ones left
abbrev pub Runs : List Change → Option ℕ → Shelf → Shelf → Option ℕ → Type 0
Runs [] root old new after = (new ≡ old) × (after ≡ root)
Runs (c ∷ changes) root old new after = (mid : Shelf) × (next : Option ℕ) × Later old mid × MakesChange c root old mid next × Runs changes next mid new after
