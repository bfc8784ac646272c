-- Why a change is refused: the block on its way by which it goes no further.
use Rattle.std.specs.Prelude.{◌≡◌, ◌⊎◌, ℕ, zero, suc, ◌+◌, ◌<◌, ◌≤◌, Bool, true, false, List, ◌∷◌, ◌++◌, length, Option, Some, None, IsTrue}
use Rattle.block_host.specs.Disk.{risen}
use Rattle.forest_model.specs.declared.refusal.Refusal.{Refusal}
use Rattle.node_page.specs.Nodes.{Entry}
use Rattle.btree_cow.specs.Shelf.{Shelf, Later}
use Rattle.btree_cow.specs.Trees.{NodeAt}
use Rattle.btree_cow.specs.Causes.{IsNoNode, is_full}
use Rattle.btree_cow.specs.Changes.{Change}
use Rattle.btree_cow.specs.Growing.{AppendFails, IsChild}
use Rattle.btree_cow.specs.Shrinking.{IsNeighbour}
use Rattle.btree_cow.specs.Takes.{Runs, TakesAlong}
use Rattle.btree_cow.specs.declared.overfull.Node.{Node}
use Rattle.btree_cow.specs.declared.shrunk.Shrunk.{Shrunk}
use Rattle.btree_cow.specs.declared.shrunk.Shrunk.TheVariants.{Short}

-- ---- the way of a chunk

-- so many links lead down from a block to another, each from an inner node to the child that takes a chunk, which is below it
abbrev pub WayDown : Shelf → ℕ → ℕ → ℕ → ℕ → Type 0
WayDown s q zero at block = at ≡ block
WayDown s q (suc more) at block =
    (children : List Entry) × NodeAt s at false children × (place : ℕ) × (child : ℕ) × IsChild children q place child × (child < at)
    × WayDown s q more child block

-- a block is an inner node, and the child that takes a chunk isn't below it
abbrev pub LeadsUp : Shelf → ℕ → ℕ → Type 0
LeadsUp s q at = (children : List Entry) × NodeAt s at false children × (place : ℕ) × (child : ℕ) × IsChild children q place child × (at ≤ child)

-- A block on the way of a chunk, so many links at most below another one, from which the way goes no further: it is no
-- node, its child on the way isn't below it, or it is an inner node and no link is left.
pub record BreaksDown (s : Shelf) (left q from block : ℕ) : Type 0 where
  pub links : ℕ
  pub way : WayDown s q links from block
  pub few : links ≤ left
  pub broken : IsNoNode s block ⊎ LeadsUp s q block ⊎ ((left ≤ links) × (children : List Entry) × NodeAt s block false children)

-- what bars a value from being put for a chunk: a block on its way of nine links at most from the root
abbrev pub BreaksPut : Shelf → Option ℕ → ℕ → ℕ → Type 0
BreaksPut s root q block = (at : ℕ) × (root ≡ Some at) × BreaksDown s 9 q at block

-- ---- the neighbour of a short node

-- the neighbour of a child: the next one, else the one before
pub record IsBesideChild (children : List Entry) (place neighbour : ℕ) : Type 0 where
  pub in_front : Bool
  pub beside : IsNeighbour children place in_front neighbour
  pub last : in_front ≡ true → length children ≤ place + 1

-- a removal of a chunk leaves too few entries for a node in place of a block
pub record GetsShort (s : Shelf) (q at : ℕ) : Type 0 where
  pub after : Shelf
  pub later : Later s after
  pub links : ℕ
  pub node : Node
  pub count : ℕ
  pub along : TakesAlong s after links at q (Short node) count

-- The neighbour with which a short node is to be joined: beside the child of a node on the way of a chunk, so many links
-- at most below a block.
pub record JoinsWith (s : Shelf) (left q from parent neighbour : ℕ) : Type 0 where
  pub links : ℕ
  pub way : WayDown s q links from parent
  pub few : links < left
  pub children : List Entry
  pub node : NodeAt s parent false children
  pub place : ℕ
  pub child : ℕ
  pub takes : IsChild children q place child
  pub below : child < parent
  pub short : GetsShort s q child
  pub beside : IsBesideChild children place neighbour

-- a neighbour is no node, or it isn't below its parent, which is then the block that is named
abbrev pub IsNoPartner : Shelf → ℕ → ℕ → ℕ → Type 0
IsNoPartner s parent neighbour block =
    ((block ≡ neighbour) × (neighbour < parent) × IsNoNode s neighbour)
    ⊎ ((block ≡ parent) × (parent ≤ neighbour))

-- a block by which a short node can't be joined with its neighbour
abbrev pub BreaksJoin : Shelf → ℕ → ℕ → ℕ → ℕ → Type 0
BreaksJoin s left q from block = (parent : ℕ) × (neighbour : ℕ) × JoinsWith s left q from parent neighbour × IsNoPartner s parent neighbour block

-- what bars a removal below a block: a block on the chunk's way, or the neighbour of a node on it that got short
abbrev pub BreaksTaking : Shelf → ℕ → ℕ → ℕ → ℕ → Type 0
BreaksTaking s left q from block = BreaksDown s left q from block ⊎ BreaksJoin s left q from block

-- what bars a removal of a chunk, from the root
abbrev pub BreaksTake : Shelf → Option ℕ → ℕ → ℕ → Type 0
BreaksTake s root q block = (at : ℕ) × (root ≡ Some at) × BreaksTaking s 9 q at block

-- what bars a change, from the root
abbrev pub BreaksChange : Shelf → Option ℕ → Change → ℕ → Type 0
BreaksChange s root (chunk, Some value) block = BreaksPut s root chunk block
BreaksChange s root (chunk, None) block = BreaksTake s root chunk block

-- ---- the reasons

-- the reasons not to change what is below a block: no room, a count of faults that rose, or a block that isn't above it
abbrev pub DownFails : Bool → (ℕ → Type 0) → ℕ → Shelf → Shelf → ℕ → ℕ → Refusal → Type 0
DownFails tells Breaks at old new before after why =
    AppendFails new before after why
    ⊎ ((block : ℕ) × (why ≡ Refusal.Damaged old.file block) × (block ≤ at) × (IsTrue tells → Breaks block))

-- by a child at a place and its neighbour no short node can be joined
abbrev pub BreaksPair : List Entry → ℕ → ℕ → Shelf → ℕ → Type 0
BreaksPair children place at s block = (neighbour : ℕ) × IsBesideChild children place neighbour × IsNoPartner s at neighbour block

-- as in `BreaksPair`, for a child that got short
abbrev pub BreaksShort : Shrunk → List Entry → ℕ → ℕ → Shelf → ℕ → Type 0
BreaksShort shrunk children place at s block = (short : Node) × (shrunk ≡ Short short) × BreaksPair children place at s block

-- The reasons not to change a tree: a count of faults that rose, no room for a block more, or a block that bars the change.
abbrev pub ChangeFails : Bool → (ℕ → Type 0) → Shelf → Shelf → ℕ → ℕ → Refusal → Type 0
ChangeFails tells Breaks old new before after why =
    ((why ≡ Refusal.DiskFault) × (risen before ≤ after))
    ⊎ ((why ≡ is_full new) × (new.most ≤ new.used))
    ⊎ ((block : ℕ) × (why ≡ Refusal.Damaged old.file block) × (IsTrue tells → Breaks block))

-- A block that bars the first change that isn't made, in the tree of the root to which those of before led, which is the
-- one handed in before the first; the file only grew from there on.
pub record BreaksRun (changes : List Change) (root : Option ℕ) (old new : Shelf) (block : ℕ) : Type 0 where
  pub done : List Change
  pub change : Change
  pub rest : List Change
  pub split : changes ≡ done ++ change ∷ rest
  pub mid : Shelf
  pub later : Later old mid
  pub at : Option ℕ
  pub run : Runs done root old mid at
  pub goes_on : Later mid new
  pub broken : BreaksChange mid at change block
