-- What an insert makes of the nodes on its way, on any blocks.
use Rattle.std.specs.Prelude.{◌≡◌, ℕ, zero, suc, ◌+◌, ◌/◌, ◌<◌, ◌≤◌, Bool, true, false, List, [], ◌∷◌, ◌++◌, length, Option, Some, None}
use Rattle.node_page.specs.Nodes.{Entry}
use Rattle.btree_cow.specs.Shelf.{Shelf}
use Rattle.btree_cow.specs.Trees.{NodeAt}
use Rattle.btree_cow.specs.Changes.{with_entry}
use Rattle.btree_cow.specs.Growing.{IsChild, first_chunk, with_child}
use Rattle.btree_cow.specs.declared.grown.Grown.{Grown}
use Rattle.btree_cow.specs.declared.grown.Grown.TheVariants.{One, Two}

-- more entries than a node has stand in two new nodes, from a number on, half of them in the first
pub record AreHalves (from : ℕ) (s : Shelf) (leaf : Bool) (content : List Entry) (left right : Entry) : Type 0 where
  pub front : List Entry
  pub back : List Entry
  pub split : content ≡ front ++ back
  pub many : 254 ≤ length content
  pub half : length front ≡ length content / 2
  pub left_chunk : left.0 ≡ first_chunk front
  pub right_chunk : right.0 ≡ first_chunk back
  pub left_node : NodeAt s left.1 leaf front
  pub right_node : NodeAt s right.1 leaf back
  pub left_new : from ≤ left.1
  pub right_new : from ≤ right.1

-- entries stand in one new node, from a number on, or in two where they are too many
abbrev pub IsMade : ℕ → Shelf → Bool → List Entry → Grown → Type 0
IsMade from s leaf content (One at) = NodeAt s at leaf content × (from ≤ at)
IsMade from s leaf content (Two left right) = AreHalves from s leaf content left right

abbrev pub node_count : Grown → ℕ
node_count (One at) = 1
node_count (Two left right) = 2

abbrev pub last_block : Grown → ℕ
last_block (One at) = at
last_block (Two left right) = right.1

-- entries stand in one node or two, and as many blocks were added
pub record Makes (leaf : Bool) (content : List Entry) (old new : Shelf) (grown : Grown) : Type 0 where
  pub made : IsMade old.used new leaf content grown
  pub used : new.used ≡ old.used + node_count grown

-- So many new nodes stand for those on a way of so many links down: the leaf's entries with the value for the chunk, and
-- above it each node's children, all as they were but the one on the way.
abbrev pub PutsAlong : Shelf → Shelf → ℕ → ℕ → ℕ → ℕ → Grown → ℕ → Type 0
PutsAlong old new zero at chunk value grown nodes =
    (content : List Entry) × NodeAt old at true content × IsMade old.used new true (with_entry content chunk value) grown × (nodes ≡ node_count grown)
PutsAlong old new (suc links) at chunk value grown nodes =
    (children : List Entry) × NodeAt old at false children × (place : ℕ) × (child : ℕ) × IsChild children chunk place child × (child < at)
    × (below : Grown) × (count : ℕ) × PutsAlong old new links child chunk value below count
    × IsMade old.used new false (with_child children place chunk below) grown × (nodes ≡ count + node_count grown)

-- nodes stand for those on the way from a block, with the value for the chunk, and as many blocks were added: which ones,
-- and that the older ones stay, is said apart
pub record Copied (left at chunk value : ℕ) (old new : Shelf) (grown : Grown) : Type 0 where
  pub links : ℕ
  pub few : links ≤ left
  pub nodes : ℕ
  pub along : PutsAlong old new links at chunk value grown nodes
  pub used : new.used ≡ old.used + nodes

-- what stands in place of a root is the new one, or there is one more node above the two
abbrev pub IsRoot : Shelf → Grown → ℕ → ℕ → Type 0
IsRoot s (One block) at more = (at ≡ block) × (more ≡ 0)
IsRoot s (Two left right) at more = NodeAt s at false (left ∷ right ∷ []) × (more ≡ 1)

-- what an insert adds to a file: a leaf, or copies of the nodes on the way, and a new root where the old one was cut
abbrev pub Inserts : Option ℕ → ℕ → ℕ → Shelf → Shelf → ℕ → Type 0
Inserts None chunk value old new at = NodeAt new at true ((chunk, value) ∷ []) × (new.used ≡ old.used + 1)
Inserts (Some root) chunk value old new at =
    (links : ℕ) × (links ≤ 9) × (grown : Grown) × (nodes : ℕ) × PutsAlong old new links root chunk value grown nodes
    × (more : ℕ) × IsRoot new grown at more × (new.used ≡ old.used + nodes + more)
