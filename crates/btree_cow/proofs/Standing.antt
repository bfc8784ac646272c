-- Trees in a file whose blocks stand in another one too.
use Rattle.std.proofs.Common.{◌≡◌, ℕ, zero, suc, Bool, true, false, List, arith}
use Rattle.std.specs.Prelude.{Option, Some, None}
use Rattle.node_page.specs.Nodes.{Entry}
use Rattle.btree_cow.specs.Shelf.{Shelf, Stored, Later}
use Rattle.btree_cow.specs.Trees.{NodeAt, Tree, TreeAt}
use Rattle.btree_cow.proofs.Finds.{all_so}
use Rattle.btree_cow.proofs.Growth.{fan_over}

abbrev HasBlocksOf : Shelf → Shelf → Type 0
HasBlocksOf s other = (at : ℕ) (stored : Stored) → s.blocks at ≡ Some stored → other.blocks at ≡ Some stored

node_by : (s other : Shelf) (at : ℕ) (leaf : Bool) (es : List Entry) → HasBlocksOf s other → NodeAt s at leaf es → NodeAt other at leaf es
node_by s other at leaf es has node = (node.0, has at (record { kind = 2; page = node.0 }) node.1, node.2)

tree_by : (ok : ℕ → ℕ → Bool) (s other : Shelf) → HasBlocksOf s other → (height least at low : ℕ) (high : Option ℕ) (entries : List Entry) → TreeAt ok s height least at low high entries → TreeAt ok other height least at low high entries
tree_by ok s other has zero least at low high entries tree = (node_by s other at true entries has tree.0, tree.1, tree.2, tree.3)
tree_by ok s other has (suc height) least at low high entries tree = (
  tree.0,
  node_by s other at false tree.0 has tree.1,
  tree.2,
  tree.3,
  tree.4,
  fan_over (TreeAt ok s height 126) (TreeAt ok other height 126) (λ a l h es t. tree_by ok s other has height 126 a l h es t) at at (omega arith) tree.0 high entries tree.5,
)

pub root_by_blocks : (ok : ℕ → ℕ → Bool) (s other : Shelf) (root : Option ℕ) (entries : List Entry) → HasBlocksOf s other → Tree ok s root entries → Tree ok other root entries
root_by_blocks ok s other None entries has tree = tree
root_by_blocks ok s other (Some at) entries has tree = (tree.0, tree_by ok s other has tree.0 1 at 0 None entries tree.1)

pub root_later : (ok : ℕ → ℕ → Bool) (old new : Shelf) (root : Option ℕ) (entries : List Entry) → Later old new → Tree ok old root entries → Tree ok new root entries
root_later ok old new root entries later tree = root_by_blocks ok old new root entries later.blocks tree

-- what is well by one test is well by another
tree_so : (ok other : ℕ → ℕ → Bool) → ((at value : ℕ) → ok at value ≡ true → other at value ≡ true) → (s : Shelf) (height least at low : ℕ) (high : Option ℕ) (entries : List Entry) → TreeAt ok s height least at low high entries → TreeAt other s height least at low high entries
tree_so ok other so s zero least at low high entries tree =
    (tree.0, tree.1, tree.2, all_so (λ (e : Entry). ok at e.1) (λ (e : Entry). other at e.1) (λ e h. so at e.1 h) entries tree.3)
tree_so ok other so s (suc height) least at low high entries tree =
    (tree.0, tree.1, tree.2, tree.3, tree.4, fan_over (TreeAt ok s height 126) (TreeAt other s height 126) (λ a l h es t. tree_so ok other so s height 126 a l h es t) at at (omega arith) tree.0 high entries tree.5)

pub root_so : (ok other : ℕ → ℕ → Bool) (s : Shelf) (root : Option ℕ) (entries : List Entry) → ((at value : ℕ) → ok at value ≡ true → other at value ≡ true) → Tree ok s root entries → Tree other s root entries
root_so ok other s None entries so tree = tree
root_so ok other s (Some at) entries so tree = (tree.0, tree_so ok other so s tree.0 1 at 0 None entries tree.1)
