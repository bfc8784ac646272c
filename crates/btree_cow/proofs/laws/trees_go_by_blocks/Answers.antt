use Rattle.btree_cow.proofs.Stored.{blocks_still}
use Rattle.btree_cow.proofs.Standing.{root_by_blocks}
use Rattle.btree_cow.proofs.laws.trees_go_by_blocks.Goals as goal

pub returns-clause-blocks : goal.returns-clause-blocks
returns-clause-blocks c = root_by_blocks

pub returns-clause-content : goal.returns-clause-content
returns-clause-content c = λ ok s other more root entries goes goes' same behind tree.
    root_by_blocks ok s other root entries (blocks_still s other more goes goes' same behind) tree
