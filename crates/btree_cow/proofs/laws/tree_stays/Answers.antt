use Rattle.btree_cow.proofs.Standing.{root_later}
use Rattle.btree_cow.proofs.laws.tree_stays.Goals as goal

pub returns : goal.returns
returns c = root_later
