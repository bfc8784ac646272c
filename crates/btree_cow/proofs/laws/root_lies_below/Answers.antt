use Rattle.btree_cow.proofs.TreeEntries.{root_is_below}
use Rattle.btree_cow.proofs.laws.root_lies_below.Goals as goal

pub returns : goal.returns
returns c = root_is_below
