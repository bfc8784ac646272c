use Rattle.btree_cow.proofs.TreeEntries.{values_are_well}
use Rattle.btree_cow.proofs.laws.values_are_well.Goals as goal

pub returns : goal.returns
returns c = values_are_well
