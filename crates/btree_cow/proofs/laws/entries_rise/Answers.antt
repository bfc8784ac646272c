use Rattle.btree_cow.proofs.TreeEntries.{entries_rise}
use Rattle.btree_cow.proofs.laws.entries_rise.Goals as goal

pub returns : goal.returns
returns c = entries_rise
