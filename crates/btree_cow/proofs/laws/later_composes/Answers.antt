use Rattle.btree_cow.proofs.Growth.{later_same, later_on}
use Rattle.btree_cow.proofs.laws.later_composes.Goals as goal

pub returns-clause-same : goal.returns-clause-same
returns-clause-same c = later_same

pub returns-clause-on : goal.returns-clause-on
returns-clause-on c = later_on
