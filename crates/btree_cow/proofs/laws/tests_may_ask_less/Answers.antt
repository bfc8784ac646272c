use Rattle.btree_cow.proofs.Standing.{root_so}
use Rattle.btree_cow.proofs.laws.tests_may_ask_less.Goals as goal

pub returns : goal.returns
returns c = root_so
