use Rattle.btree_cow.proofs.Pairs.{follows}
use Rattle.btree_cow.proofs.joined.follow.Goals as goal

pub returns-in-Some-Some : goal.returns-in-Some-Some
returns-in-Some-Some c = follows c.args.front.now c.args.back.now c.in-Some-Some.last.now c.in-Some-Some.first.now c.in-Some-Some.ensures.value c.in-Some-Some.ensures'.value c.requires.first c.requires.second
