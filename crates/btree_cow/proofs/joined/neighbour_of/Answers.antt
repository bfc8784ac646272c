use Rattle.btree_cow.proofs.Pairs.{neighbour_behind, neighbour_before}
use Rattle.btree_cow.proofs.joined.neighbour_of.Goals as goal

pub returns-then-place-children-clause-some : goal.returns-then-place-children-clause-some
returns-then-place-children-clause-some c = neighbour_behind _ _ c.if-place-children.true

pub returns-then-place-gt0-clause-some : goal.returns-then-place-gt0-clause-some
returns-then-place-gt0-clause-some c = neighbour_before _ _ c.requires c.if-place-gt0.true
