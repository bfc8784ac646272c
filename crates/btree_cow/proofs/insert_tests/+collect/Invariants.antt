use Rattle.btree_cow.proofs.insert_tests.+collect.Given as goal

abbrev pub decreases-collect : goal.decreases-collect
decreases-collect l = l.left
