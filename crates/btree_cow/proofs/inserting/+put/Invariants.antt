use Rattle.btree_cow.proofs.inserting.+put.Given as goal

abbrev pub decreases-put : goal.decreases-put
decreases-put g l = l.left
