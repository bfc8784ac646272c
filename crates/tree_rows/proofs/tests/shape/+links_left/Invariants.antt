use Rattle.tree_rows.proofs.tests.shape.+links_left.Given as goal

abbrev pub decreases-links_left : goal.decreases-links_left
decreases-links_left l = l.left
