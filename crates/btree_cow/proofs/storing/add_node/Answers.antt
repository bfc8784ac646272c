use Rattle.btree_cow.proofs.BlockCounts.{add_fails, add_few, add_refused, added_so}
use Rattle.btree_cow.proofs.storing.add_node.Goals as goal

pub returns-clause-reason : goal.returns-clause-reason
returns-clause-reason g c = add_fails c.add.result (g.P.Pages.shelf c.args.pages.now) (g.P.Pages.shelf c.add.new.self) _ _ c.add.ensures.reason

pub returns-clause-refused : goal.returns-clause-refused
returns-clause-refused g c = add_refused c.add.result (g.P.Pages.shelf c.args.pages.now) (g.P.Pages.shelf c.add.new.self) _ _ c.add.ensures.reason

pub returns-clause-few : goal.returns-clause-few
returns-clause-few g c = add_few c.add.result (g.P.Pages.shelf c.args.pages.now) (g.P.Pages.shelf c.add.new.self) _ _ c.add.ensures.counted c.add.ensures.reason

pub returns-clause-appends : goal.returns-clause-appends
returns-clause-appends g c =
    added_so g.P.Pages.tells c.add.result c.leaf_from.result (g.P.Pages.shelf c.args.pages.now) (g.P.Pages.shelf c.add.new.self) _ _ c.add.ensures.added c.add.ensures.counted c.add.ensures.reason c.add.ensures.counts
