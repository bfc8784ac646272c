use Rattle.btree_cow.proofs.Readings.{read_so, no_node_here}
use Rattle.btree_cow.proofs.storing.read_node.Goals as goal

pub returns-in-Some-clause-node : goal.returns-in-Some-clause-node
returns-in-Some-clause-node g c =
    let found = c.in-Some.ensures.cases in
    read_so g.P.Pages.tells (g.P.Pages.shelf c.args.pages.now) c.args.at c.page.new.out c.in-Some.head.leaf c.entries_of.result.items found.0 c.in_ok-page.ensures.given found.2
    (c.entries_of.ensures c.in-Some.head.leaf found.0 found.2 found.1)

pub returns-in-None-clause-reason : goal.returns-in-None-clause-reason
returns-in-None-clause-reason g c =
    no_node_here g.P.Pages.tells (g.P.Pages.shelf c.args.pages.now) (g.P.Pages.shelf c.page.new.self) c.args.at c.file.result (g.P.Pages.faults c.args.pages.now) (g.P.Pages.faults c.page.new.self) c.page.new.out c.in_ok-page.ensures.given
    c.in-None.ensures.cases c.in_ok-page.ensures.kept c.file.ensures
