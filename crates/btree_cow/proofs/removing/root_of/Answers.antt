use Rattle.std.proofs.Common.{rules}
use Rattle.btree_cow.proofs.Removals.{roots_child, roots_stored}
use Rattle.btree_cow.proofs.Takes.{root_child, root_none, root_stored}
use Rattle.btree_cow.proofs.removing.root_of.Goals as goal

pub returns-in-Some-clause-roots : goal.returns-in-Some-clause-roots
returns-in-Some-clause-roots g c = λ told. roots_child (g.P.Pages.shelf c.args.pages.now) c.args.node.now.leaf c.args.node.now.entries.items c.in-Some.child c.in-Some.ensures.some

pub returns-clause-roots : goal.returns-clause-roots
returns-clause-roots g c = λ told.
    roots_stored (g.P.Pages.shelf c.args.pages.now) (g.P.Pages.shelf c.add_node.new.pages) c.in_ok-at.at c.args.node.now.leaf c.args.node.now.entries.items c.as_slice.result.now c.as_slice.ensures.value (search rules)
    c.in_default.ensures.none (c.in_ok-at.ensures.added told)

pub returns-then-is_empty-clause-left : goal.returns-then-is_empty-clause-left
returns-then-is_empty-clause-left g c = λ told. root_none (g.P.Pages.shelf c.args.pages.now) c.args.node.now.leaf c.args.node.now.entries.items (search rules)

pub returns-in-Some-clause-left : goal.returns-in-Some-clause-left
returns-in-Some-clause-left g c = λ told. root_child (g.P.Pages.shelf c.args.pages.now) c.args.node.now.leaf c.args.node.now.entries.items c.in-Some.child c.in-Some.ensures.some

pub returns-clause-left : goal.returns-clause-left
returns-clause-left g c = λ told.
    root_stored (g.P.Pages.shelf c.args.pages.now) (g.P.Pages.shelf c.add_node.new.pages) c.args.node.now.leaf c.args.node.now.entries.items c.as_slice.result.now c.in_ok-at.at c.as_slice.ensures.value (c.in_ok-at.ensures.added told)
