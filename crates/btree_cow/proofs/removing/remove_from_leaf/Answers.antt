use Rattle.std.proofs.Common.{ap, ◌∙◌}
use Rattle.node_page.specs.Nodes.{rises}
use Rattle.btree_cow.proofs.WithoutEntries.{without_rises}
use Rattle.btree_cow.proofs.Removals.{leaf_kept, leaf_removed}
use Rattle.btree_cow.proofs.Takes.{taken_none, taken_out}
use Rattle.btree_cow.proofs.removing.remove_from_leaf.Goals as goal

pub settle-requires-clause-rise : goal.settle-requires-clause-rise
settle-requires-clause-rise g c = ap rises c.take_entry.ensures.left ∙ without_rises c.args.leaf.entries.items c.args.chunk c.requires.rise

pub returns-then-take_entry-clause-removes : goal.returns-then-take_entry-clause-removes
returns-then-take_entry-clause-removes g c = λ told is at node.
    leaf_removed g.P.Pages.tells (g.P.Pages.shelf c.args.pages.now) (g.P.Pages.shelf c.settle.new.pages) c.settle.result at c.args.chunk c.args.leaf.leaf c.args.leaf.entries.items c.take_entry.new.entries.items
    (g.met.P.Pages.lie_below told c.args.pages.now) is node c.take_entry.ensures.left (c.take_entry.ensures.found c.if-take_entry.true) (c.settle.ensures.settles told)

pub returns-else-take_entry-clause-removes : goal.returns-else-take_entry-clause-removes
returns-else-take_entry-clause-removes g c = λ told is at node.
    leaf_kept (g.P.Pages.shelf c.args.pages.now) at c.args.chunk c.args.leaf.entries.items c.take_entry.new.entries.items (g.met.P.Pages.lie_below told c.args.pages.now) node c.take_entry.ensures.left (c.take_entry.ensures.none c.if-take_entry.false)

pub returns-then-take_entry-clause-taken : goal.returns-then-take_entry-clause-taken
returns-then-take_entry-clause-taken g c = λ told is.
    taken_out (g.P.Pages.shelf c.args.pages.now) (g.P.Pages.shelf c.settle.new.pages) c.settle.result c.args.chunk c.args.leaf.leaf c.args.leaf.entries.items c.take_entry.new.entries.items
    is c.take_entry.ensures.left (c.take_entry.ensures.found c.if-take_entry.true) (c.settle.ensures.settled told)

pub returns-else-take_entry-clause-taken : goal.returns-else-take_entry-clause-taken
returns-else-take_entry-clause-taken g c = λ told is.
    taken_none (g.P.Pages.shelf c.args.pages.now) c.args.chunk c.args.leaf.entries.items c.take_entry.new.entries.items c.take_entry.ensures.left (c.take_entry.ensures.none c.if-take_entry.false)
