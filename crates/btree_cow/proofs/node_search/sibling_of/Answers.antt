use Rattle.std.proofs.Common.{◌+◌, arith, drop}
use Rattle.btree_cow.proofs.Chosen.{sibling_up, sibling_down}
use Rattle.btree_cow.proofs.node_search.sibling_of.Goals as goal

pub returns-then-chosen-count : goal.returns-then-chosen-count
returns-then-chosen-count c = λ leaf entries node whole.
    sibling_up c.args.up entries c.args.chosen c.entry-next.result c.if-up.true (c.entry-next.ensures leaf entries node (omega arith))

pub returns-then-chosen-gt0 : goal.returns-then-chosen-gt0
returns-then-chosen-gt0 c = λ leaf entries node whole.
    sibling_down c.args.up entries (drop (c.args.chosen + 1) entries) c.args.chosen c.entry-last.result c.if-up.false c.if-chosen-gt0.true (c.entry-last.ensures leaf entries node (omega (arith, c.requires.within)))
