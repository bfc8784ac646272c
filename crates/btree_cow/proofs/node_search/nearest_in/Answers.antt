use Rattle.std.proofs.Common.{arith}
use Rattle.btree_cow.proofs.Chosen.{come_to_up, nothing_up, come_to_down, nothing_down}
use Rattle.btree_cow.proofs.node_search.nearest_in.Goals as goal

pub returns-then-early-count : goal.returns-then-early-count
returns-then-early-count c = λ leaf entries node whole.
    come_to_up c.args.aim.with c.args.aim.up c.args.aim.chunk entries c.rank-early.result c.entry.result c.if-aim.true (c.rank-early.ensures.rank leaf entries node whole) (c.entry.ensures leaf entries node (omega arith))

pub returns-else-early-count : goal.returns-else-early-count
returns-else-early-count c = λ leaf entries node whole.
    nothing_up c.args.aim.with c.args.aim.up c.args.aim.chunk entries c.rank-early.result c.if-aim.true (c.rank-early.ensures.rank leaf entries node whole) (omega arith)

pub returns-then-early-gt0 : goal.returns-then-early-gt0
returns-then-early-gt0 c = λ leaf entries node whole.
    come_to_down c.args.aim.with c.args.aim.up c.args.aim.chunk entries c.rank-early.result c.entry-then-early-gt0.result c.if-aim.false c.if-early-gt0.true (c.rank-early.ensures.rank leaf entries node whole) (c.entry-then-early-gt0.ensures leaf entries node (omega (arith, c.rank-early.ensures.within)))

pub returns-else-early-gt0 : goal.returns-else-early-gt0
returns-else-early-gt0 c = λ leaf entries node whole.
    nothing_down c.args.aim.with c.args.aim.up c.args.aim.chunk entries c.rank-early.result c.if-aim.false (omega arith) (c.rank-early.ensures.rank leaf entries node whole)
