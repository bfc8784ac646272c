use Rattle.std.proofs.Common.{arith}
use Rattle.btree_cow.proofs.Chosen.{none_upto, choice}
use Rattle.btree_cow.proofs.node_search.choose.Goals as goal

pub returns-then-not-up : goal.returns-then-not-up
returns-then-not-up c = λ leaf entries node whole.
    (c.if-not-up.true, none_upto c.args.chunk entries c.rank-upto.result c.if-upto-eq0.true (c.rank-upto.ensures.rank leaf entries node whole))

pub returns : goal.returns
returns c = λ leaf entries node whole.
    choice c.args.up c.args.chunk entries c.rank-upto.result c.saturating_sub-chosen.result c.entry-child.result c.sibling_of-sibling.result c.else-upto-eq0.either
    c.saturating_sub-chosen.ensures (c.rank-upto.ensures.rank leaf entries node whole)
    (c.entry-child.ensures leaf entries node (omega (arith, c.rank-upto.ensures.within, c.saturating_sub-chosen.ensures, c.requires.some)))
    (c.sibling_of-sibling.ensures leaf entries node whole)
