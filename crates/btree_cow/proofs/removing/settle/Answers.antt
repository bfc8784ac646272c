use Rattle.std.proofs.Common.{arith}
use Rattle.std.proofs.lemmas.Result.{err_from_is_err_and}
use Rattle.btree_cow.proofs.Removals.{settles_stored}
use Rattle.btree_cow.proofs.Takes.{settled_stored, settled_short}
use Rattle.btree_cow.proofs.removing.settle.Goals as goal

pub returns-clause-settles : goal.returns-clause-settles
returns-clause-settles g c = λ told.
    settles_stored c.args.node.leaf c.args.node.entries.items c.as_slice.result.now _ _ c.in_ok-block.block c.as_slice.ensures.value (omega (arith, c.if-len-lt-LEAST.false, c.len.ensures.value)) (c.in_ok-block.ensures.added told)

pub returns-then-len-lt-LEAST-clause-settled : goal.returns-then-len-lt-LEAST-clause-settled
returns-then-len-lt-LEAST-clause-settled g c = λ told. settled_short c.args.node (g.P.Pages.shelf c.args.pages.now) (omega (arith, c.if-len-lt-LEAST.true, c.len.ensures.value))

pub returns-clause-settled : goal.returns-clause-settled
returns-clause-settled g c = λ told.
    settled_stored c.args.node.leaf c.args.node.entries.items c.as_slice.result.now _ _ c.in_ok-block.block c.as_slice.ensures.value (omega (arith, c.if-len-lt-LEAST.false, c.len.ensures.value)) (c.in_ok-block.ensures.added told)

pub returns-in_err-block-clause-few : goal.returns-in_err-block-clause-few
returns-in_err-block-clause-few g c =
    let p = err_from_is_err_and c.from_residual.result c.from_residual.ensures.1 in
    rw (p.1) c.in_err-block.ensures.few
