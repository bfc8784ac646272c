use Rattle.std.proofs.Common.{arith}
use Rattle.std.proofs.lemmas.Result.{err_from_is_err_and}
use Rattle.btree_cow.proofs.Finds.{ok_never}
use Rattle.btree_cow.proofs.Applications.{applies_start, left_few, left_fails, left_next, left_stands, runs_whole, still_whole}
use Rattle.btree_cow.proofs.Growth.{later_on}
use Rattle.btree_cow.proofs.applying.apply.Goals as goal

pub returns-in_err-at-clause-stands : goal.returns-in_err-at-clause-stands
returns-in_err-at-clause-stands g c = λ told ok entries tree.
    let p = err_from_is_err_and c.from_residual.result c.from_residual.ensures.1 in
    rw (p.1, p.2)
    (left_stands g.P.Pages.tells (g.P.Pages.shelf c.args.pages.now) (g.P.Pages.shelf c.loop-change.pages) (g.P.Pages.shelf c.apply_one.new.pages) _ _ c.args.root c.loop-change.at c.args.changes.now _ ok entries _ told c.loop-change.invariant tree
    (c.in_err-at.ensures.stands told))

pub loop-change-preserved : goal.loop-change-preserved
loop-change-preserved g c =
    left_next g.P.Pages.tells (g.P.Pages.shelf c.args.pages.now) (g.P.Pages.shelf c.loop-change.pages) (g.P.Pages.shelf c.apply_one.new.pages) _ _ _ c.args.root c.loop-change.at c.in_ok-at.at c.args.changes.now c.loop-change.change-index _
    c.loop-change-test.true c.loop-change.invariant c.in_ok-at.ensures.later c.in_ok-at.ensures.limits c.in_ok-at.ensures.most (c.in_ok-at.ensures.untroubled (ok_never _ _)) c.in_ok-at.ensures.applied c.in_ok-at.ensures.copies c.in_ok-at.ensures.absent

pub returns-in_err-at-clause-later : goal.returns-in_err-at-clause-later
returns-in_err-at-clause-later g c = λ told. later_on _ _ _ (c.loop-change.invariant.later told) (c.in_err-at.ensures.later told)

pub loop-change-init : goal.loop-change-init
loop-change-init g c = applies_start g.P.Pages.tells (g.P.Pages.shelf c.args.pages.now) (g.P.Pages.faults c.args.pages.now) c.args.root c.args.changes.now

pub returns-in_err-at-clause-reason : goal.returns-in_err-at-clause-reason
returns-in_err-at-clause-reason g c =
    let p = err_from_is_err_and c.from_residual.result c.from_residual.ensures.1 in
    rw (p.1, p.2)
    (left_fails g.P.Pages.tells (g.P.Pages.shelf c.args.pages.now) (g.P.Pages.shelf c.loop-change.pages) (g.P.Pages.shelf c.apply_one.new.pages) _ _ _ c.args.root c.loop-change.at c.args.changes.now
    c.loop-change.change-index _ _ c.loop-change-test.true c.loop-change.invariant c.in_err-at.ensures.later c.in_err-at.ensures.reason)

pub returns-clause-copies : goal.returns-clause-copies
returns-clause-copies g c = λ told.
    runs_whole g.P.Pages.tells (g.P.Pages.shelf c.args.pages.now) (g.P.Pages.shelf c.loop-change.pages) _ _ c.args.root c.loop-change.at c.args.changes.now c.loop-change.change-index c.loop-change-test.false c.loop-change.invariant told

pub returns-in_err-at-clause-few : goal.returns-in_err-at-clause-few
returns-in_err-at-clause-few g c =
    left_few g.P.Pages.tells (g.P.Pages.shelf c.args.pages.now) (g.P.Pages.shelf c.loop-change.pages) (g.P.Pages.shelf c.apply_one.new.pages) _ _ c.args.root c.loop-change.at c.args.changes.now c.loop-change.change-index
    c.loop-change-test.true c.loop-change.invariant c.in_err-at.ensures.most

pub returns-clause-few : goal.returns-clause-few
returns-clause-few g c = omega (arith, c.loop-change.invariant.few)

pub returns-clause-absent : goal.returns-clause-absent
returns-clause-absent g c = still_whole g.P.Pages.tells (g.P.Pages.shelf c.args.pages.now) (g.P.Pages.shelf c.loop-change.pages) _ _ c.args.root c.loop-change.at c.args.changes.now _ c.loop-change.invariant
