use Rattle.std.proofs.Common.{sym, ◌∙◌}
use Rattle.std.proofs.lemmas.Option.{none-some}
use Rattle.btree_cow.proofs.Applications.{absent_parts, fails_so, made_put, made_removal, put_bars, result_so, take_bars}
use Rattle.std.proofs.lemmas.Result.{err_from_is_err_and}
use Rattle.btree_cow.specs.Refused.{BreaksChange, BreaksPut, BreaksTake}
use Rattle.btree_cow.proofs.applying.apply_one.Goals as goal

pub returns-in_ok-insert-in-Some-clause-copies : goal.returns-in_ok-insert-in-Some-clause-copies
returns-in_ok-insert-in-Some-clause-copies g c = λ told.
    made_put c.args.change c.args.root (g.P.Pages.shelf c.args.pages.now) (g.P.Pages.shelf c.insert.new.pages) c.in-Some.value c.in_ok-insert-in-Some.field-0 c.in-Some.is c.in_ok-insert-in-Some.ensures.last (c.in_ok-insert-in-Some.ensures.copies told)

pub returns-in-None-clause-copies : goal.returns-in-None-clause-copies
returns-in-None-clause-copies g c = λ told.
    made_removal c.args.change c.args.root (g.P.Pages.shelf c.args.pages.now) (g.P.Pages.shelf c.remove.new.pages) c.remove.result c.in-None.is (c.remove.ensures.copies told)

pub returns-in_ok-insert-in-Some-clause-absent : goal.returns-in_ok-insert-in-Some-clause-absent
returns-in_ok-insert-in-Some-clause-absent g c = λ told ok entries tree gone. absurd (none-some c.in-Some.value (sym (absent_parts entries c.args.change gone).0 ∙ c.in-Some.is))

pub returns-in-None-clause-absent : goal.returns-in-None-clause-absent
returns-in-None-clause-absent g c = λ told ok entries tree gone. c.remove.ensures.absent told ok entries tree (absent_parts entries c.args.change gone).1

pub returns-in_err-insert-in-Some-clause-reason : goal.returns-in_err-insert-in-Some-clause-reason
returns-in_err-insert-in-Some-clause-reason g c =
    let p = err_from_is_err_and c.from_residual.result c.from_residual.ensures.1 in
    let s = g.P.Pages.shelf c.args.pages.now in
    rw (p.1, p.2)
    (fails_so g.P.Pages.tells (BreaksPut s c.args.root c.args.change.0) (BreaksChange s c.args.root c.args.change) s (g.P.Pages.shelf c.insert.new.pages) _ _ _ (λ block b. put_bars c.args.change c.args.root s c.in-Some.value block c.in-Some.is b)
    c.in_err-insert-in-Some.ensures.reason)

pub returns-in-None-clause-reason : goal.returns-in-None-clause-reason
returns-in-None-clause-reason g c =
    let s = g.P.Pages.shelf c.args.pages.now in
    result_so c.remove.result g.P.Pages.tells (BreaksTake s c.args.root c.args.change.0) (BreaksChange s c.args.root c.args.change) s (g.P.Pages.shelf c.remove.new.pages) _ _ (λ block b. take_bars c.args.change c.args.root s block c.in-None.is b)
    c.remove.ensures.reason
