use Rattle.std.proofs.Common.{◌≡◌, inl, refl, ap, arith}
use Rattle.std.proofs.lemmas.Result.{err_from_is_err_and}
use Rattle.btree_cow.proofs.Growth.{later_on}
use Rattle.btree_cow.proofs.Refused.{appends_name, root_fails, root_names, root_stands, taking_tree}
use Rattle.btree_cow.specs.Refused.{BreaksTake, BreaksTaking}
use Rattle.btree_cow.proofs.Removals.{short_present, stored_present}
use Rattle.btree_cow.specs.Takes.{stored_count}
use Rattle.btree_cow.proofs.BlockCounts.{one_stored, root_down}
use Rattle.btree_cow.proofs.Takes.{takes_absent, takes_short, takes_stored}
use Rattle.btree_cow.proofs.removing.remove.Goals as goal

pub returns-in_err-remove_from-clause-stands : goal.returns-in_err-remove_from-clause-stands
returns-in_err-remove_from-clause-stands g c = λ told ok entries tree.
    let p = err_from_is_err_and c.from_residual.result c.from_residual.ensures.1 in
    rw (p.1, p.2)
    (root_stands g.P.Pages.tells (BreaksTaking (g.P.Pages.shelf c.args.pages.now) 9 c.args.chunk c.in-Some.at) ok c.args.root c.in-Some.at (g.P.Pages.shelf c.args.pages.now) (g.P.Pages.shelf c.remove_from.new.pages) _ _ _ entries
    (taking_tree (g.P.Pages.shelf c.args.pages.now) c.args.chunk c.in-Some.at) told c.in-Some.is tree c.in_err-remove_from.ensures.reason)

pub returns-in_err-remove_from-clause-reason : goal.returns-in_err-remove_from-clause-reason
returns-in_err-remove_from-clause-reason g c =
    let p = err_from_is_err_and c.from_residual.result c.from_residual.ensures.1 in
    rw (p.1, p.2)
    (root_fails g.P.Pages.tells (BreaksTaking (g.P.Pages.shelf c.args.pages.now) 9 c.args.chunk c.in-Some.at) (BreaksTake (g.P.Pages.shelf c.args.pages.now) c.args.root c.args.chunk) c.in-Some.at (g.P.Pages.shelf c.args.pages.now)
    (g.P.Pages.shelf c.remove_from.new.pages) _ _ _ (λ block b. (c.in-Some.at, c.in-Some.is, b)) c.in_err-remove_from.ensures.reason)

pub returns-in_err-remove_from-clause-asked : goal.returns-in_err-remove_from-clause-asked
returns-in_err-remove_from-clause-asked g c =
    let p = err_from_is_err_and c.from_residual.result c.from_residual.ensures.1 in
    rw (p.1, p.2)
    (root_names g.P.Pages.tells (BreaksTaking (g.P.Pages.shelf c.args.pages.now) 9 c.args.chunk c.in-Some.at) c.args.root c.in-Some.at (g.P.Pages.shelf c.args.pages.now) (g.P.Pages.shelf c.remove_from.new.pages) _ _ _ c.in-Some.is
    c.in_err-remove_from.ensures.reason)

pub returns-in-Short-clause-asked : goal.returns-in-Short-clause-asked
returns-in-Short-clause-asked g c = appends_name c.root_of.result (g.P.Pages.shelf c.root_of.new.pages) _ _ (g.P.Pages.shelf c.args.pages.now).file c.args.root c.root_of.ensures.reason

pub returns-in-Stored-clause-absent : goal.returns-in-Stored-clause-absent
returns-in-Stored-clause-absent g c = λ told ok entries tree absent.
    absurd (stored_present ok (g.P.Pages.shelf c.args.pages.now) (g.P.Pages.shelf c.remove_from.new.pages) c.args.root c.in-Some.at c.args.chunk c.in-Stored.block entries c.in_ok-remove_from.field-0 c.in-Some.is c.in-Stored.is (c.in_ok-remove_from.ensures.removes told) tree absent)

pub returns-in-Short-clause-absent : goal.returns-in-Short-clause-absent
returns-in-Short-clause-absent g c = λ told ok entries tree absent.
    absurd (short_present ok (g.P.Pages.shelf c.args.pages.now) (g.P.Pages.shelf c.remove_from.new.pages) c.args.root c.in-Some.at c.args.chunk c.in-Short.node entries c.in_ok-remove_from.field-0 c.in-Some.is c.in-Short.is (c.in_ok-remove_from.ensures.removes told) tree absent)

pub returns-in-Short-clause-later : goal.returns-in-Short-clause-later
returns-in-Short-clause-later g c = λ told. later_on _ _ _ (c.in_ok-remove_from.ensures.appends.later told) (c.root_of.ensures.appends.later told)

pub returns-in-Absent-clause-copies : goal.returns-in-Absent-clause-copies
returns-in-Absent-clause-copies g c = λ told.
    takes_absent c.args.root c.in-Some.at c.args.chunk (g.P.Pages.shelf c.args.pages.now) (g.P.Pages.shelf c.remove_from.new.pages) c.in_ok-remove_from.field-0 c.in-Some.is c.in-Absent.is (c.in_ok-remove_from.ensures.taken told)

pub returns-in-Stored-clause-copies : goal.returns-in-Stored-clause-copies
returns-in-Stored-clause-copies g c = λ told.
    takes_stored c.args.root c.in-Some.at c.args.chunk c.in-Stored.block (g.P.Pages.shelf c.args.pages.now) (g.P.Pages.shelf c.remove_from.new.pages) c.in_ok-remove_from.field-0 c.in-Some.is c.in-Stored.is (c.in_ok-remove_from.ensures.taken told)

pub returns-in-Short-clause-copies : goal.returns-in-Short-clause-copies
returns-in-Short-clause-copies g c = λ told.
    takes_short c.root_of.result c.args.root c.in-Some.at c.args.chunk c.in-Short.node (g.P.Pages.shelf c.args.pages.now) (g.P.Pages.shelf c.remove_from.new.pages) (g.P.Pages.shelf c.root_of.new.pages) c.in_ok-remove_from.field-0
    c.in-Some.is c.in-Short.is (c.root_of.ensures.appends.later told) (c.in_ok-remove_from.ensures.taken told) (c.root_of.ensures.left told)

pub returns-in_err-remove_from-clause-few : goal.returns-in_err-remove_from-clause-few
returns-in_err-remove_from-clause-few g c = λ told ok at height entries is tree.
    omega (arith, c.in_err-remove_from.ensures.few height (root_down g.P.Pages.tells 9 at c.in-Some.at height c.args.root (g.P.Pages.shelf c.args.pages.now) ok entries told c.in-Some.is is tree))

pub returns-in-Absent-clause-few : goal.returns-in-Absent-clause-few
returns-in-Absent-clause-few g c = λ told ok at height entries is tree.
    omega (arith, one_stored c.in_ok-remove_from.field-0, c.in_ok-remove_from.ensures.few height (root_down g.P.Pages.tells 9 at c.in-Some.at height c.args.root (g.P.Pages.shelf c.args.pages.now) ok entries told c.in-Some.is is tree))

pub returns-in-Stored-clause-few : goal.returns-in-Stored-clause-few
returns-in-Stored-clause-few g c = λ told ok at height entries is tree.
    omega (arith, one_stored c.in_ok-remove_from.field-0, c.in_ok-remove_from.ensures.few height (root_down g.P.Pages.tells 9 at c.in-Some.at height c.args.root (g.P.Pages.shelf c.args.pages.now) ok entries told c.in-Some.is is tree))

pub returns-in-Short-clause-few : goal.returns-in-Short-clause-few
returns-in-Short-clause-few g c = λ told ok at height entries is tree.
    let none : stored_count c.in_ok-remove_from.field-0 ≡ 0 = ap stored_count c.in-Short.is in
    omega (arith, none, c.root_of.ensures.few, c.in_ok-remove_from.ensures.few height (root_down g.P.Pages.tells 9 at c.in-Some.at height c.args.root (g.P.Pages.shelf c.args.pages.now) ok entries told c.in-Some.is is tree))

pub returns-in_err-remove_from-clause-most : goal.returns-in_err-remove_from-clause-most
returns-in_err-remove_from-clause-most g c = omega (arith, c.in_err-remove_from.ensures.few 9 (inl refl))

pub returns-in-Absent-clause-most : goal.returns-in-Absent-clause-most
returns-in-Absent-clause-most g c = omega (arith, one_stored c.in_ok-remove_from.field-0, c.in_ok-remove_from.ensures.few 9 (inl refl))

pub returns-in-Stored-clause-most : goal.returns-in-Stored-clause-most
returns-in-Stored-clause-most g c = omega (arith, one_stored c.in_ok-remove_from.field-0, c.in_ok-remove_from.ensures.few 9 (inl refl))

pub returns-in-Short-clause-most : goal.returns-in-Short-clause-most
returns-in-Short-clause-most g c = omega (arith, one_stored c.in_ok-remove_from.field-0, c.root_of.ensures.few, c.in_ok-remove_from.ensures.few 9 (inl refl))
