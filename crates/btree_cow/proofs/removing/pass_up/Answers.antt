use Rattle.std.proofs.Common.{◌≡◌, ap, ◌∙◌, arith}
use Rattle.node_page.specs.Nodes.{rises}
use Rattle.btree_cow.specs.Takes.{stored_count}
use Rattle.btree_cow.proofs.Additions.{appends_on}
use Rattle.btree_cow.proofs.BlockCounts.{one_stored}
use Rattle.std.proofs.lemmas.Result.{err_from_is_err_and}
use Rattle.btree_cow.proofs.Pairs.{led_rises}
use Rattle.btree_cow.proofs.Refused.{short_fails}
use Rattle.btree_cow.proofs.Removals.{absent_passed, stored_passed, short_passed}
use Rattle.btree_cow.proofs.Takes.{passed_absent, passed_short, passed_stored}
use Rattle.btree_cow.proofs.removing.pass_up.Goals as goal

pub returns-in-Absent-clause-passes : goal.returns-in-Absent-clause-passes
returns-in-Absent-clause-passes g c = λ told is. absent_passed (g.P.Pages.shelf c.args.pages.now) c.args.node.entries.items c.args.place c.args.shrunk c.in-Absent.is

pub settle-requires-clause-rise : goal.settle-requires-clause-rise
settle-requires-clause-rise g c = ap rises c.lead_to.ensures ∙ led_rises c.args.node.entries.items c.args.place c.in-Stored.block c.requires.rise

pub returns-in-Stored-clause-passes : goal.returns-in-Stored-clause-passes
returns-in-Stored-clause-passes g c = λ told is.
    stored_passed (g.P.Pages.shelf c.args.pages.now) (g.P.Pages.shelf c.settle.new.pages) c.settle.result c.args.node.leaf c.args.node.entries.items c.lead_to.new.children.items c.args.place c.in-Stored.block c.args.shrunk
    (g.met.P.Pages.lie_below told c.args.pages.now) is c.in-Stored.is c.lead_to.ensures (c.settle.ensures.settles told)

pub returns-in_ok-refill-in-Short-clause-passes : goal.returns-in_ok-refill-in-Short-clause-passes
returns-in_ok-refill-in-Short-clause-passes g c = λ told is.
    short_passed (g.P.Pages.shelf c.args.pages.now) (g.P.Pages.shelf c.refill.new.pages) (g.P.Pages.shelf c.settle-in-Short.new.pages) c.settle-in-Short.result c.args.node.leaf c.args.node.entries.items c.refill.new.children.items c.args.place
    c.args.shrunk c.in-Short.short is c.in-Short.is (c.in_ok-refill-in-Short.ensures.refills told) (c.settle-in-Short.ensures.settles told)

pub returns-in_ok-refill-in-Short-clause-appends : goal.returns-in_ok-refill-in-Short-clause-appends
returns-in_ok-refill-in-Short-clause-appends g c = appends_on _ _ _ _ _ _ _ c.in_ok-refill-in-Short.ensures.appends c.settle-in-Short.ensures.appends

pub returns-in-Absent-clause-passed : goal.returns-in-Absent-clause-passed
returns-in-Absent-clause-passed g c = λ told is. passed_absent c.args.at (g.P.Pages.shelf c.args.pages.now) c.args.node.entries.items c.args.place c.args.shrunk c.in-Absent.is

pub returns-in-Stored-clause-passed : goal.returns-in-Stored-clause-passed
returns-in-Stored-clause-passed g c = λ told is.
    passed_stored c.args.at (g.P.Pages.shelf c.args.pages.now) (g.P.Pages.shelf c.settle.new.pages) c.settle.result c.args.node.leaf c.args.node.entries.items c.lead_to.new.children.items c.args.place c.in-Stored.block c.args.shrunk
    is c.in-Stored.is c.lead_to.ensures (c.settle.ensures.settled told)

pub returns-in_ok-refill-in-Short-clause-passed : goal.returns-in_ok-refill-in-Short-clause-passed
returns-in_ok-refill-in-Short-clause-passed g c = λ told is.
    passed_short c.args.at (g.P.Pages.shelf c.args.pages.now) (g.P.Pages.shelf c.refill.new.pages) (g.P.Pages.shelf c.settle-in-Short.new.pages) c.settle-in-Short.result c.args.node.leaf c.args.node.entries.items c.refill.new.children.items c.args.place
    c.args.shrunk c.in-Short.short is c.in-Short.is (c.settle-in-Short.ensures.appends.later told) (c.in_ok-refill-in-Short.ensures.refilled told) (c.settle-in-Short.ensures.settled told)

pub returns-in-Absent-clause-few : goal.returns-in-Absent-clause-few
returns-in-Absent-clause-few g c = omega (arith, one_stored c.args.shrunk)

pub returns-in-Stored-clause-few : goal.returns-in-Stored-clause-few
returns-in-Stored-clause-few g c = omega (arith, one_stored c.args.shrunk, c.settle.ensures.few)

pub returns-in_err-refill-in-Short-clause-few : goal.returns-in_err-refill-in-Short-clause-few
returns-in_err-refill-in-Short-clause-few g c =
    let none : stored_count c.args.shrunk ≡ 0 = ap stored_count c.in-Short.is in
    omega (arith, none, c.in_err-refill-in-Short.ensures.few)

pub returns-in_ok-refill-in-Short-clause-few : goal.returns-in_ok-refill-in-Short-clause-few
returns-in_ok-refill-in-Short-clause-few g c =
    let none : stored_count c.args.shrunk ≡ 0 = ap stored_count c.in-Short.is in
    omega (arith, none, c.in_ok-refill-in-Short.ensures.few, c.settle-in-Short.ensures.few)

pub returns-in_err-refill-in-Short-clause-reason : goal.returns-in_err-refill-in-Short-clause-reason
returns-in_err-refill-in-Short-clause-reason g c =
    let p = err_from_is_err_and c.from_residual.result c.from_residual.ensures.1 in
    rw (p.1, p.2)
    (short_fails g.P.Pages.tells c.args.shrunk c.in-Short.short c.args.node.entries.items c.args.place c.args.at (g.P.Pages.shelf c.args.pages.now) (g.P.Pages.shelf c.refill.new.pages) _ _ _ c.in-Short.is c.in_err-refill-in-Short.ensures.reason)
