use Rattle.std.proofs.Common.{sym, ◌∙◌}
use Rattle.std.proofs.lemmas.Result.{err_from_is_err_and}
use Rattle.btree_cow.specs.Barred.{BreaksSearch}
use Rattle.btree_cow.specs.Causes.{Reason}
use Rattle.btree_cow.specs.Finds.{block_of}
use Rattle.btree_cow.proofs.Finds.{ok_never}
use Rattle.btree_cow.proofs.Answered.{goes_on, reads_next}
use Rattle.btree_cow.proofs.Bars.{names_from, names_then, search_disk, search_from, search_then}
use Rattle.btree_cow.proofs.Ways.{never_barred}
use Rattle.btree_cow.proofs.look_up.next.Given
use Rattle.btree_cow.proofs.look_up.next.Goals as goal

pub returns-in_err-near-clause-stands : goal.returns-in_err-near-clause-stands
returns-in_err-near-clause-stands g c = λ told ok entries tree.
    let p = err_from_is_err_and c.from_residual.result c.from_residual.ensures.1 in
    let s = g.P.Pages.shelf c.args.pages.now in
    rw (p.1, p.2)
    (search_disk g.P.Pages.tells ok s c.args.with c.args.up c.args.root entries c.args.chunk s.file (g.P.Pages.faults c.args.pages.now) (g.P.Pages.faults c.walk.new.pages) c.in_err-near.field-0.0 told tree
    (search_from g.P.Pages.tells s s.file (g.P.Pages.faults c.args.pages.now) (g.P.Pages.faults c.walk.new.pages) c.in-Some.at c.args.with c.args.up c.args.root c.args.chunk c.in_err-near.field-0.0 c.in-Some.is c.in_err-near.ensures.reason))

pub returns-in_err-near-clause-reason : goal.returns-in_err-near-clause-reason
returns-in_err-near-clause-reason g c =
    let p = err_from_is_err_and c.from_residual.result c.from_residual.ensures.1 in
    let s = g.P.Pages.shelf c.args.pages.now in
    rw (p.1, p.2)
    (search_from g.P.Pages.tells s s.file (g.P.Pages.faults c.args.pages.now) (g.P.Pages.faults c.walk.new.pages) c.in-Some.at c.args.with c.args.up c.args.root c.args.chunk c.in_err-near.field-0.0 c.in-Some.is c.in_err-near.ensures.reason)

pub returns-in_err-near-clause-asked : goal.returns-in_err-near-clause-asked
returns-in_err-near-clause-asked g c =
    let p = err_from_is_err_and c.from_residual.result c.from_residual.ensures.1 in
    rw (p.1, p.2) (names_from (g.P.Pages.shelf c.args.pages.now).file c.in-Some.at c.args.root c.in_err-near.field-0.0 c.in-Some.is c.in_err-near.ensures.asked)

again : (g : Given.Over) (c : goal.After-from_residual-in_err-first g)
    → Reason g.P.Pages.tells (g.P.Pages.shelf c.args.pages.now).file (BreaksSearch (g.P.Pages.shelf c.args.pages.now) c.args.with c.args.up c.args.root c.args.chunk) (g.P.Pages.faults c.args.pages.now) (g.P.Pages.faults c.walk-2.new.pages)
    c.in_err-first.field-0.0
again g c =
    let s = g.P.Pages.shelf c.args.pages.now in
    let near = c.in_ok-near.near in
    search_then g.P.Pages.tells s (g.P.Pages.shelf c.walk.new.pages) (g.P.Pages.faults c.args.pages.now) (g.P.Pages.faults c.walk.new.pages) (g.P.Pages.faults c.walk-2.new.pages) c.in-Some.at c.args.with c.args.up c.from_edge.result.up c.args.chunk
    c.from_edge.result.chunk c.args.root near.second c.in-Some-second.place near.entry c.in_err-first.field-0.0 c.in-Some.is c.in-Some-second.is (sym c.is_some.ensures ∙ c.if-is_some.false)
    c.in_ok-near.ensures.kept (c.in_ok-near.ensures.untroubled (ok_never _ _)) c.from_edge.ensures.up c.from_edge.ensures.chunk c.in_ok-near.ensures.beside c.in_err-first.ensures.reason

pub returns-in_err-first-clause-reason : goal.returns-in_err-first-clause-reason
returns-in_err-first-clause-reason g c =
    let p = err_from_is_err_and c.from_residual-in_err-first.result c.from_residual-in_err-first.ensures.1 in
    rw (p.1, p.2) (again g c)

pub returns-in_err-first-clause-asked : goal.returns-in_err-first-clause-asked
returns-in_err-first-clause-asked g c =
    let p = err_from_is_err_and c.from_residual-in_err-first.result c.from_residual-in_err-first.ensures.1 in
    rw (p.1, p.2)
    (names_then (g.P.Pages.shelf c.args.pages.now) (g.P.Pages.shelf c.walk.new.pages) c.in-Some.at c.args.root c.in_ok-near.near.second c.in-Some-second.place c.in_err-first.field-0.0 c.in-Some.is c.in-Some-second.is c.in_ok-near.ensures.kept
    c.in_ok-near.ensures.within c.in_err-first.ensures.asked)

pub returns-in_err-first-clause-stands : goal.returns-in_err-first-clause-stands
returns-in_err-first-clause-stands g c = λ told ok entries tree.
    let p = err_from_is_err_and c.from_residual-in_err-first.result c.from_residual-in_err-first.ensures.1 in
    let s = g.P.Pages.shelf c.args.pages.now in
    rw (p.1, p.2)
    (search_disk g.P.Pages.tells ok s c.args.with c.args.up c.args.root entries c.args.chunk s.file (g.P.Pages.faults c.args.pages.now) (g.P.Pages.faults c.walk-2.new.pages) c.in_err-first.field-0.0 told tree (again g c))

pub returns-clause-read : goal.returns-clause-read
returns-clause-read g c = λ told.
    let s = g.P.Pages.shelf c.args.pages.now in
    let near = c.in_ok-near.near in
    let first = c.in_ok-first.first in
    reads_next s c.args.with c.args.up c.args.root c.in-Some.at c.args.chunk near.entry (block_of near.second) first.entry c.in-Some.is (c.in_ok-near.ensures.reached told)
    (goes_on s (g.P.Pages.shelf c.walk.new.pages) c.from_edge.result.with c.args.up c.from_edge.result.up c.from_edge.result.chunk near.entry near.second c.in-Some-second.place first.entry (block_of first.second)
    (sym c.is_some.ensures ∙ c.if-is_some.false) c.in-Some-second.is c.in_ok-near.ensures.kept c.from_edge.ensures.with c.from_edge.ensures.up c.from_edge.ensures.chunk (c.in_ok-first.ensures.reached told))

pub returns-then-is_some-clause-broken : goal.returns-then-is_some-clause-broken
returns-then-is_some-clause-broken g c = λ told.
    never_barred (g.P.Pages.shelf c.args.pages.now) c.args.with c.args.up c.args.root c.in-Some.at c.args.chunk c.in_ok-near.near.entry (block_of c.in_ok-near.near.second) c.in-Some.is (c.in_ok-near.ensures.reached told)

pub returns-in_default-second-clause-broken : goal.returns-in_default-second-clause-broken
returns-in_default-second-clause-broken g c = λ told.
    never_barred (g.P.Pages.shelf c.args.pages.now) c.args.with c.args.up c.args.root c.in-Some.at c.args.chunk c.in_ok-near.near.entry (block_of c.in_ok-near.near.second) c.in-Some.is (c.in_ok-near.ensures.reached told)

pub returns-clause-broken : goal.returns-clause-broken
returns-clause-broken g c = λ told.
    never_barred (g.P.Pages.shelf c.args.pages.now) c.args.with c.args.up c.args.root c.in-Some.at c.args.chunk c.in_ok-near.near.entry (block_of c.in_ok-near.near.second) c.in-Some.is (c.in_ok-near.ensures.reached told)
