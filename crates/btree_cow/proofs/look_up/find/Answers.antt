use Rattle.std.proofs.Common.{sym, ◌∙◌, ℕ, subst, true, false}
use Rattle.std.specs.Prelude.{Option, None}
use Rattle.std.proofs.lemmas.Option.{none-some}
use Rattle.std.proofs.lemmas.Result.{err_from_is_err_and}
use Rattle.btree_cow.specs.Trees.{Tree}
use Rattle.btree_cow.specs.Finds.{block_of}
use Rattle.btree_cow.proofs.Answered.{reads_value, value_found}
use Rattle.btree_cow.proofs.Bars.{find_disk, find_from, names_from}
use Rattle.btree_cow.proofs.Ways.{never_barred}
use Rattle.btree_cow.proofs.look_up.find.Goals as goal

pub returns-in_err-found-clause-stands : goal.returns-in_err-found-clause-stands
returns-in_err-found-clause-stands g c = λ told ok entries tree.
    let p = err_from_is_err_and c.from_residual.result c.from_residual.ensures.1 in
    let s = g.P.Pages.shelf c.args.pages.now in
    rw (p.1, p.2)
    (find_disk g.P.Pages.tells ok s c.args.root entries c.args.chunk s.file (g.P.Pages.faults c.args.pages.now) (g.P.Pages.faults c.walk.new.pages) c.in_err-found.field-0.0 told tree
    (find_from g.P.Pages.tells s s.file (g.P.Pages.faults c.args.pages.now) (g.P.Pages.faults c.walk.new.pages) c.in-Some.at c.args.root c.args.chunk c.in_err-found.field-0.0 c.in-Some.is c.in_err-found.ensures.reason))

pub returns-in_err-found-clause-reason : goal.returns-in_err-found-clause-reason
returns-in_err-found-clause-reason g c =
    let p = err_from_is_err_and c.from_residual.result c.from_residual.ensures.1 in
    let s = g.P.Pages.shelf c.args.pages.now in
    rw (p.1, p.2)
    (find_from g.P.Pages.tells s s.file (g.P.Pages.faults c.args.pages.now) (g.P.Pages.faults c.walk.new.pages) c.in-Some.at c.args.root c.args.chunk c.in_err-found.field-0.0 c.in-Some.is c.in_err-found.ensures.reason)

pub returns-in_err-found-clause-asked : goal.returns-in_err-found-clause-asked
returns-in_err-found-clause-asked g c =
    let p = err_from_is_err_and c.from_residual.result c.from_residual.ensures.1 in
    rw (p.1, p.2) (names_from (g.P.Pages.shelf c.args.pages.now).file c.in-Some.at c.args.root c.in_err-found.field-0.0 c.in-Some.is c.in_err-found.ensures.asked)

pub returns-clause-found : goal.returns-clause-found
returns-clause-found g c = λ told ok entries tree.
    let there = subst (λ (root : Option ℕ). Tree ok (g.P.Pages.shelf c.args.pages.now) root entries) c.in-Some.is tree in
    c.value_at.ensures
    ∙ value_found ok (g.P.Pages.shelf c.args.pages.now) c.args.chunk entries c.in_ok-found.found.entry c.in_ok-found.found.second (c.in_ok-found.ensures.found told ok there.0 1 0 None entries there.1)

pub returns-clause-read : goal.returns-clause-read
returns-clause-read g c = λ told.
    reads_value (g.P.Pages.shelf c.args.pages.now) c.args.root c.in-Some.at c.args.chunk c.in_ok-found.found.entry (block_of c.in_ok-found.found.second) c.value_at.result c.in-Some.is (c.in_ok-found.ensures.reached told) c.value_at.ensures

pub returns-clause-broken : goal.returns-clause-broken
returns-clause-broken g c = λ told.
    never_barred (g.P.Pages.shelf c.args.pages.now) true false c.args.root c.in-Some.at c.args.chunk c.in_ok-found.found.entry (block_of c.in_ok-found.found.second) c.in-Some.is (c.in_ok-found.ensures.reached told)

pub returns-in_default-clause-broken : goal.returns-in_default-clause-broken
returns-in_default-clause-broken g c = λ told at links block is way bars. none-some at (sym c.in_default.is ∙ is)
