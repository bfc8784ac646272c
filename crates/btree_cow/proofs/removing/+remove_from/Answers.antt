use Rattle.std.proofs.Common.{inl, ◌+◌, ◌-◌, ◌*◌, refl, arith}
use Rattle.std.proofs.lemmas.Result.{err_from_is_err_and}
use Rattle.btree_cow.specs.Takes.{most_stored, stored_count}
use Rattle.btree_cow.proofs.BlockCounts.{after_read, inner_few, only_read}
use Rattle.btree_cow.proofs.Finds.{ok_never}
use Rattle.btree_cow.proofs.Additions.{appends_after}
use Rattle.btree_cow.proofs.Refused.{below_fails, none_here, nowhere_fails, read_fails, refill_failed, taking_more}
use Rattle.btree_cow.specs.Refused.{BreaksTaking}
use Rattle.btree_cow.proofs.Removals.{inner_removed}
use Rattle.btree_cow.proofs.Takes.{taken_inner, taken_leaf}
use Rattle.btree_cow.proofs.removing.+remove_from.Goals as goal

pub returns-in_err-node-clause-reason : goal.returns-in_err-node-clause-reason
returns-in_err-node-clause-reason g t c =
    let p = err_from_is_err_and c.from_residual.result c.from_residual.ensures.1 in
    let s = g.P.Pages.shelf c.args.pages.now in
    rw (p.1, p.2) (read_fails g.P.Pages.tells (BreaksTaking s c.args.left c.args.chunk c.args.at) c.args.at s (g.P.Pages.shelf c.read_node.new.pages) _ _ _ (λ none. inl (none_here s c.args.left c.args.chunk c.args.at none)) c.in_err-node.ensures.reason)

pub returns-in_default-clause-reason : goal.returns-in_default-clause-reason
returns-in_default-clause-reason g t c =
    nowhere_fails g.P.Pages.tells (BreaksTaking (g.P.Pages.shelf c.args.pages.now) c.args.left c.args.chunk c.args.at) c.args.left c.args.at c.args.chunk c.file.result _ _ (g.P.Pages.shelf c.args.pages.now) (g.P.Pages.shelf c.read_node.new.pages)
    c.in_ok-node.node.leaf c.in_ok-node.node.entries.items c.as_slice.result.now (λ b. inl b) c.in_ok-node.ensures.kept c.file.ensures c.if-node.false c.in_ok-node.ensures.node c.as_slice.ensures.value c.in_default.ensures.none

pub returns-in_err-shrunk-clause-reason : goal.returns-in_err-shrunk-clause-reason
returns-in_err-shrunk-clause-reason g t c =
    let p = err_from_is_err_and c.from_residual-in_err-shrunk.result c.from_residual-in_err-shrunk.ensures.1 in
    rw (p.1, p.2)
    (below_fails g.P.Pages.tells (λ s left q at block. BreaksTaking s left q at block) c.args.left (c.args.left - 1) c.args.at c.args.chunk c.in-Some.place c.in-Some.child _ _ _ (g.P.Pages.shelf c.args.pages.now) (g.P.Pages.shelf c.read_node.new.pages)
    (g.P.Pages.shelf c.remove_from.new.pages) c.in_ok-node.node.leaf c.in_ok-node.node.entries.items c.as_slice.result.now _
    (λ block node is b. taking_more (g.P.Pages.shelf c.args.pages.now) c.args.left (c.args.left - 1) c.args.chunk c.args.at c.in-Some.place c.in-Some.child block c.in_ok-node.node.entries.items c.in-Some.ensures.lower.0 refl node is c.in-Some.ensures.lower.1 b)
    c.in_ok-node.ensures.kept (c.in_ok-node.ensures.untroubled (ok_never _ _)) c.in-Some.ensures.lower.1 c.if-node.false c.in_ok-node.ensures.node c.as_slice.ensures.value c.in-Some.ensures.found c.in_err-shrunk.ensures.reason)

pub returns-clause-removes : goal.returns-clause-removes
returns-clause-removes g t c = λ told.
    inner_removed g.P.Pages.tells (g.P.Pages.shelf c.args.pages.now) (g.P.Pages.shelf c.read_node.new.pages) (g.P.Pages.shelf c.remove_from.new.pages) (g.P.Pages.shelf c.pass_up.new.pages) c.pass_up.result c.args.at c.args.chunk c.in-Some.place c.in-Some.child
    c.in_ok-node.node.leaf c.in_ok-node.node.entries.items c.as_slice.result.now c.in_ok-shrunk.shrunk told (g.met.P.Pages.lie_below told c.args.pages.now) c.in_ok-node.ensures.kept c.if-node.false c.in_ok-node.ensures.node c.as_slice.ensures.value
    c.in-Some.ensures.found (c.in_ok-shrunk.ensures.appends.later told) (c.in_ok-shrunk.ensures.removes told) (c.pass_up.ensures.passes told c.if-node.false)

pub returns-clause-reason : goal.returns-clause-reason
returns-clause-reason g t c =
    refill_failed g.P.Pages.tells c.args.left (c.args.left - 1) c.args.at c.args.chunk c.in-Some.place c.in-Some.child _ _ _ _ (g.P.Pages.shelf c.args.pages.now) (g.P.Pages.shelf c.read_node.new.pages) (g.P.Pages.shelf c.remove_from.new.pages)
    (g.P.Pages.shelf c.pass_up.new.pages) c.pass_up.result c.in_ok-node.node.leaf c.in_ok-node.node.entries.items c.as_slice.result.now c.in_ok-shrunk.shrunk c.in-Some.ensures.lower.0 c.in-Some.ensures.lower.1 c.in_ok-node.ensures.kept
    (c.in_ok-node.ensures.untroubled (ok_never _ _)) (c.in_ok-shrunk.ensures.untroubled (ok_never _ _)) c.if-node.false c.in_ok-node.ensures.node c.as_slice.ensures.value c.in-Some.ensures.found c.in_ok-shrunk.ensures.taken
    c.in_ok-shrunk.ensures.appends c.pass_up.ensures.reason

pub returns-clause-appends : goal.returns-clause-appends
returns-clause-appends g t c =
    appends_after g.P.Pages.tells (g.P.Pages.shelf c.args.pages.now) (g.P.Pages.shelf c.read_node.new.pages) (g.P.Pages.shelf c.remove_from.new.pages) (g.P.Pages.shelf c.pass_up.new.pages) _ _ _ _
    c.in_ok-node.ensures.kept (c.in_ok-node.ensures.untroubled (ok_never _ _)) c.in_ok-shrunk.ensures.appends c.pass_up.ensures.appends

pub returns-then-node-clause-taken : goal.returns-then-node-clause-taken
returns-then-node-clause-taken g t c = λ told.
    taken_leaf g.P.Pages.tells (g.P.Pages.shelf c.args.pages.now) (g.P.Pages.shelf c.read_node.new.pages) (g.P.Pages.shelf c.remove_from_leaf.new.pages) c.remove_from_leaf.result c.args.left c.args.at c.args.chunk c.in_ok-node.node.leaf c.in_ok-node.node.entries.items
    told c.in_ok-node.ensures.kept c.if-node.true c.in_ok-node.ensures.node (c.remove_from_leaf.ensures.taken told c.if-node.true)

pub returns-clause-taken : goal.returns-clause-taken
returns-clause-taken g t c = λ told.
    taken_inner g.P.Pages.tells (g.P.Pages.shelf c.args.pages.now) (g.P.Pages.shelf c.read_node.new.pages) (g.P.Pages.shelf c.remove_from.new.pages) (g.P.Pages.shelf c.pass_up.new.pages) c.pass_up.result c.args.left _ c.args.at c.args.chunk c.in-Some.place c.in-Some.child
    c.in_ok-node.node.leaf c.in_ok-node.node.entries.items c.as_slice.result.now c.in_ok-shrunk.shrunk told c.in_ok-node.ensures.kept c.in-Some.ensures.lower.0 refl c.if-node.false c.in_ok-node.ensures.node c.as_slice.ensures.value
    c.in-Some.ensures.found c.in-Some.ensures.lower.1 (c.in_ok-shrunk.ensures.taken told) (c.pass_up.ensures.appends.later told) (c.pass_up.ensures.passed told c.if-node.false)

pub returns-in_err-node-clause-few : goal.returns-in_err-node-clause-few
returns-in_err-node-clause-few g t c = λ links down. only_read (g.P.Pages.shelf c.args.pages.now) (g.P.Pages.shelf c.read_node.new.pages) (2 * links + most_stored c.from_residual.result) c.in_err-node.ensures.kept

pub returns-then-node-clause-few : goal.returns-then-node-clause-few
returns-then-node-clause-few g t c = λ links down.
    after_read (g.P.Pages.shelf c.args.pages.now) (g.P.Pages.shelf c.read_node.new.pages) (g.P.Pages.shelf c.remove_from_leaf.new.pages) (most_stored c.remove_from_leaf.result) (2 * links + most_stored c.remove_from_leaf.result)
    c.in_ok-node.ensures.kept (omega arith) c.remove_from_leaf.ensures.few

pub returns-in_default-clause-few : goal.returns-in_default-clause-few
returns-in_default-clause-few g t c = λ links down. only_read (g.P.Pages.shelf c.args.pages.now) (g.P.Pages.shelf c.read_node.new.pages) (2 * links + 1) c.in_ok-node.ensures.kept

pub returns-in_err-shrunk-clause-few : goal.returns-in_err-shrunk-clause-few
returns-in_err-shrunk-clause-few g t c = λ links down.
    let p = err_from_is_err_and c.from_residual-in_err-shrunk.result c.from_residual-in_err-shrunk.ensures.1 in
    let below =
    inner_few g.P.Pages.tells c.args.left _ c.args.at c.args.chunk c.in-Some.place c.in-Some.child links 1 (g.P.Pages.shelf c.args.pages.now) (g.P.Pages.shelf c.read_node.new.pages) (g.P.Pages.shelf c.remove_from.new.pages) c.in_ok-node.node.leaf c.in_ok-node.node.entries.items
    c.as_slice.result.now c.in_ok-node.ensures.kept c.in-Some.ensures.lower.0 refl c.if-node.false c.in_ok-node.ensures.node c.as_slice.ensures.value c.in-Some.ensures.found c.in_err-shrunk.ensures.few down in
    rw (p.1) (omega (arith, below))

pub returns-clause-few : goal.returns-clause-few
returns-clause-few g t c = λ links down.
    let below =
    inner_few g.P.Pages.tells c.args.left _ c.args.at c.args.chunk c.in-Some.place c.in-Some.child links (stored_count c.in_ok-shrunk.shrunk) (g.P.Pages.shelf c.args.pages.now) (g.P.Pages.shelf c.read_node.new.pages) (g.P.Pages.shelf c.remove_from.new.pages) c.in_ok-node.node.leaf c.in_ok-node.node.entries.items
    c.as_slice.result.now c.in_ok-node.ensures.kept c.in-Some.ensures.lower.0 refl c.if-node.false c.in_ok-node.ensures.node c.as_slice.ensures.value c.in-Some.ensures.found c.in_ok-shrunk.ensures.few down in
    omega (arith, below, c.pass_up.ensures.few)
