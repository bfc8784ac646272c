use Rattle.std.proofs.Common.{◌+◌, ◌-◌, ◌*◌, ◌∙◌, refl, arith}
use Rattle.std.proofs.lemmas.Result.{err_from_is_err_and}
use Rattle.btree_cow.proofs.Finds.{ok_never}
use Rattle.btree_cow.proofs.Additions.{appends_after}
use Rattle.btree_cow.proofs.Insertions.{leaf_rises, leaf_put, inner_rises, inner_some, inner_put}
use Rattle.btree_cow.proofs.Refused.{below_fails, down_more, none_here, nowhere_fails, read_fails}
use Rattle.btree_cow.specs.Refused.{BreaksDown}
use Rattle.btree_cow.proofs.BlockCounts.{after_read, inner_few, never_damaged, only_read}
use Rattle.btree_cow.proofs.Copies.{copied_leaf, copied_inner}
use Rattle.btree_cow.proofs.inserting.+put.Goals as goal

pub returns-in_err-node-clause-reason : goal.returns-in_err-node-clause-reason
returns-in_err-node-clause-reason g t c =
    let p = err_from_is_err_and c.from_residual.result c.from_residual.ensures.1 in
    let s = g.P.Pages.shelf c.args.pages.now in
    rw (p.1, p.2) (read_fails g.P.Pages.tells (BreaksDown s c.args.left c.args.chunk c.args.at) c.args.at s (g.P.Pages.shelf c.read_node.new.pages) _ _ _ (none_here s c.args.left c.args.chunk c.args.at) c.in_err-node.ensures.reason)

pub store-requires-clause-rise : goal.store-requires-clause-rise
store-requires-clause-rise g t c = leaf_rises c.as_slice.result.now c.put_entry.new.entries.items c.in_ok-node.node.entries.items c.args.chunk c.args.value c.as_slice.ensures.value c.put_entry.ensures c.in_ok-node.ensures.node.rise

pub returns-then-node-clause-puts : goal.returns-then-node-clause-puts
returns-then-node-clause-puts g t c = λ told.
    leaf_put g.P.Pages.tells (g.P.Pages.shelf c.args.pages.now) (g.P.Pages.shelf c.read_node.new.pages) (g.P.Pages.shelf c.store.new.pages) c.store.result c.args.at c.args.chunk c.args.value c.in_ok-node.node.leaf c.in_ok-node.node.entries.items
    c.put_entry.new.entries.items c.as_slice.result.now told (g.met.P.Pages.lie_below told c.args.pages.now) c.in_ok-node.ensures.kept c.if-node.true c.in_ok-node.ensures.node c.as_slice.ensures.value c.put_entry.ensures (c.store.ensures.stores told)

pub returns-in_default-clause-reason : goal.returns-in_default-clause-reason
returns-in_default-clause-reason g t c =
    nowhere_fails g.P.Pages.tells (BreaksDown (g.P.Pages.shelf c.args.pages.now) c.args.left c.args.chunk c.args.at) c.args.left c.args.at c.args.chunk c.file.result _ _ (g.P.Pages.shelf c.args.pages.now) (g.P.Pages.shelf c.read_node.new.pages)
    c.in_ok-node.node.leaf c.in_ok-node.node.entries.items c.as_slice-2.result.now (λ b. b) c.in_ok-node.ensures.kept c.file.ensures c.if-node.false c.in_ok-node.ensures.node c.as_slice-2.ensures.value c.in_default.ensures.none

pub returns-in_err-grown-clause-reason : goal.returns-in_err-grown-clause-reason
returns-in_err-grown-clause-reason g t c =
    let p = err_from_is_err_and c.from_residual-in_err-grown.result c.from_residual-in_err-grown.ensures.1 in
    rw (p.1, p.2)
    (below_fails g.P.Pages.tells (λ s left q at block. BreaksDown s left q at block) c.args.left (c.args.left - 1) c.args.at c.args.chunk c.in-Some.place c.in-Some.child _ _ _ (g.P.Pages.shelf c.args.pages.now) (g.P.Pages.shelf c.read_node.new.pages)
    (g.P.Pages.shelf c.put.new.pages) c.in_ok-node.node.leaf c.in_ok-node.node.entries.items c.as_slice-2.result.now _
    (λ block node is b. down_more (g.P.Pages.shelf c.args.pages.now) c.args.left (c.args.left - 1) c.args.chunk c.args.at c.in-Some.place c.in-Some.child block c.in_ok-node.node.entries.items c.in-Some.ensures.lower.0 refl node is c.in-Some.ensures.lower.1 b)
    c.in_ok-node.ensures.kept (c.in_ok-node.ensures.untroubled (ok_never _ _)) c.in-Some.ensures.lower.1 c.if-node.false c.in_ok-node.ensures.node c.as_slice-2.ensures.value c.in-Some.ensures.found c.in_err-grown.ensures.reason)

pub store-requires-2-clause-rise : goal.store-requires-2-clause-rise
store-requires-2-clause-rise g t c =
    inner_rises c.as_slice-3.result.now c.replace_child.new.children.items c.in_ok-node.node.entries.items c.as_slice-2.result.now c.args.chunk c.in-Some.place c.in-Some.child c.in_ok-grown.grown
    c.as_slice-3.ensures.value c.replace_child.ensures c.as_slice-2.ensures.value c.in-Some.ensures.found c.in_ok-node.ensures.node.rise

pub returns-clause-puts : goal.returns-clause-puts
returns-clause-puts g t c = λ told.
    inner_put g.P.Pages.tells (g.P.Pages.shelf c.args.pages.now) (g.P.Pages.shelf c.read_node.new.pages) (g.P.Pages.shelf c.put.new.pages) (g.P.Pages.shelf c.store-2.new.pages) c.store-2.result c.args.at c.args.chunk c.args.value c.in-Some.place c.in-Some.child
    c.in_ok-node.node.leaf c.in_ok-node.node.entries.items c.as_slice-2.result.now c.replace_child.new.children.items c.as_slice-3.result.now c.in_ok-grown.grown told (g.met.P.Pages.lie_below told c.args.pages.now) (g.met.P.Pages.lie_below told c.put.new.pages)
    c.in_ok-node.ensures.kept c.if-node.false c.in_ok-node.ensures.node c.as_slice-2.ensures.value c.in-Some.ensures.found (c.in_ok-grown.ensures.appends.later told) (c.in_ok-grown.ensures.puts told)
    c.as_slice-3.ensures.value c.replace_child.ensures (c.store-2.ensures.stores told)

pub store-requires-2-clause-some : goal.store-requires-2-clause-some
store-requires-2-clause-some g t c =
    inner_some c.as_slice-3.result.now c.replace_child.new.children.items c.in_ok-node.node.entries.items c.args.chunk c.in-Some.place c.in_ok-grown.grown c.as_slice-3.ensures.value c.replace_child.ensures c.in_ok-node.ensures.node.some

pub returns-clause-appends : goal.returns-clause-appends
returns-clause-appends g t c =
    appends_after g.P.Pages.tells (g.P.Pages.shelf c.args.pages.now) (g.P.Pages.shelf c.read_node.new.pages) (g.P.Pages.shelf c.put.new.pages) (g.P.Pages.shelf c.store-2.new.pages) _ _ _ _
    c.in_ok-node.ensures.kept (c.in_ok-node.ensures.untroubled (ok_never _ _)) c.in_ok-grown.ensures.appends c.store-2.ensures.appends

pub returns-then-node-clause-copied : goal.returns-then-node-clause-copied
returns-then-node-clause-copied g t c = λ told.
    copied_leaf g.P.Pages.tells (g.P.Pages.shelf c.args.pages.now) (g.P.Pages.shelf c.read_node.new.pages) (g.P.Pages.shelf c.store.new.pages) c.store.result c.args.left c.args.at c.args.chunk c.args.value c.in_ok-node.node.leaf c.in_ok-node.node.entries.items
    c.put_entry.new.entries.items c.as_slice.result.now told c.in_ok-node.ensures.kept c.if-node.true c.in_ok-node.ensures.node c.as_slice.ensures.value c.put_entry.ensures (c.store.ensures.makes told)

pub returns-clause-copied : goal.returns-clause-copied
returns-clause-copied g t c = λ told.
    copied_inner g.P.Pages.tells (g.P.Pages.shelf c.args.pages.now) (g.P.Pages.shelf c.read_node.new.pages) (g.P.Pages.shelf c.put.new.pages) (g.P.Pages.shelf c.store-2.new.pages) c.store-2.result c.args.left _ c.args.at c.args.chunk c.args.value
    c.in-Some.place c.in-Some.child c.in_ok-node.node.leaf c.in_ok-node.node.entries.items c.as_slice-2.result.now c.replace_child.new.children.items c.as_slice-3.result.now c.in_ok-grown.grown told
    c.in_ok-node.ensures.kept c.in-Some.ensures.lower.0 refl c.if-node.false c.in_ok-node.ensures.node c.as_slice-2.ensures.value c.in-Some.ensures.found c.in-Some.ensures.lower.1 (c.in_ok-grown.ensures.copied told) (c.store-2.ensures.appends.later told)
    c.as_slice-3.ensures.value c.replace_child.ensures (c.store-2.ensures.makes told)

pub returns-in_err-node-clause-few : goal.returns-in_err-node-clause-few
returns-in_err-node-clause-few g t c = λ links down. only_read (g.P.Pages.shelf c.args.pages.now) (g.P.Pages.shelf c.read_node.new.pages) (2 * links + 2) c.in_err-node.ensures.kept

pub returns-then-node-clause-few : goal.returns-then-node-clause-few
returns-then-node-clause-few g t c = λ links down.
    after_read (g.P.Pages.shelf c.args.pages.now) (g.P.Pages.shelf c.read_node.new.pages) (g.P.Pages.shelf c.store.new.pages) 2 (2 * links + 2) c.in_ok-node.ensures.kept (omega arith) c.store.ensures.few

pub returns-in_default-clause-few : goal.returns-in_default-clause-few
returns-in_default-clause-few g t c = λ links down. only_read (g.P.Pages.shelf c.args.pages.now) (g.P.Pages.shelf c.read_node.new.pages) (2 * links + 2) c.in_ok-node.ensures.kept

pub returns-in_err-grown-clause-few : goal.returns-in_err-grown-clause-few
returns-in_err-grown-clause-few g t c = λ links down.
    let below =
    inner_few g.P.Pages.tells c.args.left _ c.args.at c.args.chunk c.in-Some.place c.in-Some.child links 2 (g.P.Pages.shelf c.args.pages.now) (g.P.Pages.shelf c.read_node.new.pages) (g.P.Pages.shelf c.put.new.pages) c.in_ok-node.node.leaf c.in_ok-node.node.entries.items
    c.as_slice-2.result.now c.in_ok-node.ensures.kept c.in-Some.ensures.lower.0 refl c.if-node.false c.in_ok-node.ensures.node c.as_slice-2.ensures.value c.in-Some.ensures.found c.in_err-grown.ensures.few down in
    omega (arith, below)

pub returns-clause-few : goal.returns-clause-few
returns-clause-few g t c = λ links down.
    let below =
    inner_few g.P.Pages.tells c.args.left _ c.args.at c.args.chunk c.in-Some.place c.in-Some.child links 2 (g.P.Pages.shelf c.args.pages.now) (g.P.Pages.shelf c.read_node.new.pages) (g.P.Pages.shelf c.put.new.pages) c.in_ok-node.node.leaf c.in_ok-node.node.entries.items
    c.as_slice-2.result.now c.in_ok-node.ensures.kept c.in-Some.ensures.lower.0 refl c.if-node.false c.in_ok-node.ensures.node c.as_slice-2.ensures.value c.in-Some.ensures.found c.in_ok-grown.ensures.few down in
    omega (arith, below, c.store-2.ensures.few)

pub returns-then-node-clause-unwritten : goal.returns-then-node-clause-unwritten
returns-then-node-clause-unwritten g t c = λ file block is. absurd (never_damaged c.store.result (g.P.Pages.shelf c.store.new.pages) _ _ file block c.store.ensures.reason is)

pub returns-in_err-grown-clause-unwritten : goal.returns-in_err-grown-clause-unwritten
returns-in_err-grown-clause-unwritten g t c =
    let p = err_from_is_err_and c.from_residual-in_err-grown.result c.from_residual-in_err-grown.ensures.1 in
    rw (p.1, p.2) (λ file block is. c.in_err-grown.ensures.unwritten file block is ∙ c.in_ok-node.ensures.kept)

pub returns-clause-unwritten : goal.returns-clause-unwritten
returns-clause-unwritten g t c = λ file block is. absurd (never_damaged c.store-2.result (g.P.Pages.shelf c.store-2.new.pages) _ _ file block c.store-2.ensures.reason is)
