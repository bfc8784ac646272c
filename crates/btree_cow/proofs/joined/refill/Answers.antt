use Rattle.std.proofs.Common.{ap, sym, ◌∙◌, subst, ◌+◌, ◌<◌, ◌≤◌, List, length, arith}
use Rattle.std.proofs.lemmas.Result.{err_from_is_err_and}
use Rattle.node_page.specs.Nodes.{Entry, rises}
use Rattle.btree_cow.proofs.BlockCounts.{after_read, only_read}
use Rattle.btree_cow.proofs.Pairs.{pair_rises, pair_short}
use Rattle.btree_cow.proofs.Gaps.{alone_gap, filled_gap}
use Rattle.btree_cow.proofs.Refused.{high_fails, neighbour_fails}
use Rattle.btree_cow.proofs.Takes.{joined_so, no_neighbour, no_partner}
use Rattle.btree_cow.proofs.joined.refill.Goals as goal

pub returns-in_err-other-clause-reason : goal.returns-in_err-other-clause-reason
returns-in_err-other-clause-reason g c =
    let p = err_from_is_err_and c.from_residual.result c.from_residual.ensures.1 in
    rw (p.1, p.2)
    (neighbour_fails g.P.Pages.tells (g.P.Pages.shelf c.args.pages.now) (g.P.Pages.shelf c.read_node.new.pages) _ _ c.args.children.now.items c.as_slice.result.now c.args.at c.args.place c.in-Some.neighbour.block c.in-Some.neighbour.in_front _
    c.as_slice.ensures.value c.in-Some.ensures.some c.in-Some.ensures.last (omega (arith, c.if-at-neighbour.false)) c.in_err-other.ensures.reason)

pub returns-in_default-join_neighbours-clause-refills : goal.returns-in_default-join_neighbours-clause-refills
returns-in_default-join_neighbours-clause-refills g c = λ told.
    alone_gap g.P.Pages.tells (g.P.Pages.shelf c.args.pages.now) (g.P.Pages.shelf c.store_alone-in_default-join_neighbours.new.pages) c.store_alone-in_default-join_neighbours.result c.args.short.now.leaf c.in_ok-other.other.leaf
    c.args.short.now.entries.items c.in_ok-other.other.entries.items c.args.children.now.items c.as_slice.result.now c.store_alone-in_default-join_neighbours.new.children.items c.args.place c.in-Some.neighbour.block c.in-Some.neighbour.in_front
    told (g.met.P.Pages.lie_below told c.args.pages.now) c.requires.rise c.requires.second c.as_slice.ensures.value c.in-Some.ensures.some c.in_ok-other.ensures.node c.in_default-join_neighbours.ensures.none

pub returns-clause-refills : goal.returns-clause-refills
returns-clause-refills g c = λ told.
    filled_gap g.P.Pages.tells (g.P.Pages.shelf c.args.pages.now) (g.P.Pages.shelf c.read_node.new.pages) (g.P.Pages.shelf c.store_joined.new.pages) c.args.short.now.leaf c.in_ok-other.other.leaf
    c.args.short.now.entries.items c.in_ok-other.other.entries.items c.args.children.now.items c.as_slice.result.now c.as_slice-2.result.now c.in-Some-join_neighbours.joined.items c.replace_pair.new.children.items c.args.place c.in-Some.neighbour.block
    c.in-Some.neighbour.first c.in-Some.neighbour.in_front c.in_ok-grown.grown told (g.met.P.Pages.lie_below told c.args.pages.now) (g.met.P.Pages.lie_below told c.store_joined.new.pages) c.in_ok-other.ensures.kept (c.in_ok-grown.ensures.appends.later told)
    c.requires.rise c.in-Some.ensures.first.0 c.as_slice.ensures.value c.in-Some.ensures.some c.in_ok-other.ensures.node c.in-Some-join_neighbours.ensures.alike c.as_slice-2.ensures.value c.in-Some-join_neighbours.ensures.some.0
    (c.in_ok-grown.ensures.stores told) c.replace_pair.ensures

pub returns-clause-rise : goal.returns-clause-rise
returns-clause-rise g c = ap rises c.replace_pair.ensures ∙ pair_rises c.args.children.now.items _ c.in_ok-grown.grown c.requires.rise

pub returns-clause-most : goal.returns-clause-most
returns-clause-most g c =
    let within : c.in-Some.neighbour.first + 1 < length c.args.children.now.items =
    subst (λ (l : List Entry). c.in-Some.neighbour.first + 1 < length l) c.as_slice.ensures.value c.in-Some.ensures.first.1 in
    subst (λ (l : List Entry). length l ≤ length c.args.children.now.items) (sym c.replace_pair.ensures) (pair_short c.args.children.now.items _ c.in_ok-grown.grown within)

pub returns-then-at-neighbour-clause-reason : goal.returns-then-at-neighbour-clause-reason
returns-then-at-neighbour-clause-reason g c =
    high_fails g.P.Pages.tells (g.P.Pages.shelf c.args.pages.now) (g.P.Pages.shelf c.args.pages.now) (g.P.Pages.faults c.args.pages.now) (g.P.Pages.faults c.args.pages.now) c.args.children.now.items c.as_slice.result.now c.args.at c.args.place c.in-Some.neighbour.block c.file.result c.in-Some.neighbour.in_front
    c.as_slice.ensures.value c.in-Some.ensures.some c.in-Some.ensures.last c.file.ensures c.if-at-neighbour.true

pub returns-in_default-clause-refilled : goal.returns-in_default-clause-refilled
returns-in_default-clause-refilled g c = λ told.
    no_neighbour c.args.at (g.P.Pages.shelf c.args.pages.now) (g.P.Pages.shelf c.store_alone.new.pages) c.store_alone.result c.args.short.now.leaf c.args.short.now.entries.items c.args.children.now.items c.as_slice.result.now c.store_alone.new.children.items c.args.place
    c.as_slice.ensures.value c.in_default.ensures.none (c.store_alone.ensures.alone told)

pub returns-in_default-join_neighbours-clause-refilled : goal.returns-in_default-join_neighbours-clause-refilled
returns-in_default-join_neighbours-clause-refilled g c = λ told.
    no_partner g.P.Pages.tells c.args.at (g.P.Pages.shelf c.args.pages.now) (g.P.Pages.shelf c.read_node.new.pages) (g.P.Pages.shelf c.store_alone-in_default-join_neighbours.new.pages) c.store_alone-in_default-join_neighbours.result c.args.short.now.leaf c.in_ok-other.other.leaf
    c.args.short.now.entries.items c.in_ok-other.other.entries.items c.args.children.now.items c.as_slice.result.now c.store_alone-in_default-join_neighbours.new.children.items c.args.place c.in-Some.neighbour.block c.in-Some.neighbour.in_front
    told c.in_ok-other.ensures.kept c.as_slice.ensures.value c.in-Some.ensures.some c.in-Some.ensures.last (omega (arith, c.if-at-neighbour.false)) c.in_ok-other.ensures.node c.in_default-join_neighbours.ensures.none c.store_alone-in_default-join_neighbours.ensures.appends.later
    (c.store_alone-in_default-join_neighbours.ensures.alone told)

pub returns-clause-refilled : goal.returns-clause-refilled
returns-clause-refilled g c = λ told.
    joined_so g.P.Pages.tells c.args.at (g.P.Pages.shelf c.args.pages.now) (g.P.Pages.shelf c.read_node.new.pages) (g.P.Pages.shelf c.store_joined.new.pages) c.args.short.now.leaf c.in_ok-other.other.leaf c.args.short.now.entries.items c.in_ok-other.other.entries.items
    c.args.children.now.items c.as_slice.result.now c.as_slice-2.result.now c.in-Some-join_neighbours.joined.items c.replace_pair.new.children.items c.args.place c.in-Some.neighbour.block c.in-Some.neighbour.first c.in-Some.neighbour.in_front c.in_ok-grown.grown
    told c.in_ok-other.ensures.kept (c.in_ok-grown.ensures.appends.later told) c.in-Some.ensures.first.0 c.as_slice.ensures.value c.in-Some.ensures.some c.in-Some.ensures.last
    (omega (arith, c.if-at-neighbour.false)) c.in_ok-other.ensures.node c.in-Some-join_neighbours.ensures.alike
    c.as_slice-2.ensures.value c.in-Some-join_neighbours.ensures.some.0 (c.in_ok-grown.ensures.makes told) c.replace_pair.ensures

pub returns-in_err-other-clause-few : goal.returns-in_err-other-clause-few
returns-in_err-other-clause-few g c = only_read (g.P.Pages.shelf c.args.pages.now) (g.P.Pages.shelf c.read_node.new.pages) 2 c.in_err-other.ensures.kept

pub returns-in_default-join_neighbours-clause-few : goal.returns-in_default-join_neighbours-clause-few
returns-in_default-join_neighbours-clause-few g c =
    after_read (g.P.Pages.shelf c.args.pages.now) (g.P.Pages.shelf c.read_node.new.pages) (g.P.Pages.shelf c.store_alone-in_default-join_neighbours.new.pages) 1 2 c.in_ok-other.ensures.kept (omega arith) c.store_alone-in_default-join_neighbours.ensures.few

pub returns-in_err-grown-clause-few : goal.returns-in_err-grown-clause-few
returns-in_err-grown-clause-few g c = after_read (g.P.Pages.shelf c.args.pages.now) (g.P.Pages.shelf c.read_node.new.pages) (g.P.Pages.shelf c.store_joined.new.pages) 2 2 c.in_ok-other.ensures.kept (omega arith) c.in_err-grown.ensures.few

pub returns-clause-few : goal.returns-clause-few
returns-clause-few g c = after_read (g.P.Pages.shelf c.args.pages.now) (g.P.Pages.shelf c.read_node.new.pages) (g.P.Pages.shelf c.store_joined.new.pages) 2 2 c.in_ok-other.ensures.kept (omega arith) c.in_ok-grown.ensures.few
