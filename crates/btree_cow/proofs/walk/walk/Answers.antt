use Rattle.std.proofs.Common.{inl, inr, refl, ◌∙◌, ap, ◌≡◌, Bool, true, false, subst}
use Rattle.std.specs.List.{list_all}
use Rattle.std.specs.Prelude.{ℕ, ◌<◌, Option, None, nat_lt, IfSome, IsTrue}
use Rattle.std.proofs.lemmas.Result.{err_from_is_err_and}
use Rattle.std.proofs.lemmas.Option.{MatchOption-at_some, MatchOption-at_none}
use Rattle.forest_model.specs.declared.refusal.Refusal.TheVariants as Refusal
use Rattle.node_page.specs.Nodes.{Entry, IsNode}
use Rattle.btree_cow.specs.Shelf.{Shelf, is_stored}
use Rattle.btree_cow.specs.Barred.{NodeFails}
use Rattle.btree_cow.specs.Walks.{IsChoice}
use Rattle.btree_cow.specs.declared.node_search.Choice.{Choice}
use Rattle.btree_cow.proofs.Finds.{ok_never}
use Rattle.btree_cow.proofs.Walking.{reaches, has_nearest, walk_starts, walk_goes_on, ends_in_leaf, ends_before, leaf_has, not_before, breaks_as_no_node, breaks_as_inner, names_higher, names_it, names_node}
use Rattle.btree_cow.proofs.walk.walk.Goals as goal

pub loop-head-init : goal.loop-head-init
loop-head-init g c = record {
  kept = refl;
  untroubled = refl;
  walk = walk_starts g.P.Pages.tells (g.P.Pages.shelf c.args.pages.now) c.args.from c.args.aim.with c.args.aim.up c.args.aim.chunk c.requires;
}

pub returns-in_err-head-clause-reason : goal.returns-in_err-head-clause-reason
returns-in_err-head-clause-reason g c =
    let p = err_from_is_err_and c.from_residual.result c.from_residual.ensures.1 in
    let before = c.loop-head.invariant in
    let why = subst (λ (s : Shelf). NodeFails g.P.Pages.tells s c.loop-head.here.at (g.P.Pages.faults c.loop-head.pages) (g.P.Pages.faults c.node_at.new.pages) c.in_err-head.field-0.0) before.kept c.in_err-head.ensures.reason in
    rw (p.1, p.2) (breaks_as_no_node g.P.Pages.tells (g.P.Pages.shelf c.args.pages.now) c.args.from c.loop-head.here c.loop-head.second c.args.aim.with c.args.aim.up c.args.aim.chunk (g.P.Pages.faults c.args.pages.now) (g.P.Pages.faults c.loop-head.pages)
    (g.P.Pages.faults c.node_at.new.pages) c.in_err-head.field-0.0 before.walk before.untroubled why)

pub returns-in_err-head-clause-asked : goal.returns-in_err-head-clause-asked
returns-in_err-head-clause-asked g c =
    let p = err_from_is_err_and c.from_residual.result c.from_residual.ensures.1 in
    let before = c.loop-head.invariant in
    let why = subst (λ (s : Shelf). NodeFails g.P.Pages.tells s c.loop-head.here.at (g.P.Pages.faults c.loop-head.pages) (g.P.Pages.faults c.node_at.new.pages) c.in_err-head.field-0.0) before.kept c.in_err-head.ensures.reason in
    rw (p.1, p.2) (names_higher (g.P.Pages.shelf c.args.pages.now).file c.loop-head.here.at c.args.from.at c.in_err-head.field-0.0 before.walk.within.under
    (names_node g.P.Pages.tells (g.P.Pages.shelf c.args.pages.now) c.loop-head.here.at (g.P.Pages.faults c.loop-head.pages) (g.P.Pages.faults c.node_at.new.pages) c.in_err-head.field-0.0 why))

pub returns-then-head-clause-found : goal.returns-then-head-clause-found
returns-then-head-clause-found g c =
    let before = c.loop-head.invariant in
    let given = c.in_ok-head.ensures.given in
    let leaf : IsNode c.node_at.new.page true given.0 = subst (λ (b : Bool). IsNode c.node_at.new.page b given.0) c.if-head.true given.2 in
    ends_in_leaf g.P.Pages.tells (g.P.Pages.shelf c.args.pages.now) c.args.from c.loop-head.here c.loop-head.second c.args.aim.with c.args.aim.up c.args.aim.chunk c.node_at.new.page given.0 c.nearest_in-entry.result before.walk leaf
    (λ told. subst (λ (s : Shelf). is_stored s 2 c.loop-head.here.at c.node_at.new.page) before.kept (c.in_ok-head.ensures.stored told))
    (c.nearest_in-entry.ensures true given.0 leaf given.1)

pub returns-then-head-clause-all : goal.returns-then-head-clause-all
returns-then-head-clause-all g c =
    let given = c.in_ok-head.ensures.given in
    let leaf : IsNode c.node_at.new.page true given.0 = subst (λ (b : Bool). IsNode c.node_at.new.page b given.0) c.if-head.true given.2 in
    leaf_has c.args.aim.with c.args.aim.up c.args.aim.chunk c.node_at.new.page given.0 c.nearest_in-entry.result leaf (c.nearest_in-entry.ensures true given.0 leaf given.1)

pub returns-in_err-choice-clause-reason : goal.returns-in_err-choice-clause-reason
returns-in_err-choice-clause-reason g c =
    let p = err_from_is_err_and c.from_residual-in_err-choice.result c.from_residual-in_err-choice.ensures.1 in
    let before = c.loop-head.invariant in
    let given = c.in_ok-head.ensures.given in
    let inner : IsNode c.node_at.new.page false given.0 = subst (λ (b : Bool). IsNode c.node_at.new.page b given.0) c.if-head.false given.2 in
    let why = c.in_err-choice.ensures.reason given.0 given.2 given.1 in
    rw (p.1, p.2) (breaks_as_inner g.P.Pages.tells (g.P.Pages.shelf c.args.pages.now) c.args.from c.loop-head.here c.loop-head.second c.args.aim.with c.args.aim.up c.args.aim.chunk (g.P.Pages.shelf c.args.pages.now).file
    (g.P.Pages.faults c.args.pages.now) (g.P.Pages.faults c.node_at.new.pages) c.in_err-choice.field-0.0 c.node_at.new.page given.0 before.walk inner
    (λ told. subst (λ (s : Shelf). is_stored s 2 c.loop-head.here.at c.node_at.new.page) before.kept (c.in_ok-head.ensures.stored told))
    (why.0 ∙ ap (λ (s : Shelf). Refusal.Damaged s.file c.loop-head.here.at) (c.in_ok-head.ensures.kept ∙ before.kept)) why.1)

pub returns-in_err-choice-clause-asked : goal.returns-in_err-choice-clause-asked
returns-in_err-choice-clause-asked g c =
    let p = err_from_is_err_and c.from_residual-in_err-choice.result c.from_residual-in_err-choice.ensures.1 in
    let before = c.loop-head.invariant in
    let given = c.in_ok-head.ensures.given in
    let why = c.in_err-choice.ensures.reason given.0 given.2 given.1 in
    rw (p.1, p.2) (names_higher (g.P.Pages.shelf c.args.pages.now).file c.loop-head.here.at c.args.from.at c.in_err-choice.field-0.0 before.walk.within.under
    (names_it (g.P.Pages.shelf c.args.pages.now).file c.loop-head.here.at c.in_err-choice.field-0.0 (why.0 ∙ ap (λ (s : Shelf). Refusal.Damaged s.file c.loop-head.here.at) (c.in_ok-head.ensures.kept ∙ before.kept))))

pub returns-in_default-clause-found : goal.returns-in_default-clause-found
returns-in_default-clause-found g c =
    let before = c.loop-head.invariant in
    let given = c.in_ok-head.ensures.given in
    let inner : IsNode c.node_at.new.page false given.0 = subst (λ (b : Bool). IsNode c.node_at.new.page b given.0) c.if-head.false given.2 in
    let none = MatchOption-at_none ((c.args.aim.up ≡ false) × IsTrue (list_all (λ (e : Entry). nat_lt c.args.aim.chunk e.0) given.0)) (λ (o : Choice). IsChoice c.args.aim.up c.args.aim.chunk given.0 o.child o.sibling)
    c.in_default.is (c.in_ok-choice.ensures.chosen given.0 given.2 given.1) in
    ends_before g.P.Pages.tells (g.P.Pages.shelf c.args.pages.now) c.args.from c.loop-head.here c.loop-head.second c.args.aim.with c.args.aim.up c.args.aim.chunk c.node_at.new.page given.0 before.walk inner
    (λ told. subst (λ (s : Shelf). is_stored s 2 c.loop-head.here.at c.node_at.new.page) before.kept (c.in_ok-head.ensures.stored told))
    none.0 none.1

pub returns-in_default-clause-all : goal.returns-in_default-clause-all
returns-in_default-clause-all g c =
    let given = c.in_ok-head.ensures.given in
    let inner : IsNode c.node_at.new.page false given.0 = subst (λ (b : Bool). IsNode c.node_at.new.page b given.0) c.if-head.false given.2 in
    let none = MatchOption-at_none ((c.args.aim.up ≡ false) × IsTrue (list_all (λ (e : Entry). nat_lt c.args.aim.chunk e.0) given.0)) (λ (o : Choice). IsChoice c.args.aim.up c.args.aim.chunk given.0 o.child o.sibling)
    c.in_default.is (c.in_ok-choice.ensures.chosen given.0 given.2 given.1) in
    λ with edge. absurd (not_before c.args.aim.up c.args.aim.chunk c.node_at.new.page given.0 inner none.0 none.1 edge)

pub loop-head-preserved : goal.loop-head-preserved
loop-head-preserved g c =
    let before = c.loop-head.invariant in
    let given = c.in_ok-head.ensures.given in
    let inner : IsNode c.node_at.new.page false given.0 = subst (λ (b : Bool). IsNode c.node_at.new.page b given.0) c.if-head.false given.2 in
    let choice = MatchOption-at_some ((c.args.aim.up ≡ false) × IsTrue (list_all (λ (e : Entry). nat_lt c.args.aim.chunk e.0) given.0)) (λ (o : Choice). IsChoice c.args.aim.up c.args.aim.chunk given.0 o.child o.sibling)
    c.in-Some.choice c.in-Some.is (c.in_ok-choice.ensures.chosen given.0 given.2 given.1) in
    record {
      kept = c.in_ok-head.ensures.kept ∙ before.kept;
      untroubled = (c.in_ok-head.ensures.untroubled (ok_never _ _)) ∙ before.untroubled;
      walk = rw c.nearer-second.ensures
          (walk_goes_on g.P.Pages.tells (g.P.Pages.shelf c.args.pages.now) c.args.from c.loop-head.here c.loop-head.second c.args.aim.with c.args.aim.up c.args.aim.chunk c.node_at.new.page given.0 c.in-Some.choice.child c.in-Some.choice.sibling
          before.walk c.in_ok-choice.ensures.shallow inner
          (λ told. subst (λ (s : Shelf). is_stored s 2 c.loop-head.here.at c.node_at.new.page) before.kept (c.in_ok-head.ensures.stored told))
          choice
          (subst (λ (o : Option Choice). IfSome o (λ (ch : Choice). (ch.child < c.loop-head.here.at) × IfSome ch.sibling (λ (other : ℕ). other < c.loop-head.here.at))) c.in-Some.is c.in_ok-choice.ensures.below));
    }

pub returns-then-head-clause-reached : goal.returns-then-head-clause-reached
returns-then-head-clause-reached g c = λ told.
    let before = c.loop-head.invariant in
    let given = c.in_ok-head.ensures.given in
    let leaf : IsNode c.node_at.new.page true given.0 = subst (λ (b : Bool). IsNode c.node_at.new.page b given.0) c.if-head.true given.2 in
    reaches g.P.Pages.tells (g.P.Pages.shelf c.args.pages.now) c.args.from c.loop-head.here c.loop-head.second c.args.aim.with c.args.aim.up c.args.aim.chunk c.nearest_in-entry.result before.walk
    (inl (given.0, (c.node_at.new.page, subst (λ (s : Shelf). is_stored s 2 c.loop-head.here.at c.node_at.new.page) before.kept (c.in_ok-head.ensures.stored told), leaf), c.nearest_in-entry.ensures true given.0 leaf given.1)) told

pub returns-in_default-clause-reached : goal.returns-in_default-clause-reached
returns-in_default-clause-reached g c = λ told.
    let before = c.loop-head.invariant in
    let given = c.in_ok-head.ensures.given in
    let inner : IsNode c.node_at.new.page false given.0 = subst (λ (b : Bool). IsNode c.node_at.new.page b given.0) c.if-head.false given.2 in
    let none = MatchOption-at_none ((c.args.aim.up ≡ false) × IsTrue (list_all (λ (e : Entry). nat_lt c.args.aim.chunk e.0) given.0)) (λ (o : Choice). IsChoice c.args.aim.up c.args.aim.chunk given.0 o.child o.sibling)
    c.in_default.is (c.in_ok-choice.ensures.chosen given.0 given.2 given.1) in
    reaches g.P.Pages.tells (g.P.Pages.shelf c.args.pages.now) c.args.from c.loop-head.here c.loop-head.second c.args.aim.with c.args.aim.up c.args.aim.chunk None before.walk
    (inr (given.0, (c.node_at.new.page, subst (λ (s : Shelf). is_stored s 2 c.loop-head.here.at c.node_at.new.page) before.kept (c.in_ok-head.ensures.stored told), inner), none.0, none.1, refl)) told

pub returns-then-head-clause-beside : goal.returns-then-head-clause-beside
returns-then-head-clause-beside g c = λ told.
    let before = c.loop-head.invariant in
    let given = c.in_ok-head.ensures.given in
    let leaf : IsNode c.node_at.new.page true given.0 = subst (λ (b : Bool). IsNode c.node_at.new.page b given.0) c.if-head.true given.2 in
    has_nearest g.P.Pages.tells (g.P.Pages.shelf c.args.pages.now) c.args.from c.loop-head.here c.loop-head.second c.args.aim.with c.args.aim.up c.args.aim.chunk c.nearest_in-entry.result before.walk
    (inl (given.0, (c.node_at.new.page, subst (λ (s : Shelf). is_stored s 2 c.loop-head.here.at c.node_at.new.page) before.kept (c.in_ok-head.ensures.stored told), leaf), c.nearest_in-entry.ensures true given.0 leaf given.1)) told

pub returns-in_default-clause-beside : goal.returns-in_default-clause-beside
returns-in_default-clause-beside g c = λ told.
    let before = c.loop-head.invariant in
    let given = c.in_ok-head.ensures.given in
    let inner : IsNode c.node_at.new.page false given.0 = subst (λ (b : Bool). IsNode c.node_at.new.page b given.0) c.if-head.false given.2 in
    let none = MatchOption-at_none ((c.args.aim.up ≡ false) × IsTrue (list_all (λ (e : Entry). nat_lt c.args.aim.chunk e.0) given.0)) (λ (o : Choice). IsChoice c.args.aim.up c.args.aim.chunk given.0 o.child o.sibling)
    c.in_default.is (c.in_ok-choice.ensures.chosen given.0 given.2 given.1) in
    has_nearest g.P.Pages.tells (g.P.Pages.shelf c.args.pages.now) c.args.from c.loop-head.here c.loop-head.second c.args.aim.with c.args.aim.up c.args.aim.chunk None before.walk
    (inr (given.0, (c.node_at.new.page, subst (λ (s : Shelf). is_stored s 2 c.loop-head.here.at c.node_at.new.page) before.kept (c.in_ok-head.ensures.stored told), inner), none.0, none.1, refl)) told
