use Rattle.std.proofs.Common.{inl, refl, arith}
use Rattle.std.proofs.lemmas.Result.{err_from_is_err_and}
use Rattle.forest_model.specs.declared.refusal.Refusal.{Refusal}
use Rattle.btree_cow.proofs.Growth.{later_on}
use Rattle.btree_cow.proofs.Insertions.{root_grows}
use Rattle.btree_cow.proofs.Refused.{appends_name, down_tree, root_fails, root_names, root_stands}
use Rattle.btree_cow.specs.Refused.{BreaksDown, BreaksPut}
use Rattle.btree_cow.proofs.BlockCounts.{handed_on, never_damaged, root_down}
use Rattle.btree_cow.proofs.Copies.{inserts_first, inserts_one, inserts_two}
use Rattle.btree_cow.proofs.inserting.insert.Goals as goal

pub returns-in_err-block-clause-stands : goal.returns-in_err-block-clause-stands
returns-in_err-block-clause-stands g c = λ told ok entries tree.
    let p = err_from_is_err_and c.from_residual.result c.from_residual.ensures.1 in
    rw (p.1, p.2)
    (root_stands g.P.Pages.tells (BreaksDown (g.P.Pages.shelf c.args.pages.now) 9 c.args.chunk c.in-Some.at) ok c.args.root c.in-Some.at (g.P.Pages.shelf c.args.pages.now) (g.P.Pages.shelf c.put.new.pages) _ _ _ entries
    (down_tree (g.P.Pages.shelf c.args.pages.now) c.args.chunk c.in-Some.at) told c.in-Some.is tree c.in_err-block.ensures.reason)

pub returns-in_err-block-clause-reason : goal.returns-in_err-block-clause-reason
returns-in_err-block-clause-reason g c =
    let p = err_from_is_err_and c.from_residual.result c.from_residual.ensures.1 in
    rw (p.1, p.2)
    (root_fails g.P.Pages.tells (BreaksDown (g.P.Pages.shelf c.args.pages.now) 9 c.args.chunk c.in-Some.at) (BreaksPut (g.P.Pages.shelf c.args.pages.now) c.args.root c.args.chunk) c.in-Some.at (g.P.Pages.shelf c.args.pages.now) (g.P.Pages.shelf c.put.new.pages) _ _ _
    (λ block b. (c.in-Some.at, c.in-Some.is, b)) c.in_err-block.ensures.reason)

pub returns-in_err-block-clause-asked : goal.returns-in_err-block-clause-asked
returns-in_err-block-clause-asked g c =
    let p = err_from_is_err_and c.from_residual.result c.from_residual.ensures.1 in
    rw (p.1, p.2)
    (root_names g.P.Pages.tells (BreaksDown (g.P.Pages.shelf c.args.pages.now) 9 c.args.chunk c.in-Some.at) c.args.root c.in-Some.at (g.P.Pages.shelf c.args.pages.now) (g.P.Pages.shelf c.put.new.pages) _ _ _ c.in-Some.is c.in_err-block.ensures.reason)

pub returns-in_default-clause-asked : goal.returns-in_default-clause-asked
returns-in_default-clause-asked g c = appends_name c.add_node.result (g.P.Pages.shelf c.add_node.new.pages) _ _ (g.P.Pages.shelf c.args.pages.now).file c.args.root c.add_node.ensures.reason

pub returns-in-Two-clause-asked : goal.returns-in-Two-clause-asked
returns-in-Two-clause-asked g c = appends_name c.add_node-in-Two.result (g.P.Pages.shelf c.add_node-in-Two.new.pages) _ _ (g.P.Pages.shelf c.args.pages.now).file c.args.root c.add_node-in-Two.ensures.reason

pub returns-in-Two-clause-inserted : goal.returns-in-Two-clause-inserted
returns-in-Two-clause-inserted g c = λ told ok entries well okay tree.
    root_grows g.P.Pages.tells (g.P.Pages.shelf c.args.pages.now) (g.P.Pages.shelf c.put.new.pages) (g.P.Pages.shelf c.add_node-in-Two.new.pages) c.add_node-in-Two.result c.args.root c.in-Some.at c.args.chunk c.args.value c.in-Two.left c.in-Two.right c.in_ok-block.field-0
    told (g.met.P.Pages.lie_below told c.put.new.pages) c.in-Some.is c.in-Two.is c.in_ok-block.ensures.apart (c.in_ok-block.ensures.puts told) (c.add_node-in-Two.ensures.added told) ok entries well okay tree

pub returns-in-Two-clause-later : goal.returns-in-Two-clause-later
returns-in-Two-clause-later g c = λ told. later_on _ _ _ (c.in_ok-block.ensures.appends.later told) (c.add_node-in-Two.ensures.appends.later told)

pub returns-in_default-clause-copies : goal.returns-in_default-clause-copies
returns-in_default-clause-copies g c = λ told. inserts_first c.add_node.result c.args.root c.args.chunk c.args.value _ _ _ c.in_default.is refl (c.add_node.ensures.added told)

pub returns-in-One-clause-copies : goal.returns-in-One-clause-copies
returns-in-One-clause-copies g c = λ told.
    inserts_one c.args.root c.in-Some.at c.args.chunk c.args.value c.in-One.block (g.P.Pages.shelf c.args.pages.now) (g.P.Pages.shelf c.put.new.pages) c.in_ok-block.field-0 c.in-Some.is c.in-One.is (c.in_ok-block.ensures.copied told)

pub returns-in-Two-clause-copies : goal.returns-in-Two-clause-copies
returns-in-Two-clause-copies g c = λ told.
    inserts_two c.add_node-in-Two.result c.args.root c.in-Some.at c.args.chunk c.args.value c.in-Two.left c.in-Two.right _ (g.P.Pages.shelf c.args.pages.now) (g.P.Pages.shelf c.put.new.pages) (g.P.Pages.shelf c.add_node-in-Two.new.pages) c.in_ok-block.field-0
    c.in-Some.is c.in-Two.is refl (c.add_node-in-Two.ensures.appends.later told) (c.in_ok-block.ensures.copied told) (c.add_node-in-Two.ensures.added told)

pub returns-in_default-clause-few : goal.returns-in_default-clause-few
returns-in_default-clause-few g c = λ told ok at height entries is tree. omega (arith, c.add_node.ensures.few)

pub returns-in_err-block-clause-few : goal.returns-in_err-block-clause-few
returns-in_err-block-clause-few g c = λ told ok at height entries is tree.
    omega (arith, c.in_err-block.ensures.few height (root_down g.P.Pages.tells 9 at c.in-Some.at height c.args.root (g.P.Pages.shelf c.args.pages.now) ok entries told c.in-Some.is is tree))

pub returns-in-One-clause-few : goal.returns-in-One-clause-few
returns-in-One-clause-few g c = λ told ok at height entries is tree.
    omega (arith, c.in_ok-block.ensures.few height (root_down g.P.Pages.tells 9 at c.in-Some.at height c.args.root (g.P.Pages.shelf c.args.pages.now) ok entries told c.in-Some.is is tree))

pub returns-in-Two-clause-few : goal.returns-in-Two-clause-few
returns-in-Two-clause-few g c = λ told ok at height entries is tree.
    omega (arith, c.add_node-in-Two.ensures.few, c.in_ok-block.ensures.few height (root_down g.P.Pages.tells 9 at c.in-Some.at height c.args.root (g.P.Pages.shelf c.args.pages.now) ok entries told c.in-Some.is is tree))

pub returns-in_err-block-clause-most : goal.returns-in_err-block-clause-most
returns-in_err-block-clause-most g c = omega (arith, c.in_err-block.ensures.few 9 (inl refl))

pub returns-in-One-clause-most : goal.returns-in-One-clause-most
returns-in-One-clause-most g c = omega (arith, c.in_ok-block.ensures.few 9 (inl refl))

pub returns-in-Two-clause-most : goal.returns-in-Two-clause-most
returns-in-Two-clause-most g c = omega (arith, c.add_node-in-Two.ensures.few, c.in_ok-block.ensures.few 9 (inl refl))

pub returns-in_default-clause-unwritten : goal.returns-in_default-clause-unwritten
returns-in_default-clause-unwritten g c = λ file block is. absurd (never_damaged c.add_node.result (g.P.Pages.shelf c.add_node.new.pages) _ _ file block c.add_node.ensures.reason is)

pub returns-in_err-block-clause-unwritten : goal.returns-in_err-block-clause-unwritten
returns-in_err-block-clause-unwritten g c =
    let p = err_from_is_err_and c.from_residual.result c.from_residual.ensures.1 in
    rw (p.1, p.2) (λ file block is. c.in_err-block.ensures.unwritten file block (handed_on _ (Refusal.Damaged file block) is))

pub returns-in-Two-clause-unwritten : goal.returns-in-Two-clause-unwritten
returns-in-Two-clause-unwritten g c = λ file block is. absurd (never_damaged c.add_node-in-Two.result (g.P.Pages.shelf c.add_node-in-Two.new.pages) _ _ file block c.add_node-in-Two.ensures.reason is)
