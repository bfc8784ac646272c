use Rattle.std.proofs.Common.{◌+◌, take, Some, IfOk, rules}
use Rattle.btree_cow.specs.Changes.{with_entry}
use Rattle.btree_cow.specs.Trees.{Tree}
use Rattle.file_pages.specs.Files.{told, host_shelf}
use Rattle.file_pages.proofs.Again.{by_same, inserted_again}
use Rattle.file_pages.proofs.appender.insert_by_host.Goals as goal

pub returns-clause-inserted : goal.returns-clause-inserted
returns-clause-inserted g c tells ok entries well is tree =
    let p = c.insert.new.pages in
    by_same (λ (h : g.row.H.Denot). IfOk c.insert.result (λ at. Tree ok (host_shelf (c.args.host.ghost_name, c.args.view.ghost_name) c.args.revision
    (told g.H.Host.tells (take (at + 1) ((g.H.Host.disk h).files c.args.revision))) (told g.H.View.View.tells (g.H.View.View.content c.args.view.now)) c.args.tail.now (at + 1) c.args.room.most c.args.room.max)
    (Some at) (with_entry entries c.args.chunk c.args.value))) _ p.host.now (search rules)
    (inserted_again (c.args.host.ghost_name, c.args.view.ghost_name) _ (p.host.ghost_name, p.view.ghost_name) c.args.revision p.revision g.H.Host.tells ((g.H.Host.disk c.args.host.now).files c.args.revision)
    (g.H.Host.disk p.host.now).files (told g.H.View.View.tells (g.H.View.View.content c.args.view.now)) (told g.H.View.View.tells (g.H.View.View.content p.view.now)) c.args.tail.now p.tail.now
    c.args.room.blocks p.blocks c.args.room.most p.most c.args.room.max p.max _ ok c.args.root entries (with_entry entries c.args.chunk c.args.value) c.args.value c.insert.result
    c.new-pages.ensures.shelf c.insert.ensures.limits (c.insert.ensures.later tells) (c.insert.ensures.inserted tells ok entries well) c.insert.ensures.last c.trees_go_by_blocks.ensures.blocks is tree)
