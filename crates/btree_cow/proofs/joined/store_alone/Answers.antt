use Rattle.std.proofs.Common.{rules, ap, ◌∙◌}
use Rattle.node_page.specs.Nodes.{rises}
use Rattle.btree_cow.proofs.Pairs.{led_rises, remove_rises}
use Rattle.btree_cow.proofs.Takes.{alone_gone, alone_stored}
use Rattle.btree_cow.proofs.joined.store_alone.Goals as goal

pub returns-then-is_empty-clause-rise : goal.returns-then-is_empty-clause-rise
returns-then-is_empty-clause-rise g c = ap rises c.remove.ensures.items ∙ remove_rises c.args.children.now.items c.args.place c.requires.rise

pub returns-clause-rise : goal.returns-clause-rise
returns-clause-rise g c = ap rises c.lead_to.ensures ∙ led_rises c.args.children.now.items c.args.place _ c.requires.rise

pub returns-then-is_empty-clause-alone : goal.returns-then-is_empty-clause-alone
returns-then-is_empty-clause-alone g c = λ told.
    alone_gone (g.P.Pages.shelf c.args.pages.now) c.args.short.now.leaf c.args.short.now.entries.items c.args.children.now.items c.remove.new.self.items c.args.place (search rules) c.remove.ensures.items

pub returns-clause-alone : goal.returns-clause-alone
returns-clause-alone g c = λ told.
    alone_stored (g.P.Pages.shelf c.args.pages.now) (g.P.Pages.shelf c.add_node.new.pages) c.args.short.now.leaf c.args.short.now.entries.items c.as_slice.result.now c.args.children.now.items c.lead_to.new.children.items c.args.place c.in_ok-block.block
    c.as_slice.ensures.value (c.in_ok-block.ensures.added told) c.lead_to.ensures
