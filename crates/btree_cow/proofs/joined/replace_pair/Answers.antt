use Rattle.std.proofs.Common.{ap, ◌∙◌}
use Rattle.node_page.specs.Nodes.{rises}
use Rattle.btree_cow.proofs.Pairs.{led_rises, remove_rises}
use Rattle.btree_cow.proofs.joined.replace_pair.Goals as goal

pub put_entry-requires-clause-rise : goal.put_entry-requires-clause-rise
put_entry-requires-clause-rise c =
    ap rises c.remove-in-Two.ensures.items
    ∙ remove_rises c.lead_to-in-Two.new.children.items _ (ap rises c.lead_to-in-Two.ensures ∙ led_rises c.args.children.now.items c.args.place _ c.requires.rise)
