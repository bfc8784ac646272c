use Rattle.std.proofs.Common.{◌∙◌, ap, List}
use Rattle.node_page.specs.Nodes.{Entry, rises}
use Rattle.btree_cow.proofs.ChildPlaces.{block_rises}
use Rattle.btree_cow.proofs.overfull.replace_child.Goals as goal

pub put_entry-requires-clause-rise : goal.put_entry-requires-clause-rise
put_entry-requires-clause-rise c =
    ap (λ (l : List Entry). rises l) c.set_block-in-Two.ensures ∙ block_rises _ _ _ _ c.requires.here c.requires.rise
