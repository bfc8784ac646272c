use Rattle.std.proofs.Common.{◌≡◌, Bool, List, length, take}
use Rattle.node_page.specs.Nodes.{Entry, IsNode}
use Rattle.btree_cow.proofs.storing.entries_of.Given as goal

abbrev pub invariant-loop-n : goal.invariant-loop-n
invariant-loop-n l = record {
  long : length l.entries.items ≡ l.n;
  read : (leaf : Bool) (entries : List Entry) → IsNode l.page leaf entries → l.count ≡ length entries → l.entries.items ≡ take l.n entries;
}
