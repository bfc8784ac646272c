use Rattle.std.proofs.Common.{◌≡◌, ◌≤◌, ◌-◌, Bool, List, length}
use Rattle.node_page.specs.Nodes.{Entry, IsNode}
use Rattle.btree_cow.specs.Walks.{is_late}
use Rattle.btree_cow.proofs.Ranks.{IsBetween}
use Rattle.btree_cow.proofs.node_search.rank.Given as goal

abbrev pub invariant-loop-low : goal.invariant-loop-low
invariant-loop-low l = record {
  low_first : l.low ≤ l.high;
  within : l.high ≤ l.count;
  between : (leaf : Bool) (entries : List Entry) → IsNode l.page leaf entries → l.count ≡ length entries → IsBetween (is_late l.aim.with l.aim.up l.aim.chunk) entries l.low l.high;
}

abbrev pub decreases-loop-low : goal.decreases-loop-low
decreases-loop-low l = l.high - l.low
