use Rattle.std.proofs.Common.{◌≡◌, ◌-◌}
use Rattle.btree_cow.proofs.Walking.{IsWalk}
use Rattle.btree_cow.proofs.walk.walk.Given as goal

abbrev pub invariant-loop-head : goal.invariant-loop-head
invariant-loop-head g l = record {
  kept : g.P.Pages.shelf l.pages ≡ g.P.Pages.shelf l.fn.pages;
  untroubled : g.P.Pages.faults l.pages ≡ g.P.Pages.faults l.fn.pages;
  walk : IsWalk g.P.Pages.tells (g.P.Pages.shelf l.fn.pages) l.fn.from l.here l.second l.aim.with l.aim.up l.aim.chunk;
}

abbrev pub decreases-loop-head : goal.decreases-loop-head
decreases-loop-head g l = 9 - l.here.depth
