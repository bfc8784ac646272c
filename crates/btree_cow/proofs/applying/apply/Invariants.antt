use Rattle.std.proofs.Common.{drop}
use Rattle.btree_cow.proofs.Applications.{Applies}
use Rattle.btree_cow.proofs.applying.apply.Given as goal

abbrev pub invariant-loop-change : goal.invariant-loop-change
invariant-loop-change g l =
    Applies g.P.Pages.tells (g.P.Pages.shelf l.fn.pages) (g.P.Pages.shelf l.pages) (g.P.Pages.faults l.fn.pages) (g.P.Pages.faults l.pages) l.fn.root l.at l.changes (drop l.change-index l.changes)
