use Rattle.std.proofs.Common.{◌≡◌, ◌≤◌, ℕ, IsTrue}
use Rattle.header_chain.specs.Chain.{IsSealedAt}
use Rattle.header_chain.proofs.walk.last.Given as goal

abbrev pub invariant-loop-left : goal.invariant-loop-left
invariant-loop-left g l = record {
  none : IsTrue g.V.View.tells → (at : ℕ) → l.left ≤ at → IsSealedAt l.rev (g.V.View.content l.initial.view) at → ⊥;
  content : IsTrue g.V.View.tells → g.V.View.content l.view ≡ g.V.View.content l.initial.view;
  untroubled : g.V.View.faults l.view ≡ g.V.View.faults l.initial.view;
}

abbrev pub decreases-loop-left : goal.decreases-loop-left
decreases-loop-left g l = l.left
