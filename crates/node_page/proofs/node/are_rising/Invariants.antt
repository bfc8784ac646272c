use Rattle.node_page.proofs.Rising.{RisesTo}
use Rattle.node_page.proofs.node.are_rising.Given as goal

abbrev pub invariant-loop-n : goal.invariant-loop-n
invariant-loop-n l = RisesTo l.count l.n l.last l.page.bytes
