use Rattle.std.proofs.Common.{◌+◌, ◌*◌, ℕ, Some, length, ap, ◌∙◌, sym}
use Rattle.std.proofs.lemmas.Bool.{both_ways}
use Rattle.node_page.proofs.NodeParts.{has_head, node_made, node_zeros, one_head, risen, same_node}
use Rattle.node_page.proofs.node.node_of.Goals as goal
use Rattle.node_page.proofs.node.node_of.Goals.{else-are_rising-via-then-are_rising+else-is_zero_from, else-are_rising-via-else-are_rising}

pub returns-in_err-head-clause-cases : goal.returns-in_err-head-clause-cases
returns-in_err-head-clause-cases c = rw c.from_residual.ensures (λ leaf entries is. c.in_err-head.ensures leaf (length entries) (has_head c.args.page.now leaf entries is))

pub returns-in_err-head-clause-exact : goal.returns-in_err-head-clause-exact
returns-in_err-head-clause-exact c leaf entries is = absurd (c.in_err-head.ensures leaf (length entries) (has_head c.args.page.now leaf entries is))

pub returns-then-is_zero_from-clause-cases : goal.returns-then-is_zero_from-clause-cases
returns-then-is_zero_from-clause-cases c =
    let head = c.in_ok-head.head in
    node_made c.args.page.now head.leaf head.count (2 + 2 * c.from.result) c.in_ok-head.ensures c.is_zero_from.ensures.bytes c.is_zero_from.ensures.whole
    (ap (λ (k : ℕ). 2 + 2 * k) c.from.ensures) (c.is_zero_from.ensures.cases.0 c.if-is_zero_from.true) (sym c.if-are_rising.true ∙ c.are_rising.ensures)

pub returns-then-is_zero_from-clause-exact : goal.returns-then-is_zero_from-clause-exact
returns-then-is_zero_from-clause-exact c leaf entries is =
    let head = c.in_ok-head.head in
    let same = one_head c.args.page.now head.leaf leaf head.count (length entries) c.in_ok-head.ensures (has_head c.args.page.now leaf entries is) in
    ap Some (same_node head leaf (length entries) same.0 same.1)

pub returns-else-are_rising-clause-cases : goal.returns-else-are_rising-clause-cases
returns-else-are_rising-clause-cases c leaf entries is =
    let page = c.args.page.now in
    let head = c.in_ok-head.head in
    let same = one_head page head.leaf leaf head.count (length entries) c.in_ok-head.ensures (has_head page leaf entries is) in
    elim c.else-are_rising.branch [
      | else-are_rising-via-then-are_rising+else-is_zero_from w ↦
          both_ways w.is_zero_from.result w.if-is_zero_from.false (w.is_zero_from.ensures.cases.1
          (node_zeros page leaf entries head.count (2 + 2 * c.from.result) is same.1 (ap (λ (k : ℕ). 2 + 2 * k) c.from.ensures)))
      | else-are_rising-via-else-are_rising w ↦ both_ways c.are_rising.result w.if-are_rising.false (c.are_rising.ensures ∙ risen page leaf entries head.count is same.1)
    ]

pub returns-else-are_rising-clause-exact : goal.returns-else-are_rising-clause-exact
returns-else-are_rising-clause-exact c leaf entries is = absurd (returns-else-are_rising-clause-cases c leaf entries is)
