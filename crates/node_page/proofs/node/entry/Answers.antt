use Rattle.std.proofs.Common.{◌+◌, ◌*◌, ap, ℕ}
use Rattle.node_page.proofs.NodeParts.{entry_read}
use Rattle.node_page.proofs.node.entry.Goals as goal

pub returns : goal.returns
returns c leaf entries is within =
    entry_read c.args.page.now leaf entries c.args.n (16 + 16 * c.from.result) c.long_at.result c.long_at-2.result is within
    (ap (λ (k : ℕ). 16 + 16 * k) c.from.ensures) c.long_at.ensures c.long_at-2.ensures
