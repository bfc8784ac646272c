use Rattle.std.proofs.Common.{arith}
use Rattle.node_page.proofs.reading.known.Goals as goal

pub returns : goal.returns
returns c = record { each = λ i. omega (arith, c.type_inv.bytes i) }
