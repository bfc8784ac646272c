use Rattle.std.proofs.Common.{arith}
use Rattle.block_host.proofs.Front.{all_bytes}
use Rattle.block_host.proofs.sealing.known.Goals as goal

pub returns : goal.returns
returns c = all_bytes c.args.bytes.now (λ i. omega (arith, c.type_inv.bytes i))
