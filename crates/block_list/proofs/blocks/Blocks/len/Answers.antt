use Rattle.std.proofs.Common.{ap, length, arith}
use Rattle.block_list.proofs.Grouped.{length-grouped}
use Rattle.block_list.proofs.blocks.Blocks.len.Goals as goal

pub returns-clause-len : goal.returns-clause-len
returns-clause-len c =
    let blocks = c.self.inside in
    omega (arith, length-grouped blocks.whole blocks.last c.self.invariant.whole, ap length c.self.view_is)
