use Rattle.std.proofs.Common.{refl}
use Rattle.block_host.specs.Sealed.{zeros, zero_block}
use Rattle.block_host.proofs.Back.{zero_block-torn}
use Rattle.block_host.proofs.block.Block.zeros.Goals as goal

pub returns-clause-value : goal.returns-clause-value
unfolding zeros zero_block
returns-clause-value c = refl

pub returns-clause-torn : goal.returns-clause-torn
unfolding zeros zero_block
returns-clause-torn c = zero_block-torn
