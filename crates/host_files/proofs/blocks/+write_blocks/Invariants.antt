use Rattle.std.proofs.Common.{length}
use Rattle.host_files.proofs.blocks.+write_blocks.Given as goal

abbrev pub decreases-write_blocks : goal.decreases-write_blocks
decreases-write_blocks g l = length l.blocks.now
