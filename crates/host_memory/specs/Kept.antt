-- What a file keeps for a crash.
use Rattle.std.specs.Prelude.{List, Option, None, Some}
use Rattle.block_host.specs.declared.block.Block.{Block}
use Rattle.host_memory.specs.declared.file.Pending.{Pending}

-- the blocks at the last sync; the same as now where nothing is pending
abbrev pub synced_of : Option Pending → List Block → List Block
synced_of None blocks = blocks
synced_of (Some pending) blocks = pending.synced

-- the blocks where all that is pending is torn
abbrev pub shredded_of : Option Pending → List Block → List Block
shredded_of None blocks = blocks
shredded_of (Some pending) blocks = pending.torn
